use Rattle.std.proofs.Common.{◌-◌, length}
use Rattle.book_tests.proofs.machine.taking_back.+go_back.Given as goal

abbrev pub decreases-go_back : goal.decreases-go_back
decreases-go_back l = length l.steps.now - l.from
