use Rattle.std.proofs.Common.{◌≡◌, ◌++◌}
use Rattle.command_types.specs.Books.{listed_below}
use Rattle.compress_server.specs.Told.{rows_told}
use Rattle.compress_server.proofs.replay_text.push_members.Given as goal

abbrev pub invariant-loop-member : goal.invariant-loop-member
invariant-loop-member l = l.text.items ≡ l.fn.text.items ++ listed_below l.member (rows_told l.fn.machine.state)
