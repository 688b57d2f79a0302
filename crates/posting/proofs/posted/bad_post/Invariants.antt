use Rattle.std.proofs.Common.{◌≡◌, drop}
use Rattle.command_types.specs.Cycles.{first_uncertified}
use Rattle.posting.proofs.posted.bad_post.Given as goal

abbrev pub invariant-loop-place : goal.invariant-loop-place
invariant-loop-place l =
    first_uncertified 0 l.problems l.solutions ≡ first_uncertified l.place (drop l.place l.problems) (drop l.place l.solutions)
