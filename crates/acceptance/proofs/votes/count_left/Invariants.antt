use Rattle.std.proofs.Common.{◌≡◌, ◌≤◌}
use Rattle.command_types.specs.Books.{listed_below}
use Rattle.acceptance.specs.Votes.{flagged, is_flagged, left_of}
use Rattle.acceptance.proofs.FlagFacts.{marked}
use Rattle.acceptance.proofs.votes.count_left.Given as goal

abbrev pub invariant-loop-place : goal.invariant-loop-place
invariant-loop-place l = (l.left ≡ left_of (listed_below l.place (marked (is_flagged l.needed.words))) (flagged l.accepted.words)) × (l.left ≤ l.place)
