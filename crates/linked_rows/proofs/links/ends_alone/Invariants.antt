use Rattle.std.proofs.Common.{◌≡◌}
use Rattle.linked_rows.specs.Links.{ends_alone}
use Rattle.linked_rows.proofs.links.ends_alone.Given as goal

abbrev pub invariant-loop-end : goal.invariant-loop-end
invariant-loop-end l = l.links.items ≡ ends_alone l.end
