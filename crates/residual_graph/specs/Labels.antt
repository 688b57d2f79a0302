-- Labels that no arc can lower.
use Rattle.std.specs.Prelude.{ℕ, ◌<◌, List, slice_index_or, ℤ, pos, ◌+ℤ◌, ◌≤ℤ◌}
use Rattle.residual_graph.specs.declared.flow.Flow.{Flow}
use Rattle.residual_graph.specs.Arcs.{arc_count, head, tail, room, cost}

abbrev pub label : List ℤ → ℕ → ℤ
label d v = slice_index_or d v (pos 0)

-- no arc with room leads to a label above its tail's and its cost
abbrev pub AreLabels : List Flow → List ℤ → Type 0
AreLabels flows d =
    (a : ℕ) → a < arc_count flows → 0 < room flows a → label d (head flows a) ≤ℤ (label d (tail flows a) +ℤ cost a)
