use Rattle.std.proofs.Common.{◌≡◌, ℕ, ◌<◌, false, get_or}
use Rattle.product_book.specs.Freezes.{chosen_by}
use Rattle.cycle_states.proofs.machine.freezing.choose.Given as goal

abbrev pub invariant-loop-place : goal.invariant-loop-place
invariant-loop-place l = (k : ℕ) → k < l.place → get_or l.flags k false ≡ get_or (chosen_by l.products l.day) k false
