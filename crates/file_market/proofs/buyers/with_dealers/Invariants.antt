use Rattle.std.proofs.Common.{◌≡◌, ℕ, ◌<◌, ◌≤◌, false}
use Rattle.std.specs.Prelude.{slice_get}
use Rattle.command_types.specs.Tolerances.{is_dealer_row}
use Rattle.file_market.proofs.buyers.with_dealers.Given as goal

abbrev pub invariant-loop-place : goal.invariant-loop-place
invariant-loop-place l = record {
  end : l.end ≤ l.place;
  last : (k : ℕ) → l.end ≤ k → k < l.place → is_dealer_row (slice_get l.members k) ≡ false;
}
