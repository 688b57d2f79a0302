use Rattle.std.proofs.Common.{◌≡◌, ◌+◌, ℕ, ◌<◌, length, get_or}
use Rattle.path_solver.proofs.lowest.net_out.Given as goal

abbrev pub invariant-loop-member : goal.invariant-loop-member
invariant-loop-member l = record {
  surplus : length l.balance.surplus.items ≡ length l.initial.balance.surplus.items;
  lack : length l.balance.lack.items ≡ length l.initial.balance.lack.items;
  apart : (v : ℕ) → v < l.member → 0 < get_or l.balance.lack.items v 0 → get_or l.balance.surplus.items v 0 ≡ 0;
  same : (i : ℕ) → get_or l.balance.surplus.items i 0 + get_or l.initial.balance.lack.items i 0 ≡ get_or l.initial.balance.surplus.items i 0 + get_or l.balance.lack.items i 0;
}
