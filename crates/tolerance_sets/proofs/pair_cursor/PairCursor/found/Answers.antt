use Rattle.std.proofs.Common.{◌≡◌, ℕ, ◌+◌, ◌*◌, ◌<◌, ◌≤◌, false, arith}
use Rattle.command_types.specs.Tolerances.{may_grow}
use Rattle.tolerance_sets.proofs.Passed.{cursor_between, have_none}
use Rattle.tolerance_sets.proofs.pair_cursor.PairCursor.found.Goals as goal
use Rattle.tolerance_sets.proofs.pair_cursor.PairCursor.found.Goals.{then-self, else-self}

pub returns-clause-passed : goal.returns-clause-passed
returns-clause-passed c =
    let market = c.args.market.now in
    let at = c.args.self in
    let last = c.buyer_at.ensures.cursor at.buyer c.requires.pair.end c.requires.pair.row in
    let from = c.buyer_at.ensures.from at.buyer c.requires.pair.end c.requires.pair.row in
    let still : (j : ℕ) → at.buyer ≤ j → j < c.if-self.growing → may_grow market.mode market.members.now at.seller j ≡ false = elim c.if-self.branch [
      | then-self w ↦ λ j le l. w.growing_from-growing.ensures.passed j le (omega (arith, w.growing-is, l))
      | else-self w ↦ λ j le l. c.requires.pair.growing j le (omega (arith, w.growing-is, l))
    ] in
    let up_to : at.buyer ≤ c.if-self.growing = elim c.if-self.branch [
      | then-self w ↦ omega (arith, w.growing-is, w.growing_from-growing.ensures.from)
      | else-self w ↦ omega (arith, w.growing-is, w.if-self.false)
    ] in
    let below : at.buyer ≤ c.min-buyer.result = omega (arith, up_to, from, c.min-buyer.ensures) in
    have_none market at.row_at at.seller at.buyer c.min-buyer.result c.requires.pair.row (cursor_between market.network.now at.row_at (at.seller * 65536 + at.buyer) (at.seller * 65536 + c.buyer_at.result) (at.seller * 65536 + c.min-buyer.result) c.requires.pair.row last (omega (arith, below)) (omega (arith, c.min-buyer.ensures))) (λ j le l. still j le (omega (arith, l, c.min-buyer.ensures)))
