use Rattle.std.proofs.Common.{◌≡◌, ℕ, ◌+◌, ◌*◌, ◌<◌, List, length, get_or, arith, sym, ◌∙◌}
use Rattle.network_laws.specs.declared.rows.Row.{Row}
use Rattle.network_laws.specs.Networks.{pair_part, amount_in, IsRising, IsCursor}
use Rattle.network_laws.proofs.RowOrder.{amount_here, amount_none, pair_part-other_buyer}
use Rattle.network_laws.proofs.RowSums.{pair_part-is, pair_part-seller}
use Rattle.network_laws.proofs.walk.amount_at.Goals as goal
use Rattle.network_laws.proofs.walk.amount_at.Goals.{else-at-rows-via-then-at-rows+then-rows-at+else-rows-at-2, else-at-rows-via-then-at-rows+else-rows-at, else-at-rows-via-else-at-rows}

here : (rows : List Row) (i j m : ℕ) (d : Row) → m < length rows → IsRising rows → IsCursor rows m (i * 65536 + j) → amount_in rows i j ≡ pair_part i j (get_or rows m d)
here rows i j m d l rising c = amount_here rows i j m d l rising c.before c.behind

pub returns-then-rows-at-2 : goal.returns-then-rows-at-2
returns-then-rows-at-2 c =
    let rows = c.args.rows.now in
    let d : Row = record { seller = 0; buyer = 0; amount = 0 } in
    let found = here rows c.args.seller c.args.buyer c.args.at d c.if-at-rows.true c.requires.rising c.requires.cursor in
    sym (found ∙ pair_part-is c.args.seller c.args.buyer (get_or rows c.args.at d) c.if-rows-at.true c.if-rows-at-2.true)

pub returns-else-at-rows : goal.returns-else-at-rows
returns-else-at-rows c =
    let rows = c.args.rows.now in
    let i = c.args.seller in
    let j = c.args.buyer in
    let m = c.args.at in
    let d : Row = record { seller = 0; buyer = 0; amount = 0 } in
    elim c.else-at-rows.branch [
      | else-at-rows-via-then-at-rows+then-rows-at+else-rows-at-2 w ↦
          sym (here rows i j m d w.if-at-rows.true c.requires.rising c.requires.cursor ∙ pair_part-other_buyer i j (get_or rows m d) w.if-rows-at-2.false)
      | else-at-rows-via-then-at-rows+else-rows-at w ↦
          sym (here rows i j m d w.if-at-rows.true c.requires.rising c.requires.cursor ∙ pair_part-seller i j (get_or rows m d) (λ e. w.if-rows-at.false (sym e)))
      | else-at-rows-via-else-at-rows w ↦
          sym (amount_none rows i j (λ k e l q. omega (arith, c.requires.cursor.before k e (omega arith))))
    ]
