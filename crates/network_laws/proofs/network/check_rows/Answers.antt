use Rattle.std.proofs.Common.{◌-◌, ◌<◌, length, get_or, arith}
use Rattle.std.proofs.lemmas.List.Sums.{sum_by_more}
use Rattle.network_laws.specs.declared.rows.Row.{Row}
use Rattle.network_laws.specs.Networks.{place, IsGoodRow}
use Rattle.network_laws.proofs.RowOrder.{AreRows-more}
use Rattle.network_laws.proofs.network.check_rows.Goals as goal
use Rattle.network_laws.proofs.network.check_rows.Goals.{else-at-gt0-via-then-at-gt0+else-place_of, else-at-gt0-via-else-at-gt0}

pub loop-at-preserved : goal.loop-at-preserved
loop-at-preserved c =
    let i = c.loop-at.at in
    let rows = c.args.rows.now in
    let d : Row = record { seller = 0; buyer = 0; amount = 0 } in
    let l : i < length rows = omega arith in
    let good : IsGoodRow c.args.members (get_or rows i d) = record { seller = omega arith; buyer = omega arith; different = c.if-row.false; positive = omega arith } in
    let after : 0 < i → place (get_or rows (i - 1) d) < place (get_or rows i d) = λ h. elim c.else-at-gt0.branch [
      | else-at-gt0-via-then-at-gt0+else-place_of w ↦ omega arith
      | else-at-gt0-via-else-at-gt0 w ↦ omega arith
    ] in
    (omega (arith, sum_by_more (λ (row : Row). row.amount) rows i d l), AreRows-more c.args.members rows i d l c.loop-at.invariant.1 good after (omega arith))
