use Rattle.std.proofs.Common.{◌-◌, ◌<◌, length, get_or, None, arith}
use Rattle.network_laws.specs.declared.rows.LimitRow.{LimitRow}
use Rattle.network_laws.specs.Limits.{limit_place, IsGoodLimit}
use Rattle.network_laws.proofs.LimitOrder.{AreLimitRows-more, within_some, within_none}
use Rattle.network_laws.proofs.limits.check_limit_rows.Goals as goal
use Rattle.network_laws.proofs.limits.check_limit_rows.Goals.{else-at-gt0-via-then-at-gt0+else-limit_place_of, else-at-gt0-via-else-at-gt0, in-Some+else-upper-row, in_default}

pub loop-at-preserved : goal.loop-at-preserved
loop-at-preserved c =
    let i = c.loop-at.at in
    let rows = c.args.rows.now in
    let d : LimitRow = record { seller = 0; buyer = 0; lower = 0; upper = None } in
    let l : i < length rows = omega arith in
    let good : IsGoodLimit c.args.members (get_or rows i d) = record {
      seller = omega arith;
      buyer = omega arith;
      different = c.if-row.false;
      not_crossed = elim c.match-row.branch [
        | in-Some+else-upper-row w ↦ let k = w.in-Some in within_some _ k.upper _ k.is w.if-upper-row.false
        | in_default w ↦ within_none _ _ w.in_default.is
      ];
    } in
    let after : 0 < i → limit_place (get_or rows (i - 1) d) < limit_place (get_or rows i d) = λ h. elim c.else-at-gt0.branch [
      | else-at-gt0-via-then-at-gt0+else-limit_place_of w ↦ omega arith
      | else-at-gt0-via-else-at-gt0 w ↦ omega arith
    ] in
    AreLimitRows-more c.args.members rows i d l c.loop-at.invariant good after
