use Rattle.std.proofs.Common.{◌+◌, ◌*◌, None, arith, ap, subst}
use Rattle.std.proofs.lemmas.List.{get_or_default}
use Rattle.network_laws.specs.declared.rows.LimitRow.{LimitRow}
use Rattle.network_laws.specs.Limits.{limit_place, IsLimitCursor}
use Rattle.network_laws.proofs.LimitOrder.{cursor_past, cursor_stays}
use Rattle.network_laws.proofs.walk.next_limit.Goals as goal
use Rattle.network_laws.proofs.walk.next_limit.Goals.{else-at-rows-via-then-at-rows+else-limit_place_of-wanted, else-at-rows-via-else-at-rows}

pub returns-then-limit_place_of-wanted-clause-cursor : goal.returns-then-limit_place_of-wanted-clause-cursor
returns-then-limit_place_of-wanted-clause-cursor c =
    let w = c.args.seller * 65536 + c.args.buyer in
    let d : LimitRow = record { seller = 0; buyer = 0; lower = 0; upper = None } in
    subst (λ n. IsLimitCursor c.args.rows.now (c.args.at + 1) n) (omega arith) (cursor_past c.args.rows.now c.args.at w d c.requires.rising c.requires.cursor c.if-at-rows.true (omega arith))

pub returns-else-at-rows-clause-cursor : goal.returns-else-at-rows-clause-cursor
returns-else-at-rows-clause-cursor c =
    let w = c.args.seller * 65536 + c.args.buyer in
    let d : LimitRow = record { seller = 0; buyer = 0; lower = 0; upper = None } in
    subst (λ n. IsLimitCursor c.args.rows.now c.args.at n) (omega arith) (cursor_stays c.args.rows.now c.args.at w c.requires.rising c.requires.cursor (λ e l q. elim c.else-at-rows.branch [
      | else-at-rows-via-then-at-rows+else-limit_place_of-wanted z ↦ omega (arith, ap limit_place (get_or_default c.args.rows.now c.args.at e d l))
      | else-at-rows-via-else-at-rows z ↦ omega arith
    ]))
