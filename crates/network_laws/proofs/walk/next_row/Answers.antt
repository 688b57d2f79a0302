use Rattle.std.proofs.Common.{◌+◌, ◌*◌, arith, ap, subst}
use Rattle.std.proofs.lemmas.List.{get_or_default}
use Rattle.network_laws.specs.declared.rows.Row.{Row}
use Rattle.network_laws.specs.Networks.{place, IsCursor}
use Rattle.network_laws.proofs.RowOrder.{cursor_past, cursor_stays}
use Rattle.network_laws.proofs.walk.next_row.Goals as goal
use Rattle.network_laws.proofs.walk.next_row.Goals.{else-at-rows-via-then-at-rows+else-place_of-wanted, else-at-rows-via-else-at-rows}

pub returns-then-place_of-wanted-clause-cursor : goal.returns-then-place_of-wanted-clause-cursor
returns-then-place_of-wanted-clause-cursor c =
    let w = c.args.seller * 65536 + c.args.buyer in
    let d : Row = record { seller = 0; buyer = 0; amount = 0 } in
    subst (λ n. IsCursor c.args.rows.now (c.args.at + 1) n) (omega arith) (cursor_past c.args.rows.now c.args.at w d c.requires.rising c.requires.cursor c.if-at-rows.true (omega arith))

pub returns-else-at-rows-clause-cursor : goal.returns-else-at-rows-clause-cursor
returns-else-at-rows-clause-cursor c =
    let w = c.args.seller * 65536 + c.args.buyer in
    let d : Row = record { seller = 0; buyer = 0; amount = 0 } in
    subst (λ n. IsCursor c.args.rows.now c.args.at n) (omega arith) (cursor_stays c.args.rows.now c.args.at w c.requires.rising c.requires.cursor (λ e l q. elim c.else-at-rows.branch [
      | else-at-rows-via-then-at-rows+else-place_of-wanted z ↦ omega (arith, ap place (get_or_default c.args.rows.now c.args.at e d l))
      | else-at-rows-via-else-at-rows z ↦ omega arith
    ]))
