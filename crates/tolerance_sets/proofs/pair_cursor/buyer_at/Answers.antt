use Rattle.std.proofs.Common.{◌+◌, ◌*◌, ◌<◌, length, ap, arith}
use Rattle.std.proofs.lemmas.List.{get_or_default}
use Rattle.network_laws.specs.declared.rows.Row.{Row}
use Rattle.network_laws.specs.Networks.{place}
use Rattle.tolerance_sets.proofs.Passed.{cursor_raised}
use Rattle.tolerance_sets.proofs.pair_cursor.buyer_at.Goals as goal

abbrev no_row : Row
no_row = record { seller = 0; buyer = 0; amount = 0 }

pub returns-clause-cursor : goal.returns-clause-cursor
returns-clause-cursor c = λ buyer le cursor.
    let rows = c.args.rows.now in
    let m = c.args.at in
    let start = c.args.seller * 65536 in
    let within : m < length rows = omega (arith, c.if-at-rows.false) in
    let behind = cursor.behind m no_row (omega arith) within in
    cursor_raised rows m (start + buyer) (start + c.min.result) c.requires.rising cursor
    (omega (arith, le, behind, c.place_of.ensures, c.saturating_sub-ahead.ensures, c.min.ensures))
    (λ d l. omega (arith, behind, c.place_of.ensures, c.saturating_sub-ahead.ensures, c.min.ensures, ap place (get_or_default rows m no_row d l)))
