use Rattle.std.proofs.Common.{◌≡◌, ◌≢◌, ◌<◌, length, get_or, ap, arith, ⊎_elim}
use Rattle.std.proofs.lemmas.Bool.{cases_eq}
use Rattle.std.proofs.lemmas.List.{get_or_default}
use Rattle.network_laws.specs.declared.rows.Row.{Row}
use Rattle.network_laws.specs.Networks.{place}
use Rattle.acceptance.proofs.cursors.buyer_at.Goals as goal

pub returns-clause-cursor : goal.returns-clause-cursor
returns-clause-cursor c = λ buyer le cursor to up most.
    let rows = c.args.rows.now in
    let m = c.args.at in
    let none : Row = record { seller = 0; buyer = 0; amount = 0 } in
    let within : m < length rows = omega (arith, c.if-at-rows.false) in
    let here = cursor.behind m none (omega arith) within in
    record {
      before = λ k d l. omega (arith, up, cursor.before k d l);
      behind = λ k d mk l.
          ⊎_elim (λ (e : k ≡ m). omega (arith, here, most, c.saturating_sub-ahead.ensures, c.place_of.ensures, c.min.ensures, ap (λ j. place (get_or rows j d)) e, ap place (get_or_default rows m none d within)))
          (λ (ne : k ≢ m). omega (arith, here, most, c.saturating_sub-ahead.ensures, c.place_of.ensures, c.min.ensures, ap place (get_or_default rows m none d within), c.requires.rising m k d (omega arith) l))
          (cases_eq k m);
    }
