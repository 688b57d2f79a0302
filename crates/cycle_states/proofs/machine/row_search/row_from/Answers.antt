use Rattle.std.proofs.Common.{◌≡◌, ◌≢◌, get_or, ap, arith, ⊎_elim}
use Rattle.std.proofs.lemmas.Bool.{cases_eq}
use Rattle.std.proofs.lemmas.List.{get_or_default}
use Rattle.network_laws.specs.declared.rows.Row.{Row}
use Rattle.network_laws.specs.Networks.{place}
use Rattle.cycle_states.proofs.machine.row_search.row_from.Goals as goal

abbrev no_row : Row
no_row = record { seller = 0; buyer = 0; amount = 0 }

pub returns-then-place_of-wanted-clause-cursor : goal.returns-then-place_of-wanted-clause-cursor
returns-then-place_of-wanted-clause-cursor c =
    let rows = c.args.rows.now in
    let at = c.loop-at.at in
    record {
      before = c.loop-at.invariant.before;
      behind = λ k d le l.
          let here = ap place (get_or_default rows at d no_row (omega arith)) in
          ⊎_elim (λ (e : k ≡ at). omega (arith, c.if-place_of-wanted.true, c.place_of.ensures, ap (λ j. place (get_or rows j d)) e, here))
          (λ (ne : k ≢ at). omega (arith, c.if-place_of-wanted.true, c.place_of.ensures, c.requires.rising at k d (omega arith) l, here))
          (cases_eq k at);
    }
