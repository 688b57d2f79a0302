use Rattle.std.proofs.Common.{◌≡◌, ◌≢◌, ◌+◌, ◌-◌, get_or, ap, arith, ⊎_elim}
use Rattle.std.proofs.lemmas.Bool.{cases_eq}
use Rattle.network_laws.specs.Limits.{limit_place}
use Rattle.cycle_states.proofs.machine.row_search.limit_from.Goals as goal

pub returns-clause-cursor : goal.returns-clause-cursor
returns-clause-cursor c =
    let rows = c.args.rows.now in
    let at = c.limits_passed.result in
    let same : at + 1 - 1 ≡ at = omega arith in
    record {
      before = c.limits_passed.ensures.past.before;
      behind = λ k d le l.
          let here = ap (λ j. limit_place (get_or rows j d)) same in
          let first = c.limits_passed.ensures.stops (omega (arith, le, l)) d in
          ⊎_elim (λ (e : k ≡ at). omega (arith, first, here, ap (λ j. limit_place (get_or rows j d)) e))
          (λ (ne : k ≢ at). omega (arith, first, here, c.requires.rising at k d (omega (arith, ne, le)) l))
          (cases_eq k at);
    }
