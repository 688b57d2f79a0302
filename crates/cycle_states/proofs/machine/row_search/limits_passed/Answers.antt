use Rattle.std.proofs.Common.{◌≡◌, ◌≢◌, ◌+◌, ◌-◌, ◌<◌, None, get_or, length, ap, arith, ⊎_elim}
use Rattle.std.proofs.lemmas.Bool.{cases_eq}
use Rattle.std.proofs.lemmas.List.{get_or_default}
use Rattle.network_laws.specs.declared.rows.LimitRow.{LimitRow}
use Rattle.network_laws.specs.Limits.{limit_place}
use Rattle.cycle_states.proofs.machine.row_search.limits_passed.Goals as goal

abbrev no_limit : LimitRow
no_limit = record { seller = 0; buyer = 0; lower = 0; upper = None }

pub loop-at-preserved : goal.loop-at-preserved
loop-at-preserved c =
    let rows = c.args.rows.now in
    let at = c.loop-at.at in
    let last = at + c.args.step - 1 in
    let within : last < length rows = omega (arith, c.loop-at-test.true, c.loop-at.invariant.end, c.requires.step) in
    record {
      end = omega (arith, c.loop-at-test.true, c.loop-at.invariant.end, c.requires.step);
      before = λ k d l.
          let here = ap limit_place (get_or_default rows last d no_limit within) in
          ⊎_elim (λ (e : k ≡ last). omega (arith, c.if-limit_place_of-wanted.false, c.limit_place_of.ensures, ap (λ j. limit_place (get_or rows j d)) e, here))
          (λ (ne : k ≢ last). omega (arith, c.if-limit_place_of-wanted.false, c.limit_place_of.ensures, c.requires.rising k last d (omega (arith, ne, l, c.requires.step)) within, here))
          (cases_eq k last);
    }
