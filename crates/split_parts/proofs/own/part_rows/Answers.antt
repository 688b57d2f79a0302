use Rattle.std.proofs.Common.{◌≢◌, ◌<◌, ◌≤◌, ◌∙◌, ℕ, length, get_or, refl, ap, sym, arith}
use Rattle.network_laws.specs.declared.rows.Row.{Row}
use Rattle.std.proofs.lemmas.List.{get_or_default}
use Rattle.split_parts.specs.Own.{number_in, own_row}
use Rattle.split_parts.proofs.Kept.{kept_more, kept_none}
use Rattle.split_parts.proofs.Numbers.{not_some, number_at}
use Rattle.split_parts.proofs.OwnFacts.{row_outside}
use Rattle.split_parts.proofs.Sellers.{at_seller, done, left, next_row, skipped}
use Rattle.split_parts.proofs.own.part_rows.Goals as goal
use Rattle.split_parts.proofs.own.part_rows.Goals.{in-Some+in_ok-push, in_default, then-loop-at-test+else-rows-at, else-loop-at-test}

abbrev blank : Row
blank = record { seller = 0; buyer = 0; amount = 0 }

pub loop-at-init : goal.loop-at-init
loop-at-init c =
    let rows = c.args.rows.now in
    let part = c.args.part.members.now in
    let n = c.loop-number.number in
    let to = c.rows_from-at.result in
    let i = c.loop-number.invariant in
    let cursor = c.rows_from-at.ensures.cursor in
    let below : (k : ℕ) (d : Row) → k < to → (get_or rows k d).seller < get_or part n 0 = λ k d lk. let a = cursor.before k d lk in omega arith in
    let above : (k : ℕ) (d : Row) → to ≤ k → k < length rows → get_or part n 0 ≤ (get_or rows k d).seller = λ k d le lk. let a = cursor.behind k d le lk in let b = c.requires.within k d lk in let b1 = b.1 in omega (arith, c.requires.few) in
    record {
      end = c.rows_from-at.ensures.end;
      here = c.loop-number-test.true;
      own = skipped (λ (row : Row). row.seller) (own_row part) part rows blank c.loop-number.at to n c.loop-number.own.items c.requires.members c.loop-number-test.true (row_outside part) i.stands i.end c.rows_from-at.ensures.end below above i.own;
      stands = at_seller (λ (row : Row). row.seller) rows to (get_or part n 0) below above;
    }

pub overflow_cast-number : goal.overflow_cast-number
overflow_cast-number c = omega (arith, c.loop-at.invariant.here, c.requires.short)

pub row_in-requires-clause-seller : goal.row_in-requires-clause-seller
row_in-requires-clause-seller c = ap (number_in c.args.part.members.now) c.if-rows-at.true ∙ number_at c.args.part.members.now c.loop-number.number c.requires.members c.loop-at.invariant.here

pub loop-at-preserved : goal.loop-at-preserved
loop-at-preserved c =
    let rows = c.args.rows.now in
    let part = c.args.part.members.now in
    let at = c.loop-at.at in
    let i = c.loop-at.invariant in
    let stands = next_row (λ (row : Row). row.seller) rows at (get_or part c.loop-number.number 0) blank c.loop-at-test.true c.if-rows-at.true i.stands in
    elim c.match-row_in.branch [
      | in-Some+in_ok-push w ↦
          record {
            end = omega (arith, c.loop-at-test.true);
            here = i.here;
            own = ap (λ (own : _). own.items) w.own-is ∙ kept_more (own_row part) rows at blank c.loop-at.own.items w.push.new.self.items w.in-Some.row c.loop-at-test.true i.own (sym c.row_in.ensures ∙ w.in-Some.is) w.in_ok-push.ensures.items;
            stands = stands;
          }
      | in_default w ↦
          record {
            end = omega (arith, c.loop-at-test.true);
            here = i.here;
            own = ap (λ (own : _). own.items) w.own-is ∙ kept_none (own_row part) rows at blank c.loop-at.own.items c.loop-at-test.true i.own (sym c.row_in.ensures ∙ not_some _ w.in_default.not-Some);
            stands = stands;
          }
    ]

pub loop-number-preserved : goal.loop-number-preserved
loop-number-preserved c =
    let rows = c.args.rows.now in
    let part = c.args.part.members.now in
    let n = c.loop-number.number in
    let at = c.loop-at.at in
    let i = c.loop-at.invariant in
    let short : (k : ℕ) (d : Row) → k < length rows → (get_or rows k d).buyer < 65536 = λ k d lk. let b = c.requires.within k d lk in let b1 = b.1 in omega (arith, c.requires.few) in
    let other : (d : Row) → at < length rows → (get_or rows at d).seller ≢ get_or part n 0 =
    λ d within same.
    elim c.loop-at-test.branch [
      | then-loop-at-test+else-rows-at w ↦ w.if-rows-at.false (ap (λ (row : Row). row.seller) (get_or_default rows at blank d within) ∙ same)
      | else-loop-at-test w ↦ absurd (omega (arith, w.loop-at-test.false))
    ] in
    record {
      end = i.end;
      own = i.own;
      stands = left (λ (row : Row). row.seller) (λ (row : Row). row.buyer) part rows at n (get_or part n 0) c.requires.members i.here refl c.requires.rising short other i.stands;
    }

pub returns : goal.returns
returns c =
    let rows = c.args.rows.now in
    let part = c.args.part.members.now in
    let i = c.loop-number.invariant in
    done (λ (row : Row). row.seller) (own_row part) part rows blank c.loop-number.at c.loop-number.number c.loop-number.own.items c.loop-number-test.false (row_outside part) i.stands i.end i.own
