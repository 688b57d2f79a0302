use Rattle.std.proofs.Common.{◌≡◌, ◌<◌, ◌-◌, ◌+◌, ◌++◌, ℕ, ℤ, List, length, drop, take, ◌∙◌, ap, sym, subst, arith}
use Rattle.std.specs.Prelude.{All}
use Rattle.network_laws.specs.Limits.{potential}
use Rattle.network_laws.specs.Solutions.{IsPotential}
use Rattle.split_parts.specs.Own.{number_in}
use Rattle.split_parts.specs.Parts.{IsRisingPart}
use Rattle.split_parts.specs.Merged.{own_or, potential_in, IsGoodPart}
use Rattle.split_parts.proofs.Good.{good_read, potentials_step, whole_front}
use Rattle.split_parts.proofs.merging.merged_potentials.Goals as goal

pub put_potentials-requires-clause-rising : goal.put_potentials-requires-clause-rising
put_potentials-requires-clause-rising c =
    let k = c.loop-at.at - 1 in
    let end = c.loop-at.invariant.end in
    let good : IsGoodPart c.args.members c.index-parts-at.result c.index-solutions-at.result = good_read c.args.members c.args.parts.now c.args.solutions.now k c.index-parts-at.result c.index-solutions-at.result c.requires.good (omega (arith, c.loop-at-test.true)) c.index-parts-at.is c.index-solutions-at.is in
    subst IsRisingPart (sym c.members.ensures) good.rising

pub put_potentials-requires-clause-within : goal.put_potentials-requires-clause-within
put_potentials-requires-clause-within c =
    let k = c.loop-at.at - 1 in
    let end = c.loop-at.invariant.end in
    let good : IsGoodPart c.args.members c.index-parts-at.result c.index-solutions-at.result = good_read c.args.members c.args.parts.now c.args.solutions.now k c.index-parts-at.result c.index-solutions-at.result c.requires.good (omega (arith, c.loop-at-test.true)) c.index-parts-at.is c.index-solutions-at.is in
    let size : length c.deref_mut.result.now ≡ c.args.members = ap length c.deref_mut.ensures.value ∙ c.loop-at.invariant.size in
    subst (λ (n : ℕ). All (λ m. m < n) c.members.result.now) (sym size) (subst (λ (p : List ℕ). All (λ m. m < c.args.members) p) (sym c.members.ensures) good.within)

pub put_potentials-requires-clause-one_each : goal.put_potentials-requires-clause-one_each
put_potentials-requires-clause-one_each c =
    let k = c.loop-at.at - 1 in
    let end = c.loop-at.invariant.end in
    let good : IsGoodPart c.args.members c.index-parts-at.result c.index-solutions-at.result = good_read c.args.members c.args.parts.now c.args.solutions.now k c.index-parts-at.result c.index-solutions-at.result c.requires.good (omega (arith, c.loop-at-test.true)) c.index-parts-at.is c.index-solutions-at.is in
    c.potentials.ensures.one_each ∙ good.size ∙ sym (ap length c.members.ensures)

pub loop-at-preserved : goal.loop-at-preserved
loop-at-preserved c =
    let k = c.loop-at.at - 1 in
    let end = c.loop-at.invariant.end in
    let same = c.requires.same in
    let size : length c.deref_mut.result.now ≡ c.args.members = ap length c.deref_mut.ensures.value ∙ c.loop-at.invariant.size in
    let new = c.put_potentials.new.potentials in
    let back : c.loop-at.at ≡ k + 1 = omega (arith, c.loop-at-test.true) in
    let whole : take c.loop-at.potentials.len (new ++ drop (length new) c.loop-at.potentials.items) ≡ new = whole_front c.loop-at.potentials.len new (drop (length new) c.loop-at.potentials.items) (omega (arith, c.put_potentials.auto.potentials, c.deref_mut.ensures.len)) in
    let value : (m : ℕ) → m < c.args.members → potential new m ≡ potential_in (drop k c.args.parts.now) (drop k c.args.solutions.now) m =
    λ m l.
    c.put_potentials.ensures.value m (omega arith)
    ∙ ap (λ p. own_or (number_in p m) c.potentials.result.now (potential c.deref_mut.result.now m)) c.members.ensures
    ∙ ap (λ (xs : List ℤ). own_or (number_in c.index-parts-at.result m) xs (potential c.deref_mut.result.now m)) c.potentials.ensures.value
    ∙ ap (λ z. own_or (number_in c.index-parts-at.result m) c.index-solutions-at.result.potentials z) (ap (λ (xs : List ℤ). potential xs m) c.deref_mut.ensures.value ∙ c.loop-at.invariant.value m l ∙ ap (λ n. potential_in (drop n c.args.parts.now) (drop n c.args.solutions.now) m) back)
    ∙ sym (potentials_step c.args.parts.now c.args.solutions.now k c.index-parts-at.result c.index-solutions-at.result m (omega (arith, c.loop-at-test.true)) (omega (arith, c.loop-at-test.true)) c.index-parts-at.is c.index-solutions-at.is) in
    record {
      end = omega arith;
      size = ap length whole ∙ c.put_potentials.auto.potentials ∙ size;
      value = λ m l. ap (λ (xs : List ℤ). potential xs m) whole ∙ value m l;
      in_range = subst (λ (xs : List ℤ). All IsPotential xs) (sym whole) c.put_potentials.ensures.in_range;
    }
