-- What an insert into a draft's maps does, by the tests of names.
use Rattle.std.proofs.Common.{◌≡◌, ◌∙◌, ℕ, ℤ, Bool, List, Option, Some, Result, Ok, Err, IsOk, OnOk, sym, ap, subst, cond}
use Rattle.std.specs.Map.{lookup}
use Rattle.std.specs.Str.{bytes_eq}
use Rattle.indexmap.specs.IndexMap.{insert_entry}
use Rattle.network_laws.specs.Solutions.{IsPotential}
use Rattle.command_types.specs.Session.{with_draft_row, with_draft_potential}
use Rattle.units_core.specs.contracts.name.NamePartialEq.TheImpl.{eq-value as name_eq}
use Rattle.units_core.proofs.NameTests.{same_test}
use Rattle.session.specs.contracts.draft_rows.PairKeyPartialEq.TheImpl.{eq-value as pair_eq}
use Rattle.session.specs.contracts.draft_potentials.PlaceKeyPartialEq.TheImpl.{eq-value as place_eq}
use Rattle.session.specs.declared.draft_rows.PairKey.{PairKey}
use Rattle.session.specs.declared.draft_potentials.PlaceKey.{PlaceKey}
use Rattle.session.specs.Drafts.{row_of, rows_of, is_same_pair, potential_of, potentials_of, AreInRange}
use Rattle.session.proofs.KeyFacts.{pair_test, place_test}
use Rattle.session.proofs.DraftRowFacts.{rows_insert}
use Rattle.session.proofs.DraftNoteFacts.{IsWith}
use Rattle.session.proofs.PotentialFacts.{potentials_insert, range_after}

-- a fact on success, where the call succeeded
pub on_ok : {T E : Type 0} (result : Result T E) (P : Type 0) → IsOk result → OnOk result P → P
on_ok (Ok value) P ok holds = holds
on_ok (Err fault) P ok holds = absurd (cc ok)

-- an insert of an amount is one more row
pub one_more : (old new : List (PairKey × ℕ)) (key : PairKey) (amount given : ℕ) → given ≡ amount → new ≡ insert_entry pair_eq.it old key given →
    ((other : PairKey) → lookup (pair_eq.it other) new ≡ cond {A = Option ℕ} (pair_eq.it key other) (Some given) (lookup (pair_eq.it other) old)) → IsWith old new key amount
one_more old new key amount given same is looks =
    let P : (PairKey → PairKey → Bool) → Type 0 = λ eq. (other : PairKey) → lookup (eq other) new ≡ cond {A = Option ℕ} (eq key other) (Some given) (lookup (eq other) old) in
    let Q : ℕ → Type 0 = λ n. (other : PairKey) → lookup (is_same_pair other) new ≡ cond {A = Option ℕ} (is_same_pair key other) (Some n) (lookup (is_same_pair other) old) in
    record {
      rows = ap rows_of is ∙ ap (λ (eq : PairKey → PairKey → Bool). rows_of (insert_entry eq old key given)) pair_test ∙ rows_insert key given old ∙ ap (λ n. with_draft_row (row_of (key, n)) (rows_of old)) same;
      looks = subst Q same (subst P pair_test looks);
    }

name_test : name_eq.it ≡ bytes_eq
name_test = λ i. λ a. same_test a i

-- an insert of a product's sum, by the test of bytes
pub sum_looks : (old new : List (List ℕ × ℕ)) (product : List ℕ) (sum : ℕ) →
    ((other : List ℕ) → lookup (name_eq.it other) new ≡ cond {A = Option ℕ} (name_eq.it product other) (Some sum) (lookup (name_eq.it other) old)) →
    (other : List ℕ) → lookup (bytes_eq other) new ≡ cond {A = Option ℕ} (bytes_eq product other) (Some sum) (lookup (bytes_eq other) old)
sum_looks old new product sum looks =
    let P : (List ℕ → List ℕ → Bool) → Type 0 = λ eq. (other : List ℕ) → lookup (eq other) new ≡ cond {A = Option ℕ} (eq product other) (Some sum) (lookup (eq other) old) in
    subst P name_test looks

-- an insert of a potential is one more potential
pub one_potential : (old new : List (PlaceKey × ℤ)) (key : PlaceKey) (value given : ℤ) → given ≡ value → new ≡ insert_entry place_eq.it old key given →
    potentials_of new ≡ with_draft_potential (potential_of (key, value)) (potentials_of old)
one_potential old new key value given same is =
    ap potentials_of is ∙ ap (λ (eq : PlaceKey → PlaceKey → Bool). potentials_of (insert_entry eq old key given)) place_test ∙ potentials_insert key given old
    ∙ ap (λ v. with_draft_potential (potential_of (key, v)) (potentials_of old)) same

pub range_insert : (old new : List (PlaceKey × ℤ)) (key : PlaceKey) (value given : ℤ) → given ≡ value → IsPotential value →
    ((other : PlaceKey) → lookup (place_eq.it other) new ≡ cond {A = Option ℤ} (place_eq.it key other) (Some given) (lookup (place_eq.it other) old)) → AreInRange old → AreInRange new
range_insert old new key value given same in_range looks =
    let P : (PlaceKey → PlaceKey → Bool) → Type 0 = λ eq. (other : PlaceKey) → lookup (eq other) new ≡ cond {A = Option ℤ} (eq key other) (Some given) (lookup (eq other) old) in
    range_after old new key given (subst IsPotential (sym same) in_range) (subst P place_test looks)
