-- The keys of a draft are the same where `==` says so.
use Rattle.std.proofs.Common.{◌≡◌, ◌∙◌, Bool, true, false, ◌&&◌, refl}
use Rattle.std.specs.Str.{bytes_eq}
use Rattle.units_core.proofs.NameTests.{same_name}
use Rattle.session.specs.contracts.draft_rows.PairKeyPartialEq.TheImpl.{eq-value as pair_eq}
use Rattle.session.specs.contracts.draft_potentials.PlaceKeyPartialEq.TheImpl.{eq-value as place_eq}
use Rattle.session.specs.declared.draft_rows.PairKey.{PairKey}
use Rattle.session.specs.Drafts.{is_same_pair, is_same_place}

and_grouped : (x y z : Bool) → (x && (y && z)) ≡ (x && y && z)
and_grouped true y z = refl
and_grouped false y z = refl

same_pair : (a b : PairKey) → pair_eq.it a b ≡ is_same_pair a b
same_pair a b =
    (λ i. same_name a.product b.product i && (same_name a.seller b.seller i && same_name a.buyer b.buyer i))
    ∙ and_grouped (bytes_eq a.product b.product) (bytes_eq a.seller b.seller) (bytes_eq a.buyer b.buyer)

-- the test of pairs is that of their names
pub pair_test : pair_eq.it ≡ is_same_pair
pair_test = λ i. λ a b. same_pair a b i

-- the test of places is that of their names
pub place_test : place_eq.it ≡ is_same_place
place_test = λ i. λ a b. same_name a.product b.product i && same_name a.member b.member i
