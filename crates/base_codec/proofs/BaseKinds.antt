-- The kinds of fields that bases alone have, and the lists of names.
use Rattle.std.proofs.Common.{◌≡◌, ℕ, ◌+◌, ◌<◌, Bool, true, false, cond, eqb, List, [], ◌∷◌, ◌++◌, length, get_or, flat_map, All, Option, Some, None, Ok, refl, sym, ap, subst, ◌∙◌, ◌⊎◌, inl, inr, IsTrue, arith, append_assoc, eqb-true, if◌then◌else◌}
use Rattle.std.specs.Int.{w16, to_le_bytes, from_le_bytes}
use Rattle.std.proofs.lemmas.Nat.{le_bytes_2, from_le_bytes-to_le_bytes_2}
use Rattle.std.proofs.lemmas.List.Elements.{All-from_recursion, recursion_from_All}
use Rattle.units_core.specs.Name.{is_name}
use Rattle.command_types.specs.declared.trade.Side.{Side}
use Rattle.command_types.specs.declared.trade.Side.TheVariants.{Out, In}
use Rattle.command_types.specs.declared.trade.TradeState.{TradeState}
use Rattle.command_types.specs.declared.trade.TradeState.TheVariants.{Alleged, Live, Ended}
use Rattle.command_types.specs.Spelling.{name_spelling}
use Rattle.command_types.specs.Bases.{names_spelling, state_byte, party_byte}
use Rattle.record_codec.specs.Reading.{Read, number_in, name_at}
use Rattle.record_codec.proofs.FieldFacts.{IsBytes, Takes, Takes-then, IsFormat, IsField, format_of, seq_takes, seq_again}
use Rattle.record_codec.proofs.KindFacts.{some, some_is, single, three_way, three_format, name_format}
use Rattle.record_codec.proofs.SolutionReading.{ReadsEach, each_takes, each_again}
use Rattle.base_codec.specs.Reading.{short_at, state_at, party_at, holds_at, names_each, names_at}

-- ---- two bytes

wide16 : IsField 2 (number_in w16) (to_le_bytes w16) (λ n. n < 65536)
wide16 = record {
  back = λ text n len fits e.
      let is : from_le_bytes w16 text ≡ n = some_is (from_le_bytes w16 text) n e in
      (sym (le_bytes_2 text n len fits (sym is)), subst (λ (k : ℕ). k < 65536) is (omega (arith, fits 0, fits 1)));
  again = λ n lt. ap some (from_le_bytes-to_le_bytes_2 n lt);
  sized = λ n lt. refl;
}

pub short_format : IsFormat short_at (to_le_bytes w16) (λ n. n < 65536)
short_format = format_of 2 (number_in w16) (to_le_bytes w16) (λ n. n < 65536) wide16

-- ---- one byte

state_again : (s : TradeState) → three_way Alleged Live Ended (state_byte s ∷ []) ≡ Some s
state_again Alleged = refl
state_again Live = refl
state_again Ended = refl

pub state_format : IsFormat state_at (λ s. state_byte s ∷ []) (λ s. Unit {0})
state_format = three_format Alleged Live Ended state_byte refl refl refl state_again

party_again : (p : Option Side) → three_way None (Some Out) (Some In) (party_byte p ∷ []) ≡ some p
party_again None = refl
party_again (Some Out) = refl
party_again (Some In) = refl

pub party_format : IsFormat party_at (λ p. party_byte p ∷ []) (λ p. Unit {0})
party_format = three_format None (Some Out) (Some In) party_byte refl refl refl party_again

-- the holds of both parties in one byte
abbrev pub holds_byte : Bool × Bool → ℕ
holds_byte h = (if h.0 then 1 else 0) + (if h.1 then 2 else 0)

one_of_four : {A : Type 0} (b c d f : Bool) (x y z v a : A) → cond b (Some x) (cond c (Some y) (cond d (Some z) (cond f (Some v) None))) ≡ some a
    → ((b ≡ true) × (x ≡ a)) ⊎ (((c ≡ true) × (y ≡ a)) ⊎ (((d ≡ true) × (z ≡ a)) ⊎ ((f ≡ true) × (v ≡ a))))
one_of_four true c d f x y z v a e = inl (refl, cc)
one_of_four false true d f x y z v a e = inr (inl (refl, cc))
one_of_four false false true f x y z v a e = inr (inr (inl (refl, cc)))
one_of_four false false false true x y z v a e = inr (inr (inr (refl, cc)))
one_of_four false false false false x y z v a e = absurd cc

abbrev four_way : {A : Type 0} → A → A → A → A → List ℕ → Option A
four_way x y z v text =
    cond (eqb (get_or text 0 0) 0) (Some x) (cond (eqb (get_or text 0 0) 1) (Some y) (cond (eqb (get_or text 0 0) 2) (Some z) (cond (eqb (get_or text 0 0) 3) (Some v) None)))

abbrev holds_way : List ℕ → Option (Bool × Bool)
holds_way text = four_way (false, false) (true, false) (false, true) (true, true) text

holds_back : (text : List ℕ) (h : Bool × Bool) → length text ≡ 1 → holds_way text ≡ Some h → text ≡ holds_byte h ∷ []
holds_back text h len e =
    let first = get_or text 0 0 in
    let here = single text len in
    elim (one_of_four (eqb first 0) (eqb first 1) (eqb first 2) (eqb first 3) (false, false) (true, false) (false, true) (true, true) h e) [
      | inl p ↦ here ∙ ap (λ (n : ℕ). n ∷ []) (eqb-true _ _ p.0 ∙ ap holds_byte p.1)
      | inr (inl p) ↦ here ∙ ap (λ (n : ℕ). n ∷ []) (eqb-true _ _ p.0 ∙ ap holds_byte p.1)
      | inr (inr (inl p)) ↦ here ∙ ap (λ (n : ℕ). n ∷ []) (eqb-true _ _ p.0 ∙ ap holds_byte p.1)
      | inr (inr (inr p)) ↦ here ∙ ap (λ (n : ℕ). n ∷ []) (eqb-true _ _ p.0 ∙ ap holds_byte p.1)
    ]

holds_again : (a b : Bool) → holds_way (holds_byte (a, b) ∷ []) ≡ some (a, b)
holds_again false false = refl
holds_again true false = refl
holds_again false true = refl
holds_again true true = refl

pub holds_format : IsFormat holds_at (λ h. holds_byte h ∷ []) (λ h. Unit {0})
holds_format = format_of 1 holds_way (λ h. holds_byte h ∷ []) (λ h. Unit {0}) (record {
  back = λ text h len fits e. (holds_back text h len e, tt);
  again = λ h is. holds_again h.0 h.1;
  sized = λ h is. refl;
})

-- ---- names

pub names_go : ReadsEach name_at names_each
unfolding names_each
names_go = record { none = λ bytes. refl; one = λ n bytes. refl }

abbrev pub IsName : List ℕ → Type 0
IsName name = IsTrue (is_name name)

abbrev pub AreNames : List (List ℕ) → Type 0
AreNames names = (length names < 65536) × All IsName names

abbrev after_count : ℕ × List ℕ → Read (List (List ℕ))
after_count count = names_each count.0 count.1

names_take : (bytes : List ℕ) (x : List (List ℕ) × List ℕ) → IsBytes bytes → names_at bytes ≡ Ok x → Takes bytes (names_spelling x.0) x.1 × AreNames x.0
unfolding names_at
names_take bytes x fits e =
    let c = seq_takes short_format bytes after_count x fits e in
    let each = each_takes names_each name_format names_go c.0.0 c.0.1 x c.1.rest_fits c.3 in
    let counted : Takes bytes (to_le_bytes w16 (length x.0)) c.0.1 = subst (λ (k : ℕ). Takes bytes (to_le_bytes w16 k) c.0.1) (sym each.1) c.1 in (
      Takes-then bytes (to_le_bytes w16 (length x.0)) c.0.1 (flat_map name_spelling x.0) x.1 counted each.0,
      (subst (λ (k : ℕ). k < 65536) (sym each.1) c.2, All-from_recursion IsName x.0 each.2),
    )

names_again : (names : List (List ℕ)) (rest : List ℕ) → AreNames names → names_at (names_spelling names ++ rest) ≡ Ok (names, rest)
unfolding names_at
names_again names rest is =
    ap names_at (append_assoc (to_le_bytes w16 (length names)) (flat_map name_spelling names) rest)
    ∙ seq_again short_format (length names) (flat_map name_spelling names ++ rest) after_count is.0
    ∙ each_again names_each name_format names_go names rest (recursion_from_All IsName names is.1)

pub names_format : IsFormat names_at names_spelling AreNames
names_format = record { takes = names_take; again = names_again }
