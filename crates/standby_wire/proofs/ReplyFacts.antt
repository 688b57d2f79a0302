-- Records of so many bytes.
use Rattle.std.proofs.Common.{◌≡◌, ℕ, ◌+◌, ◌-◌, ◌<◌, ◌≤◌, cond, List, length, take, drop, slice_range, Ok, Err, IsTrue, refl, sym, ap, subst, ◌∙◌, arith}
use Rattle.std.proofs.lemmas.List.{drop-drop, length-drop}
use Rattle.command_types.specs.declared.ask.Entry.{Entry}
use Rattle.command_types.specs.declared.ask.What.{What}
use Rattle.command_types.specs.declared.ask.What.TheVariants.{Trade, Affirm, End, Hold, Free, Tol, Freeze, Begin, Post, Accept, Decline, Cancel}
use Rattle.command_types.specs.Machine.{changes}
use Rattle.command_types.specs.Spelling.{AreFields, Spells}
use Rattle.command_types.specs.declared.spelling.Spelling.{Spelling}
use Rattle.command_types.specs.declared.spelling.Spelling.TheVariants.{Second}
use Rattle.record_codec.specs.declared.fault.DecodeFault.{DecodeFault}
use Rattle.record_codec.specs.declared.fault.DecodeFault.TheVariants.{BadRecord}
use Rattle.record_codec.specs.Laws.{IsFaultOf}
use Rattle.record_codec.specs.Reading.{field, entry_at, entry_of, read_record}
use Rattle.standby_wire.specs.declared.stop.Stop.TheVariants.{More, Bad}
use Rattle.standby_wire.specs.Words.{word}
use Rattle.standby_wire.specs.Replies.{record_at, entry_or_bad, same_bytes}
use Rattle.standby_wire.proofs.WordFacts.{is_below, is_not_below}

no_bytes : (input : List ℕ) → record_at 0 input ≡ Err Bad
unfolding record_at entry_of entry_at field
no_bytes input = ap (λ b. cond b (Err More) (entry_or_bad (read_record Second (take 0 input)) (drop 0 input))) (is_not_below (length input) 0 (omega arith))

pub record_none : (size : ℕ) (input : List ℕ) (e : ℕ) → size ≡ 0 → record_at size (drop e input) ≡ Err Bad
record_none size input e none = ap (λ n. record_at n (drop e input)) none ∙ no_bytes (drop e input)

pub record_short : (size : ℕ) (input : List ℕ) (e : ℕ) → 0 < size → length input < e + size → record_at size (drop e input) ≡ Err More
unfolding record_at
record_short size input e some short =
    ap (λ b. cond b (Err More) (entry_or_bad (read_record Second (take size (drop e input))) (drop size (drop e input)))) (is_below _ _ (omega (arith, length-drop e input)))

module _ (size : ℕ) (input : List ℕ) (e : ℕ) (long : e + size ≤ length input) where
  -- so many bytes from a place on
  piece_at : slice_range input e (e + size) ≡ take size (drop e input)
  piece_at = let count : e + size - e ≡ size = omega arith in ap (λ n. take n (drop e input)) count

  judged : record_at size (drop e input) ≡ entry_or_bad (read_record Second (slice_range input e (e + size))) (drop (e + size) input)
  unfolding record_at
  judged =
      ap (λ b. cond b (Err More) (entry_or_bad (read_record Second (take size (drop e input))) (drop size (drop e input)))) (is_not_below _ _ (omega (arith, length-drop e input)))
      ∙ ap (entry_or_bad (read_record Second (take size (drop e input)))) (drop-drop size e input)
      ∙ ap (λ text. entry_or_bad (read_record Second text) (drop (e + size) input)) (sym piece_at)

  pub record_off : (fault : DecodeFault) (at : ℕ) → fault ≡ BadRecord at → IsFaultOf fault (read_record Second (slice_range input e (e + size)))
      → record_at size (drop e input) ≡ Err Bad
  record_off fault at is bad =
      judged ∙ ap (λ r. entry_or_bad r (drop (e + size) input)) (subst (λ (f : DecodeFault). IsFaultOf f (read_record Second (slice_range input e (e + size)))) is bad)

  pub record_on : (entry : Entry) → read_record Second (slice_range input e (e + size)) ≡ Ok entry → record_at size (drop e input) ≡ Ok (entry, drop (e + size) input)
  record_on entry found = judged ∙ ap (λ r. entry_or_bad r (drop (e + size) input)) found

-- ---- bytes that were told before

pub same_short : (bytes input : List ℕ) (e : ℕ) → length input - e < length bytes → same_bytes bytes (drop e input) ≡ Err More
unfolding same_bytes
same_short bytes input e short = ap (λ b. cond b (Err More) (word bytes (drop e input))) (is_below _ _ (omega (arith, length-drop e input)))

pub same_long : (bytes input : List ℕ) (e : ℕ) → length bytes ≤ length input - e → same_bytes bytes (drop e input) ≡ word bytes (drop e input)
unfolding same_bytes
same_long bytes input e long = ap (λ b. cond b (Err More) (word bytes (drop e input))) (is_not_below _ _ (omega (arith, length-drop e input)))

-- ---- changes

-- what has the fields of a change is one
fields_change : (what : What) → AreFields what → IsTrue (changes what)
fields_change (Trade seller buyer product amount day) f = refl
fields_change (Affirm trade) f = refl
fields_change (End trade) f = refl
fields_change (Hold trade) f = refl
fields_change (Free trade) f = refl
fields_change (Tol other product side floor ceiling) f = refl
fields_change (Freeze day) f = refl
fields_change (Begin cycle mode) f = refl
fields_change (Post cycle version solutions) f = refl
fields_change (Accept cycle version) f = refl
fields_change (Decline cycle version) f = refl
fields_change (Cancel cycle) f = refl
fields_change what f = absurd f

pub spells_change : (form : Spelling) (bytes : List ℕ) (entry : Entry) → Spells form bytes entry → IsTrue (changes entry.ask.what)
spells_change form bytes entry s = fields_change entry.ask.what s.change.fields
