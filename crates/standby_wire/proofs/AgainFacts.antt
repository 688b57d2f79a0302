-- An entry that is read as the same has the bytes that were told before.
use Rattle.std.proofs.Common.{◌≡◌, ℕ, ◌+◌, ◌<◌, ◌≤◌, ◌^◌, ◌==◌, Bool, true, false, cond, nat_lt, List, [], ◌∷◌, ◌++◌, length, take, drop, Ok, Err, refl, sym, ap, ◌∙◌, subst, arith, codes, decimal}
use Rattle.std.proofs.lemmas.Bool.Decides.{nat_tests}
use Rattle.std.proofs.Math.Seq.{take-append_seam, drop-append_seam}
use Rattle.units_core.specs.declared.limits.TheConstants.{MOST_NUMBER, MOST_JOURNAL}
use Rattle.command_types.specs.declared.answer.Answer.TheVariants as answers
use Rattle.command_types.specs.Details.{reply_text}
use Rattle.command_types.specs.Roster.{Rows}
use Rattle.standby_wire.specs.Seen.{Seen, ◌>>=◌}
use Rattle.standby_wire.specs.declared.stop.Stop.TheVariants.{More, Bad}
use Rattle.standby_wire.specs.Words.{word, number}
use Rattle.standby_wire.specs.Replies.{same_bytes, same_entry, accepted, reply_to}
use Rattle.standby_wire.specs.declared.reply.Question.TheVariants.{Again}
use Rattle.standby_wire.specs.declared.reply.Reply.{Reply}
use Rattle.standby_wire.specs.declared.reply.Reply.TheVariants as replies
use Rattle.standby_wire.proofs.WrittenFacts.{number_back, word_back, none_shape, entry_shape, behind_entry, told_on, place_on, length_on, same_on}

-- ---- what was read of a text

abbrev value_or : {A : Type 0} → A × List ℕ → Seen A → A × List ℕ
value_or other (Ok x) = x
value_or other (Err stop) = other

-- nothing is read and bad
not_both : (r : Seen Reply) (x : Reply × List ℕ) → r ≡ Err Bad → r ≡ Ok x → ⊥
not_both (Ok y) x bad read = absurd cc
not_both (Err stop) x bad read = absurd cc

by_byte : (t x : ℕ) (ts xs rest : List ℕ) (u : Unit {0}) → (word ts xs ≡ Ok (u, rest) → xs ≡ ts ++ rest) → (b : Bool) → (x == t) ≡ b → cond b (word ts xs) (Err Bad) ≡ Ok (u, rest)
    → x ∷ xs ≡ (t ∷ ts) ++ rest
by_byte t x ts xs rest u on true is e = let s : x ≡ t = grind (arith, nat_tests) in ap (λ v. v ∷ xs) s ∙ ap (λ v. t ∷ v) (on e)
by_byte t x ts xs rest u on false is e = absurd cc

pub word_is : (text input rest : List ℕ) (u : Unit {0}) → word text input ≡ Ok (u, rest) → input ≡ text ++ rest
unfolding word
word_is [] input rest u e = ap (λ p. p.1) (ap (value_or (u, rest)) e)
word_is (t ∷ ts) [] rest u e = absurd cc
word_is (t ∷ ts) (x ∷ xs) rest u e = by_byte t x ts xs rest u (λ read. word_is ts xs rest u read) (x == t) refl e

pub same_is : (bytes input rest : List ℕ) (u : Unit {0}) → same_bytes bytes input ≡ Ok (u, rest) → input ≡ bytes ++ rest
unfolding same_bytes
same_is bytes input rest u e = by_count (nat_lt (length input) (length bytes)) e
  where
    by_count : (b : Bool) → cond b (Err More) (word bytes input) ≡ Ok (u, rest) → input ≡ bytes ++ rest
    by_count true e = absurd cc
    by_count false e = word_is bytes input rest u e

-- where two are read one after the other, so is the first
pub record Both {A B : Type 0} (r : Seen A) (f : A × List ℕ → Seen B) (v : B × List ℕ) : Type 0 where
  pub first : A × List ℕ
  pub is : r ≡ Ok first
  pub then : f first ≡ Ok v

pub both : {A B : Type 0} (r : Seen A) (f : A × List ℕ → Seen B) (v : B × List ℕ) → (r >>= f) ≡ Ok v → Both r f v
both (Ok x) f v e = record { first = x; is = refl; then = e }
both (Err stop) f v e = absurd cc

-- ---- the reply

module _ (rows : Rows) (at position : ℕ) (small : at ≤ MOST_NUMBER) (own bytes more : List ℕ) (few : length own ≤ MOST_JOURNAL) (fits : length bytes ≤ MOST_JOURNAL) where
  abbrev told : List ℕ
  told = decimal (length bytes) ++ (10 ∷ (bytes ++ (10 ∷ more)))

  -- a length, and then a line feed, are read of these bytes as of those
  lengths : (u : List ℕ) → told ≡ decimal (length own) ++ (10 ∷ u) → (length own ≡ length bytes) × (u ≡ bytes ++ (10 ∷ more))
  lengths u e =
      let here : number MOST_JOURNAL told ≡ Ok (length bytes, 10 ∷ (bytes ++ (10 ∷ more))) = number_back MOST_JOURNAL (length bytes) 10 (bytes ++ (10 ∷ more)) (omega arith) fits refl in
      let there : number MOST_JOURNAL (decimal (length own) ++ (10 ∷ u)) ≡ Ok (length own, 10 ∷ u) = number_back MOST_JOURNAL (length own) 10 u (omega arith) few refl in
      let one : (length own, 10 ∷ u) ≡ (length bytes, 10 ∷ (bytes ++ (10 ∷ more))) = ap (value_or (length own, 10 ∷ u)) (sym there ∙ sym (ap (number MOST_JOURNAL) e) ∙ here) in
      (ap (λ p. p.0) one, ap (λ p. drop 1 p.1) one)

  -- bytes of one length, with a line feed behind them
  parts : (rest : List ℕ) → length own ≡ length bytes → bytes ++ (10 ∷ more) ≡ own ++ (10 ∷ rest) → (own ≡ bytes) × (rest ≡ more)
  parts rest long e =
      let front : own ≡ bytes = sym (take-append_seam own (10 ∷ rest)) ∙ ap (take (length own)) (sym e) ∙ ap (λ n. take n (bytes ++ (10 ∷ more))) long ∙ take-append_seam bytes (10 ∷ more) in
      let back : 10 ∷ rest ≡ 10 ∷ more = sym (drop-append_seam own (10 ∷ rest)) ∙ ap (drop (length own)) (sym e) ∙ ap (λ n. drop n (bytes ++ (10 ∷ more))) long ∙ drop-append_seam bytes (10 ∷ more) in
      (front, ap (drop 1) back)

  -- what is read behind the place is a length, these bytes, and a line feed
  read_behind : (reply : Reply) (rest : List ℕ) → (word (decimal (length own)) told >>= length_on rows at more small position own) ≡ Ok (reply, rest) → (own ≡ bytes) × (reply ≡ replies.Same) × (rest ≡ more)
  unfolding word
  read_behind reply rest e =
      let size = both (word (decimal (length own)) told) (length_on rows at more small position own) (reply, rest) e in
      let head = both (word (codes "\n") size.first.1) (λ head. same_bytes own head.1 >>= same_on rows at more small position own) (reply, rest) size.then in
      let same = both (same_bytes own head.first.1) (same_on rows at more small position own) (reply, rest) head.then in
      let end = both (word (codes "\n") same.first.1) (λ end. Ok (replies.Same, end.1)) (reply, rest) same.then in
      let a : told ≡ decimal (length own) ++ size.first.1 = word_is (decimal (length own)) told size.first.1 size.first.0 size.is in
      let b : size.first.1 ≡ 10 ∷ head.first.1 = word_is (codes "\n") size.first.1 head.first.1 head.first.0 head.is in
      let c : head.first.1 ≡ own ++ same.first.1 = same_is own head.first.1 same.first.1 same.first.0 same.is in
      let d : same.first.1 ≡ 10 ∷ end.first.1 = word_is (codes "\n") same.first.1 end.first.1 end.first.0 end.is in
      let l = lengths head.first.1 (a ∙ ap (λ v. decimal (length own) ++ v) b) in
      let final : (replies.Same, end.first.1) ≡ (reply, rest) = ap (value_or (reply, rest)) end.then in
      let is = parts rest l.0 (sym l.1 ∙ c ∙ ap (λ v. own ++ v) (d ∙ ap (λ (p : Reply × List ℕ). 10 ∷ p.1) final)) in
      (is.0, sym (ap (λ (p : Reply × List ℕ). p.0) final), is.1)

module _ (rows : Rows) (at : ℕ) (more : List ℕ) (small : at ≤ MOST_NUMBER) (position : ℕ) (own : List ℕ) where
  at_few : at < 2 ^ 64
  at_few = omega arith

  pub none_is_other : (reply : Reply) (rest : List ℕ) → reply_to (Again position own) (reply_text rows (record { at = at; answer = answers.NoNext }) ++ more) ≡ Ok (reply, rest) → ⊥
  unfolding reply_to accepted same_entry word
  none_is_other reply rest e =
      let read = ap (reply_to (Again position own)) (none_shape rows at more small)
      ∙ ap (λ (r : Seen ℕ). r >>= told_on rows at more small position own) (number_back MOST_NUMBER at 32 (codes "none\n" ++ more) at_few small refl) in
      not_both _ (reply, rest) read e

  module _ (bytes : List ℕ) (few : length own ≤ MOST_JOURNAL) (fits : length bytes ≤ MOST_JOURNAL) where
    pub same_is_own : (reply : Reply) (rest : List ℕ)
        → reply_to (Again position own) (reply_text rows (record { at = at; answer = answers.EntryBytes (position + 1) bytes }) ++ more) ≡ Ok (reply, rest)
        → (own ≡ bytes) × (reply ≡ replies.Same) × (rest ≡ more)
    unfolding reply_to accepted same_entry word
    same_is_own reply rest e =
        let read = ap (reply_to (Again position own)) (entry_shape rows at more small position bytes)
        ∙ ap (λ (r : Seen ℕ). r >>= told_on rows at more small position own) (number_back MOST_NUMBER at 32 (codes "entry " ++ behind_entry rows at more small position bytes) at_few small refl)
        ∙ ap (λ (r : Seen (Unit {0})). r >>= place_on rows at more small position own) (word_back (decimal (position + 1)) (32 ∷ (decimal (length bytes) ++ (10 ∷ (bytes ++ (10 ∷ more)))))) in
        read_behind rows at position small own bytes more few fits reply rest (sym read ∙ e)
