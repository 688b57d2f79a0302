-- What a primary writes is read.
use Rattle.std.proofs.Common.{◌≡◌, ℕ, ◌+◌, ◌-◌, ◌*◌, ◌/◌, ◌%◌, ◌^◌, ◌<◌, ◌≤◌, ◌==◌, true, false, cond, nat_lt, List, [], ◌∷◌, ◌++◌, length, take, drop, Ok, Err, refl, ap, ◌∙◌, arith, append_assoc, append-nil, length-append, codes, decimal}
use Rattle.std.proofs.lemmas.Bool.Decides.{nat_tests}
use Rattle.std.proofs.lemmas.Fmt.{decimal_by_steps}
use Rattle.std.proofs.Math.Seq.{take-append_seam, drop-append_seam}
use Rattle.units_core.specs.declared.limits.TheConstants.{MOST_NUMBER, MOST_JOURNAL}
use Rattle.units_core.specs.Number.{is_digit, digit_on}
use Rattle.command_types.specs.declared.ask.Entry.{Entry}
use Rattle.command_types.specs.declared.answer.Answer.TheVariants as answers
use Rattle.command_types.specs.declared.spelling.Spelling.TheVariants.{Second}
use Rattle.command_types.specs.Details.{reply_text}
use Rattle.command_types.specs.Roster.{Rows}
use Rattle.command_types.specs.Text.{numbers_text}
use Rattle.command_types.specs.Spelling.{Spells}
use Rattle.record_codec.specs.Reading.{read_record}
use Rattle.record_codec.proofs.RecordReading.{read_again}
use Rattle.standby_wire.specs.Seen.{Seen, ◌>>=◌}
use Rattle.standby_wire.specs.declared.stop.Stop.TheVariants.{More, Bad}
use Rattle.standby_wire.specs.Words.{word, if_word, digits, number}
use Rattle.standby_wire.specs.Replies.{greeted, entry_or_bad, record_at, entry_behind, nothing_more, none_at, offered, same_bytes, same_entry, accepted, reply_to}
use Rattle.standby_wire.specs.declared.reply.Question.TheVariants.{Hello, Next, Again}
use Rattle.standby_wire.specs.declared.reply.Reply.{Reply}
use Rattle.standby_wire.specs.declared.reply.Reply.TheVariants as replies
use Rattle.standby_wire.proofs.WordFacts.{is_same, is_other, is_not_below}

-- ---- numbers

digit_here : (c : ℕ) → 48 ≤ c → c ≤ 57 → is_digit c ≡ true
digit_here c least most = grind (arith, nat_tests)

-- the digits of a number are read up to it, whatever comes behind
abbrev IsReadAs : ℕ → ℕ → List ℕ → Type 0
IsReadAs most n text = n ≤ most → (behind : List ℕ) → number most (text ++ behind) ≡ digits most n behind

one_digit : (most n : ℕ) → n < 10 → IsReadAs most n ((48 + n) ∷ [])
unfolding number
one_digit most n small within behind =
    let e : 48 + n - 48 ≡ n = omega arith in
    ap (λ b. cond b (cond (nat_lt most (48 + n - 48)) (Err Bad) (digits most (48 + n - 48) behind)) (Err Bad)) (digit_here (48 + n) (omega arith) (omega arith))
    ∙ ap (λ v. cond (nat_lt most v) (Err Bad) (digits most v behind)) e
    ∙ ap (λ b. cond b (Err Bad) (digits most n behind)) (is_not_below most n within)

digit_more : (most m c : ℕ) (behind : List ℕ) → 1 ≤ m → 48 ≤ c → c ≤ 57 → 10 * m + (c - 48) ≤ most → digits most m (c ∷ behind) ≡ digits most (10 * m + (c - 48)) behind
unfolding digits
digit_more most m c behind some least top within =
    ap (λ b. cond b (cond (m == 0) (Err Bad) (cond (nat_lt most (digit_on m c)) (Err Bad) (digits most (digit_on m c) behind))) (Ok (m, c ∷ behind))) (digit_here c least top)
    ∙ ap (λ b. cond b (Err Bad) (cond (nat_lt most (digit_on m c)) (Err Bad) (digits most (digit_on m c) behind))) (is_other m 0 (λ e. omega arith))
    ∙ ap (λ b. cond b (Err Bad) (digits most (digit_on m c) behind)) (is_not_below most (digit_on m c) within)

one_more : (most n : ℕ) (text : List ℕ) → 10 ≤ n → IsReadAs most (n / 10) text → IsReadAs most n (text ++ ((48 + n % 10) ∷ []))
one_more most n text large before within behind =
    let parts : 10 * (n / 10) + n % 10 ≡ n = omega arith in
    let last : n % 10 < 10 = omega arith in
    let e : 10 * (n / 10) + (48 + n % 10 - 48) ≡ n = omega arith in
    ap (number most) (append_assoc text ((48 + n % 10) ∷ []) behind)
    ∙ before (omega arith) ((48 + n % 10) ∷ behind)
    ∙ digit_more most (n / 10) (48 + n % 10) behind (omega arith) (omega arith) (omega arith) (omega arith)
    ∙ ap (λ v. digits most v behind) e

-- a number that is written is read, up to a byte that is no digit
pub number_back : (most n c : ℕ) (rest : List ℕ) → n < 2 ^ 64 → n ≤ most → is_digit c ≡ false → number most (decimal n ++ c ∷ rest) ≡ Ok (n, c ∷ rest)
unfolding digits
number_back most n c rest small within other =
    decimal_by_steps (IsReadAs most) (one_digit most) (one_more most) n small within (c ∷ rest)
    ∙ ap (λ b. cond b (cond (n == 0) (Err Bad) (cond (nat_lt most (digit_on n c)) (Err Bad) (digits most (digit_on n c) rest))) (Ok (n, c ∷ rest))) other

-- ---- words

pub word_back : (text rest : List ℕ) → word text (text ++ rest) ≡ Ok (tt, rest)
unfolding word
word_back [] rest = refl
word_back (t ∷ ts) rest = ap (λ b. cond b (word ts (ts ++ rest)) (Err Bad)) (is_same t t refl) ∙ word_back ts rest

-- ---- replies

-- a head line, and a record with its line feed
parts : (at told feed bytes more : List ℕ) → (((at ++ told) ++ feed) ++ [] ++ (bytes ++ feed)) ++ more ≡ at ++ (told ++ (feed ++ (bytes ++ (feed ++ more))))
parts at told feed bytes more =
    ap (λ v. (v ++ (bytes ++ feed)) ++ more) (append-nil ((at ++ told) ++ feed))
    ∙ append_assoc ((at ++ told) ++ feed) (bytes ++ feed) more
    ∙ append_assoc (at ++ told) feed ((bytes ++ feed) ++ more)
    ∙ append_assoc at told (feed ++ ((bytes ++ feed) ++ more))
    ∙ ap (λ v. at ++ (told ++ (feed ++ v))) (append_assoc bytes feed more)

-- two numbers with a space between them
spaced : (first second rest : List ℕ) → ((first ++ codes " ") ++ second) ++ rest ≡ first ++ (32 ∷ (second ++ rest))
spaced first second rest = append_assoc (first ++ codes " ") second rest ∙ append_assoc first (codes " ") (second ++ rest)

module _ (rows : Rows) (at : ℕ) (more : List ℕ) (small : at ≤ MOST_NUMBER) where
  few : at < 2 ^ 64
  few = omega arith

  abbrev greeted_on : List ℕ → ℕ × List ℕ → Seen Reply
  greeted_on name x = do
    hello ← word (codes " hello ") x.1
    told ← word name hello.1
    end ← word (codes "\n") told.1
    Ok (replies.Greeted, end.1)

  hello_shape : (name : List ℕ) → reply_text rows (record { at = at; answer = answers.Hello name }) ++ more
      ≡ codes "ok " ++ (decimal at ++ (codes " hello " ++ (name ++ (codes "\n" ++ more))))
  hello_shape name = simp append_assoc

  pub hello_read : (name : List ℕ) → reply_to (Hello name) (reply_text rows (record { at = at; answer = answers.Hello name }) ++ more) ≡ Ok (replies.Greeted, more)
  unfolding reply_to accepted greeted word
  hello_read name =
      ap (reply_to (Hello name)) (hello_shape name)
      ∙ ap (λ (r : Seen ℕ). r >>= greeted_on name) (number_back MOST_NUMBER at 32 (codes "hello " ++ (name ++ (codes "\n" ++ more))) few small refl)
      ∙ ap (λ (r : Seen (Unit {0})). r >>= λ told. word (codes "\n") told.1 >>= λ end. Ok (replies.Greeted, end.1)) (word_back name (codes "\n" ++ more))

  abbrev offered_on : ℕ → ℕ × List ℕ → Seen Reply
  offered_on position x = if_word (codes " entry ") (entry_behind position) (none_at position x.0) x.1

  pub none_shape : reply_text rows (record { at = at; answer = answers.NoNext }) ++ more ≡ codes "ok " ++ (decimal at ++ (codes " none\n" ++ more))
  none_shape = simp append_assoc

  pub none_read : reply_to (Next at) (reply_text rows (record { at = at; answer = answers.NoNext }) ++ more) ≡ Ok (replies.Nothing, more)
  unfolding reply_to accepted offered none_at nothing_more word
  none_read =
      ap (reply_to (Next at)) none_shape
      ∙ ap (λ (r : Seen ℕ). r >>= offered_on at) (number_back MOST_NUMBER at 32 (codes "none\n" ++ more) few small refl)
      ∙ ap (λ b. cond b (nothing_more (codes " none\n" ++ more)) (Err Bad)) (is_same at at refl)

  -- an entry's reply, by its place, its length and its bytes
  module _ (position : ℕ) (bytes : List ℕ) where
    -- the place, the length, the bytes, and what comes behind
    abbrev pub behind_entry : List ℕ
    behind_entry = decimal (position + 1) ++ (32 ∷ (decimal (length bytes) ++ (10 ∷ (bytes ++ (10 ∷ more)))))

    pub entry_shape : reply_text rows (record { at = at; answer = answers.EntryBytes (position + 1) bytes }) ++ more ≡ codes "ok " ++ (decimal at ++ (codes " entry " ++ behind_entry))
    entry_shape =
        ap (λ v. codes "ok " ++ v) (parts (decimal at) (codes " entry" ++ numbers_text (position + 1) (length bytes)) (codes "\n") bytes more)
        ∙ ap (λ v. codes "ok " ++ (decimal at ++ (codes " entry " ++ v)))
        (spaced (decimal (position + 1)) (decimal (length bytes)) (codes "\n" ++ (bytes ++ (codes "\n" ++ more))))

    bytes_back : (rest : List ℕ) → same_bytes bytes (bytes ++ rest) ≡ Ok (tt, rest)
    unfolding same_bytes
    bytes_back rest =
        ap (λ b. cond b (Err More) (word bytes (bytes ++ rest))) (is_not_below (length (bytes ++ rest)) (length bytes) (let l = length-append bytes rest in omega arith))
        ∙ word_back bytes rest

    abbrev pub same_on : Unit {0} × List ℕ → Seen Reply
    same_on same = do
      end ← word (codes "\n") same.1
      Ok (replies.Same, end.1)

    abbrev pub length_on : Unit {0} × List ℕ → Seen Reply
    length_on size = do
      head ← word (codes "\n") size.1
      same ← same_bytes bytes head.1
      same_on same

    abbrev pub place_on : Unit {0} × List ℕ → Seen Reply
    place_on place = do
      gap ← word (codes " ") place.1
      size ← word (decimal (length bytes)) gap.1
      length_on size

    abbrev pub told_on : ℕ × List ℕ → Seen Reply
    told_on told = do
      kind ← word (codes " entry ") told.1
      place ← word (decimal (position + 1)) kind.1
      place_on place

    pub same_read : reply_to (Again position bytes) (reply_text rows (record { at = at; answer = answers.EntryBytes (position + 1) bytes }) ++ more) ≡ Ok (replies.Same, more)
    unfolding reply_to accepted same_entry word
    same_read =
        ap (reply_to (Again position bytes)) entry_shape
        ∙ ap (λ (r : Seen ℕ). r >>= told_on) (number_back MOST_NUMBER at 32 (codes "entry " ++ behind_entry) few small refl)
        ∙ ap (λ (r : Seen (Unit {0})). r >>= place_on) (word_back (decimal (position + 1)) (32 ∷ (decimal (length bytes) ++ (10 ∷ (bytes ++ (10 ∷ more))))))
        ∙ ap (λ (r : Seen (Unit {0})). r >>= length_on) (word_back (decimal (length bytes)) (10 ∷ (bytes ++ (10 ∷ more))))
        ∙ ap (λ (r : Seen (Unit {0})). r >>= same_on) (bytes_back (10 ∷ more))

  module _ (position : ℕ) (bytes : List ℕ) (entry : Entry) (fits : length bytes ≤ MOST_JOURNAL) (spells : Spells Second bytes entry) where
    record_back : (rest : List ℕ) → record_at (length bytes) (bytes ++ rest) ≡ Ok (entry, rest)
    unfolding record_at
    record_back rest =
        ap (λ b. cond b (Err More) (entry_or_bad (read_record Second (take (length bytes) (bytes ++ rest))) (drop (length bytes) (bytes ++ rest))))
        (is_not_below (length (bytes ++ rest)) (length bytes) (let l = length-append bytes rest in omega arith))
        ∙ ap (λ v. entry_or_bad (read_record Second v) (drop (length bytes) (bytes ++ rest))) (take-append_seam bytes rest)
        ∙ ap (λ v. entry_or_bad (read_record Second bytes) v) (drop-append_seam bytes rest)
        ∙ ap (λ r. entry_or_bad r rest) (read_again Second bytes entry spells)

    abbrev ended_on : Entry × List ℕ → Seen Reply
    ended_on x = do
      end ← word (codes "\n") x.1
      Ok (replies.Entry x.0, end.1)

    abbrev sized_on : ℕ × List ℕ → Seen Reply
    sized_on size = do
      head ← word (codes "\n") size.1
      entry ← record_at size.0 head.1
      end ← word (codes "\n") entry.1
      Ok (replies.Entry entry.0, end.1)

    abbrev placed_on : Unit {0} × List ℕ → Seen Reply
    placed_on place = do
      gap ← word (codes " ") place.1
      size ← number MOST_JOURNAL gap.1
      head ← word (codes "\n") size.1
      entry ← record_at size.0 head.1
      end ← word (codes "\n") entry.1
      Ok (replies.Entry entry.0, end.1)

    behind_read : entry_behind position (behind_entry position bytes) ≡ Ok (replies.Entry entry, more)
    unfolding entry_behind word
    behind_read =
        ap (λ (r : Seen (Unit {0})). r >>= placed_on) (word_back (decimal (position + 1)) (32 ∷ (decimal (length bytes) ++ (10 ∷ (bytes ++ (10 ∷ more))))))
        ∙ ap (λ (r : Seen ℕ). r >>= sized_on) (number_back MOST_JOURNAL (length bytes) 10 (bytes ++ (10 ∷ more)) (omega arith) fits refl)
        ∙ ap (λ (r : Seen Entry). r >>= ended_on) (record_back (10 ∷ more))

    pub entry_read : reply_to (Next position) (reply_text rows (record { at = at; answer = answers.EntryBytes (position + 1) bytes }) ++ more) ≡ Ok (replies.Entry entry, more)
    unfolding reply_to accepted offered word
    entry_read =
        ap (reply_to (Next position)) (entry_shape position bytes)
        ∙ ap (λ (r : Seen ℕ). r >>= offered_on position) (number_back MOST_NUMBER at 32 (codes "entry " ++ behind_entry position bytes) few small refl)
        ∙ behind_read
