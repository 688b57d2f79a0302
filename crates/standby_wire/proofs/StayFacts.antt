-- What is read of refusals and replies stays so as the input goes on.
use Rattle.std.proofs.Common.{◌≡◌, ℕ, ◌+◌, ◌==◌, Bool, cond, nat_lt, List, [], ◌++◌, Result, Ok, Err, refl, sym, ap, ◌∙◌, subst, codes, decimal, arith, ◌≤◌, length, true, false, length-append}
use Rattle.std.proofs.lemmas.Bool.{ltb-false}
use Rattle.command_types.specs.declared.ask.Entry.{Entry}
use Rattle.command_types.specs.declared.spelling.Spelling.TheVariants.{Second}
use Rattle.record_codec.specs.Reading.{read_record}
use Rattle.units_core.specs.declared.limits.TheConstants.{MOST_NUMBER, MOST_JOURNAL}
use Rattle.standby_wire.specs.Seen.{Seen}
use Rattle.standby_wire.specs.declared.stop.Stop.TheVariants.{More, Bad}
use Rattle.standby_wire.specs.Words.{nothing, word}
use Rattle.standby_wire.specs.Refusals.{state_word, phase_word, spaced_number, spaced_day, spaced_name, spaced_pair, clash_word, product_clash, posting_fault, value_word, named, low_refusal, middle_refusal, high_refusal, refusal, refused}
use Rattle.standby_wire.specs.Replies.{greeted, entry_or_bad, record_at, entry_behind, nothing_more, none_at, offered, same_bytes, same_entry, accepted, refused_reply, not_accepted, reply_to}
use Rattle.standby_wire.specs.declared.values.Value.{Value}
use Rattle.standby_wire.specs.declared.values.Value.TheVariants.{Nothing, Number, Day, State, Phase, Clash}
use Rattle.standby_wire.specs.declared.reply.Question.{Question}
use Rattle.standby_wire.specs.declared.reply.Question.TheVariants.{Hello, Next, Again}
use Rattle.standby_wire.specs.declared.reply.Reply.{Reply}
use Rattle.standby_wire.specs.declared.reply.Reply.TheVariants as replies
use Rattle.standby_wire.proofs.WordFacts.{is_not_below}
use Rattle.standby_wire.proofs.ReaderFacts.{IsBehind, Goes, IsReader, then_reads, done_reads, never_reads, if_reads, test_goes, word_reads, number_reads, name_reads, judged_reads, day_reads}

nothing_reads : IsReader nothing
nothing_reads = done_reads tt

-- one of two readers, by a test that knows nothing of the input
test_reads : {A : Type 0} (b : Bool) {here other : List ℕ → Seen A} → IsReader here → IsReader other → IsReader (λ input. cond b (here input) (other input))
test_reads b {here = here} {other = other} rh ro = record {
  goes = λ input more. test_goes b (here input) (other input) (here (input ++ more)) (other (input ++ more)) input more (rh.goes input more) (ro.goes input more);
}

-- ---- values

state_reads : IsReader state_word
unfolding state_word
state_reads = if_reads (codes " alleged") nothing_reads (if_reads (codes " live") nothing_reads (word_reads (codes " ended")))

phase_reads : IsReader phase_word
unfolding phase_word
phase_reads =
    if_reads (codes " none") nothing_reads (if_reads (codes " frozen") nothing_reads (if_reads (codes " solving") nothing_reads
    (if_reads (codes " proposed") nothing_reads (word_reads (codes " broken")))))

spaced_number_reads : IsReader spaced_number
unfolding spaced_number
spaced_number_reads = then_reads (word_reads (codes " ")) (λ _. then_reads (number_reads MOST_NUMBER) (λ _. done_reads tt))

spaced_day_reads : IsReader spaced_day
unfolding spaced_day
spaced_day_reads = then_reads (word_reads (codes " ")) (λ _. day_reads)

spaced_name_reads : IsReader spaced_name
unfolding spaced_name
spaced_name_reads = then_reads (word_reads (codes " ")) (λ _. name_reads)

spaced_pair_reads : IsReader spaced_pair
unfolding spaced_pair
spaced_pair_reads = then_reads spaced_name_reads (λ _. spaced_name_reads)

clash_reads : IsReader clash_word
unfolding clash_word
clash_reads =
    if_reads (codes " below") spaced_pair_reads (if_reads (codes " above") spaced_pair_reads (if_reads (codes " net") spaced_name_reads
    (if_reads (codes " open") spaced_pair_reads (if_reads (codes " slack") spaced_pair_reads never_reads))))

product_clash_reads : IsReader product_clash
unfolding product_clash
product_clash_reads = then_reads spaced_name_reads (λ _. clash_reads)

posting_reads : IsReader posting_fault
unfolding posting_fault
posting_reads = if_reads (codes " shape") nothing_reads product_clash_reads

value_reads : (value : Value) → IsReader (value_word value)
unfolding value_word
value_reads Nothing = done_reads tt
value_reads Number = spaced_number_reads
value_reads Day = spaced_day_reads
value_reads State = state_reads
value_reads Phase = phase_reads
value_reads Clash = posting_reads

-- ---- refusals

named_reads : (text : List ℕ) (value : Value) → IsReader (named text value)
unfolding named
named_reads text value = then_reads (word_reads (codes " ")) (λ _. then_reads (word_reads text) (λ _. value_reads value))

low_reads : (n : ℕ) → IsReader (low_refusal n)
unfolding low_refusal
low_reads n =
    test_reads (n == 1) (named_reads (codes "not-greeted") Nothing)
    (test_reads (n == 2) (named_reads (codes "bad-key") Nothing)
    (test_reads (n == 3) (named_reads (codes "bad-line") Number)
    (test_reads (n == 4) (named_reads (codes "unknown-member") Nothing)
    (test_reads (n == 5) (named_reads (codes "unknown-product") Nothing)
    (test_reads (n == 6) (named_reads (codes "own-trade") Nothing)
    (test_reads (n == 7) (named_reads (codes "not-party") Nothing)
    (test_reads (n == 8) (named_reads (codes "amount-over") Nothing)
    (test_reads (n == 9) (named_reads (codes "gross-over") Nothing)
    (test_reads (n == 10) (named_reads (codes "trades-full") Nothing)
    (test_reads (n == 11) (named_reads (codes "unknown-trade") Nothing) never_reads))))))))))

middle_reads : (n : ℕ) → IsReader (middle_refusal n)
unfolding middle_refusal
middle_reads n =
    test_reads (n == 12) (named_reads (codes "wrong-trade-state") State)
    (test_reads (n == 13) (named_reads (codes "trade-frozen") Number)
    (test_reads (n == 14) (named_reads (codes "not-operator") Nothing)
    (test_reads (n == 15) (named_reads (codes "cycle-open") Number)
    (test_reads (n == 16) (named_reads (codes "wrong-cycle") Number)
    (test_reads (n == 17) (named_reads (codes "wrong-phase") Phase)
    (test_reads (n == 18) (named_reads (codes "wrong-version") Number)
    (test_reads (n == 19) (named_reads (codes "not-touched") Nothing)
    (test_reads (n == 20) (named_reads (codes "already-accepted") Nothing)
    (test_reads (n == 21) (named_reads (codes "cycle-broken") Number) never_reads)))))))))

high_reads : (n : ℕ) → IsReader (high_refusal n)
unfolding high_refusal
high_reads n =
    test_reads (n == 22) (named_reads (codes "matured") Day)
    (test_reads (n == 23) (named_reads (codes "floor-over-ceiling") Nothing)
    (test_reads (n == 24) (named_reads (codes "bad-certificate") Clash)
    (test_reads (n == 25) (named_reads (codes "journal-full") Number)
    (test_reads (n == 26) (named_reads (codes "stopped") Number)
    (test_reads (n == 27) (named_reads (codes "disk-fault") Nothing)
    (test_reads (n == 28) (named_reads (codes "memory") Nothing)
    (test_reads (n == 29) (named_reads (codes "draft-full") Nothing)
    (test_reads (n == 31) (named_reads (codes "gone") Number)
    (test_reads (n == 32) (named_reads (codes "ahead") Number) never_reads)))))))))

refusal_reads : (n : ℕ) → IsReader (refusal n)
unfolding refusal
refusal_reads n = test_reads (nat_lt n 12) (low_reads n) (test_reads (nat_lt n 22) (middle_reads n) (high_reads n))

refused_reads : IsReader refused
unfolding refused
refused_reads =
    then_reads (number_reads MOST_NUMBER) (λ _. then_reads (word_reads (codes " ")) (λ _. then_reads (number_reads 32) (λ n.
    then_reads (refusal_reads n) (λ _. then_reads (word_reads (codes "\n")) (λ _. done_reads n)))))

-- ---- replies

greeted_reads : (name : List ℕ) → IsReader (greeted name)
unfolding greeted
greeted_reads name =
    then_reads (number_reads MOST_NUMBER) (λ _. then_reads (word_reads (codes " hello ")) (λ _. then_reads (word_reads name) (λ _.
    then_reads (word_reads (codes "\n")) (λ _. done_reads replies.Greeted))))

record_judged : (r : Result Entry ℕ) (text rest more : List ℕ) → Goes (entry_or_bad r rest) (text ++ rest) more (entry_or_bad r (rest ++ more))
record_judged (Ok entry) text rest more = ((text, refl), refl)
record_judged (Err at) text rest more = refl

record_reads : (size : ℕ) → IsReader (record_at size)
unfolding record_at
record_reads size = judged_reads size (λ text rest. entry_or_bad (read_record Second text) rest) (λ text rest more. record_judged (read_record Second text) text rest more)

entry_reads : (position : ℕ) → IsReader (entry_behind position)
unfolding entry_behind
entry_reads position =
    then_reads (word_reads (decimal (position + 1))) (λ _. then_reads (word_reads (codes " ")) (λ _. then_reads (number_reads MOST_JOURNAL) (λ size.
    then_reads (word_reads (codes "\n")) (λ _. then_reads (record_reads size) (λ entry. then_reads (word_reads (codes "\n")) (λ _. done_reads (replies.Entry entry)))))))

nothing_more_reads : IsReader nothing_more
unfolding nothing_more
nothing_more_reads = then_reads (word_reads (codes " none\n")) (λ _. done_reads replies.Nothing)

none_reads : (position at : ℕ) → IsReader (none_at position at)
unfolding none_at
none_reads position at = test_reads (at == position) nothing_more_reads never_reads

offered_reads : (position : ℕ) → IsReader (offered position)
unfolding offered
offered_reads position = then_reads (number_reads MOST_NUMBER) (λ at. if_reads (codes " entry ") (entry_reads position) (none_reads position at))

-- where as many bytes are there, more change nothing
module _ (bytes : List ℕ) where
  bytes_long : (input more : List ℕ) → nat_lt (length input) (length bytes) ≡ false → same_bytes bytes (input ++ more) ≡ word bytes (input ++ more)
  unfolding same_bytes
  bytes_long input more enough =
      let le : length bytes ≤ length input = ltb-false (length input) (length bytes) enough in
      ap (λ b. cond b (Err More) (word bytes (input ++ more))) (is_not_below (length (input ++ more)) (length bytes) (let l = length-append input more in omega arith))

  by_count : (b : Bool) (input more : List ℕ) → nat_lt (length input) (length bytes) ≡ b
      → Goes (cond b (Err More) (word bytes input)) input more (same_bytes bytes (input ++ more))
  by_count true input more short = tt
  by_count false input more enough = subst (λ (v : Seen (Unit {0})). Goes (word bytes input) input more v) (sym (bytes_long input more enough)) ((word_reads bytes).goes input more)

  bytes_reads : IsReader (same_bytes bytes)
  unfolding same_bytes
  bytes_reads = record { goes = λ input more. by_count (nat_lt (length input) (length bytes)) input more refl }

same_reads : (position : ℕ) (bytes : List ℕ) → IsReader (same_entry position bytes)
unfolding same_entry
same_reads position bytes =
    then_reads (number_reads MOST_NUMBER) (λ _. then_reads (word_reads (codes " entry ")) (λ _. then_reads (word_reads (decimal (position + 1))) (λ _.
    then_reads (word_reads (codes " ")) (λ _. then_reads (word_reads (decimal (length bytes))) (λ _. then_reads (word_reads (codes "\n")) (λ _.
    then_reads (bytes_reads bytes) (λ _. then_reads (word_reads (codes "\n")) (λ _. done_reads replies.Same))))))))

accepted_reads : (question : Question) → IsReader (accepted question)
unfolding accepted
accepted_reads (Hello name) = greeted_reads name
accepted_reads (Next position) = offered_reads position
accepted_reads (Again position bytes) = same_reads position bytes

refused_reply_reads : IsReader refused_reply
unfolding refused_reply
refused_reply_reads = then_reads refused_reads (λ n. done_reads (replies.Refused n))

not_accepted_reads : IsReader not_accepted
unfolding not_accepted
not_accepted_reads = then_reads (word_reads (codes "no ")) (λ _. refused_reply_reads)

pub reply_reads : (question : Question) → IsReader (reply_to question)
unfolding reply_to
reply_reads question = if_reads (codes "ok ") (accepted_reads question) not_accepted_reads

-- ---- as facts of one input

module _ {A : Type 0} (input more : List ℕ) (after : Seen A) where
  stays_bad : (r : Seen A) → Goes r input more after → r ≡ Err Bad → after ≡ Err Bad
  stays_bad (Ok x) goes is = absurd cc
  stays_bad (Err More) goes is = absurd cc
  stays_bad (Err Bad) goes is = goes

  stays_read : (r : Seen A) (x : A × List ℕ) → Goes r input more after → r ≡ Ok x → after ≡ Ok (x.0, x.1 ++ more)
  stays_read (Ok y) x goes is = let e : y ≡ x = cc in goes.1 ∙ ap (λ (v : A × List ℕ). Ok (v.0, v.1 ++ more)) e
  stays_read (Err More) x goes is = absurd cc
  stays_read (Err Bad) x goes is = absurd cc

  is_front : (r : Seen A) (x : A × List ℕ) → Goes r input more after → r ≡ Ok x → IsBehind input x.1
  is_front (Ok y) x goes is = let e : y ≡ x = cc in subst (λ (v : A × List ℕ). IsBehind input v.1) e goes.0
  is_front (Err More) x goes is = absurd cc
  is_front (Err Bad) x goes is = absurd cc

pub reply_stays_bad : (question : Question) (input more : List ℕ) → reply_to question input ≡ Err Bad → reply_to question (input ++ more) ≡ Err Bad
reply_stays_bad question input more is = stays_bad input more _ (reply_to question input) ((reply_reads question).goes input more) is

pub reply_stays : (question : Question) (reply : Reply) (input rest more : List ℕ)
    → reply_to question input ≡ Ok (reply, rest) → reply_to question (input ++ more) ≡ Ok (reply, rest ++ more)
reply_stays question reply input rest more is = stays_read input more _ (reply_to question input) (reply, rest) ((reply_reads question).goes input more) is

pub reply_front : (question : Question) (reply : Reply) (input rest : List ℕ)
    → reply_to question input ≡ Ok (reply, rest) → (text : List ℕ) × (input ≡ text ++ rest)
reply_front question reply input rest is = is_front input [] _ (reply_to question input) (reply, rest) ((reply_reads question).goes input []) is
