-- What a primary refuses a HELLO or a NEXT with is read as its number.
use Rattle.std.proofs.Common.{◌≡◌, ℕ, ◌≤◌, List, ◌∷◌, ◌++◌, Some, None, Ok, refl, ap, ◌∙◌, subst, arith, append_assoc, codes, decimal}
use Rattle.units_core.specs.declared.limits.TheConstants.{MOST_NUMBER}
use Rattle.command_types.specs.declared.answer.Answer.TheVariants as answers
use Rattle.command_types.specs.declared.refusal.Refusal.{Refusal}
use Rattle.command_types.specs.declared.refusal.Refusal.TheVariants.{NotGreeted, BadKey, BadLine, NotOperator, Stopped, Memory, Gone, Ahead}
use Rattle.command_types.specs.Details.{reply_text}
use Rattle.command_types.specs.Roster.{Rows}
use Rattle.command_types.specs.Text.{refusal_text}
use Rattle.standby_wire.specs.Seen.{Seen, ◌>>=◌}
use Rattle.standby_wire.specs.Words.{word, digits, number}
use Rattle.standby_wire.specs.Refusals.{spaced_number, value_word, named, low_refusal, middle_refusal, high_refusal, refusal, refused}
use Rattle.standby_wire.specs.Replies.{refused_reply, not_accepted, reply_to}
use Rattle.standby_wire.specs.Laws.{number_of, IsSmall}
use Rattle.standby_wire.specs.declared.reply.Question.{Question}
use Rattle.standby_wire.specs.declared.reply.Reply.{Reply}
use Rattle.standby_wire.specs.declared.reply.Reply.TheVariants as replies
use Rattle.standby_wire.proofs.WrittenFacts.{number_back}

-- behind the position: a space, the number, its name and its value
abbrev position_on : ℕ × List ℕ → Seen ℕ
position_on at = do
  gap ← word (codes " ") at.1
  number ← number 32 gap.1
  why ← refusal number.0 number.1
  end ← word (codes "\n") why.1
  Ok (number.0, end.1)

abbrev as_reply : ℕ × List ℕ → Seen Reply
as_reply read = Ok (replies.Refused read.0, read.1)

-- the end of a line whose number is this
abbrev ended_on : ℕ → Unit {0} × List ℕ → Seen ℕ
ended_on k why = do
  end ← word (codes "\n") why.1
  Ok (k, end.1)

same : {k n : ℕ} → Some k ≡ Some n → k ≡ n
same e = cc

none_some : {n : ℕ} → None ≡ Some n → ⊥
none_some e = cc

module _ (at : ℕ) (more : List ℕ) where
  -- what stands behind the position, up to the line's end
  abbrev IsBehind : List ℕ → ℕ → Type 0
  IsBehind text n = position_on (at, 32 ∷ (text ++ (10 ∷ more))) ≡ Ok (n, more)

  -- a value that is a number, and the line's end
  numbered : (k n : ℕ) → n ≤ MOST_NUMBER → ((number MOST_NUMBER (decimal n ++ (10 ∷ more)) >>= λ read. Ok (tt {0}, read.1)) >>= ended_on k) ≡ Ok (k, more)
  unfolding word
  numbered k n fits = ap (λ (r : Seen ℕ). (r >>= λ read. Ok (tt {0}, read.1)) >>= ended_on k) (number_back MOST_NUMBER n 10 more (omega arith) fits refl)

  -- each refusal by itself
  behind : (rows : Rows) (r : Refusal) (n : ℕ) → IsSmall r → number_of r ≡ Some n → IsBehind (refusal_text rows r) n
  unfolding word number digits refusal low_refusal middle_refusal high_refusal named value_word spaced_number
  behind rows NotGreeted n small is = subst (IsBehind (codes "1 not-greeted")) (same is) refl
  behind rows BadKey n small is = subst (IsBehind (codes "2 bad-key")) (same is) refl
  behind rows (BadLine place) n small is = subst (IsBehind (codes "3 bad-line " ++ decimal place)) (same is) (numbered 3 place small)
  behind rows NotOperator n small is = subst (IsBehind (codes "14 not-operator")) (same is) refl
  behind rows (Stopped place) n small is = subst (IsBehind (codes "26 stopped " ++ decimal place)) (same is) (numbered 26 place small)
  behind rows Memory n small is = subst (IsBehind (codes "28 memory")) (same is) refl
  behind rows (Gone from) n small is = subst (IsBehind (codes "31 gone " ++ decimal from)) (same is) (numbered 31 from small)
  behind rows (Ahead end) n small is = subst (IsBehind (codes "32 ahead " ++ decimal end)) (same is) (numbered 32 end small)
  behind rows r n small is = absurd (none_some is)

  module _ (question : Question) (few : at ≤ MOST_NUMBER) where
    no_back : (text : List ℕ) (n : ℕ) → IsBehind text n → reply_to question (codes "no " ++ (decimal at ++ (32 ∷ (text ++ (10 ∷ more))))) ≡ Ok (replies.Refused n, more)
    unfolding reply_to not_accepted refused_reply refused word
    no_back text n is =
        ap (λ (r : Seen ℕ). (r >>= position_on) >>= as_reply) (number_back MOST_NUMBER at 32 (text ++ (10 ∷ more)) (omega arith) few refl)
        ∙ ap (λ (r : Seen ℕ). r >>= as_reply) is

    no_shape : (rows : Rows) (r : Refusal) → reply_text rows (record { at = at; answer = answers.No r }) ++ more
        ≡ codes "no " ++ (decimal at ++ (32 ∷ (refusal_text rows r ++ (10 ∷ more))))
    no_shape rows r = simp append_assoc

    pub refusal_read : (rows : Rows) (r : Refusal) (n : ℕ) → IsSmall r → number_of r ≡ Some n
        → reply_to question (reply_text rows (record { at = at; answer = answers.No r }) ++ more) ≡ Ok (replies.Refused n, more)
    refusal_read rows r n small is = ap (reply_to question) (no_shape rows r) ∙ no_back (refusal_text rows r) n (behind rows r n small is)
