-- How a line feed goes on, from what its reply tells.
use Rattle.std.proofs.Common.{◌≡◌, ℕ, Bool, ◌==◌, true, List, [], ◌∷◌, ◌++◌, Option, Result, Ok, IfOk, refl, sym, subst, ap}
use Rattle.command_types.specs.Lines.{cut_of, ended_line}
use Rattle.outside.specs.declared.failed.Failed.{Failed}
use Rattle.session.specs.declared.taking.Step.{Step}
use Rattle.session.specs.declared.taking.Step.TheVariants.{On, Over}
use Rattle.outside.specs.Flow.{Takes, TakesFront}
use Rattle.command_types.specs.declared.answer.Reply.{Reply}
use Rattle.command_types.specs.Roster.{Rows}
use Rattle.command_types.specs.Details.{reply_text}
use Rattle.session.specs.Pending.{Says}
use Rattle.session.specs.Serving.{Sight, roster_of, Answers, Left, CutOff}
use Rattle.session.specs.Standing.{Stand, step_of, RepliesWhole, RepliesInPart, Served}
use Rattle.session.proofs.PendingFacts.{says_as, says_then_flushed, front_waiting}
use Rattle.session.proofs.StepFacts.{goes_on, is_over, ok_holds}
use Rattle.session.proofs.ServedFacts.{served_line, left_line, cut_off_line}

pub whole_on : {clock : ℕ → Bool} (start : Sight) (ahead : List (List ℕ)) (begun taken taken' : Option (List ℕ)) (old new : Stand) (kept next bytes line : List ℕ) (b : ℕ) (result : Result Step Failed) →
    Served clock start ahead begun taken old kept bytes → (b == 10) ≡ true → next ≡ [] → line ≡ ended_line kept → result ≡ Ok On → IfOk result (RepliesWhole clock old new line taken taken') →
    Served clock start ahead begun taken' new next (bytes ++ b ∷ [])
whole_on {clock} start ahead begun taken taken' old new kept next bytes line b result v feed is same ok whole =
    let P : List ℕ → Type 0 = λ l. RepliesWhole clock old new l taken taken' On in
    let r = subst P same (ok_holds (RepliesWhole clock old new line taken taken') result On ok whole) in
    served_line start ahead begun taken taken' old new kept next bytes b r.reply v feed is r.answers r.said (goes_on r.reply.answer r.next)

pub whole_over : {clock : ℕ → Bool} (start : Sight) (ahead : List (List ℕ)) (begun taken taken' : Option (List ℕ)) (old new : Stand) (kept bytes line : List ℕ) (b : ℕ) (result : Result Step Failed) →
    Served clock start ahead begun taken old kept bytes → (b == 10) ≡ true → line ≡ ended_line kept → result ≡ Ok Over → IfOk result (RepliesWhole clock old new line taken taken') →
    Left clock start begun taken' new.sight (cut_of (bytes ++ b ∷ [])).whole
whole_over {clock} start ahead begun taken taken' old new kept bytes line b result v feed same ok whole =
    let P : List ℕ → Type 0 = λ l. RepliesWhole clock old new l taken taken' Over in
    let r = subst P same (ok_holds (RepliesWhole clock old new line taken taken') result Over ok whole) in
    left_line start ahead begun taken taken' old new kept bytes b r.reply v feed r.answers r.said (r.flushed refl) (is_over r.reply.answer r.next)

pub part_cut : {clock : ℕ → Bool} (start : Sight) (ahead : List (List ℕ)) (begun taken taken' : Option (List ℕ)) (old new : Stand) (kept bytes line : List ℕ) (b : ℕ) →
    Served clock start ahead begun taken old kept bytes → (b == 10) ≡ true → line ≡ ended_line kept → RepliesInPart clock old new line taken taken' →
    CutOff clock start ahead begun taken' new.sight (cut_of (bytes ++ b ∷ [])).whole
part_cut {clock} start ahead begun taken taken' old new kept bytes line b v feed same r =
    let P : List ℕ → Type 0 = λ l. RepliesInPart clock old new l taken taken' in
    cut_off_line start ahead begun taken taken' old new kept bytes b v feed (subst P same r)

-- a reply that waited and was written
pub replied_flushed : {clock : ℕ → Bool} (taken between taken' : Option (List ℕ)) (old new : Stand) (waits line : List ℕ) (rows : Rows) (reply : Reply) (step : Step) → rows ≡ roster_of old.sight →
    Answers clock old.sight new.sight old.speaker new.speaker line reply → Says taken between old.waits waits (reply_text rows reply) → Takes between taken' waits → new.waits ≡ [] → step ≡ step_of reply.answer → RepliesWhole clock old new line taken taken' step
replied_flushed taken between taken' old new waits line rows reply step same a said took none next =
    let P : List ℕ → Type 0 = λ w. Says taken taken' old.waits w (reply_text (roster_of old.sight) reply) in
    let whole = says_then_flushed taken between taken' old.waits waits (reply_text rows reply) said took in
    record {
      reply = reply;
      answers = a;
      said = subst P (sym none) (says_as taken taken' old.waits [] (reply_text rows reply) (reply_text (roster_of old.sight) reply) (ap (λ r. reply_text r reply) same) whole);
      next = next;
      flushed = λ over. none;
    }

-- a reply that waited and was not written whole
pub replied_in_part : {clock : ℕ → Bool} (taken between taken' : Option (List ℕ)) (old new : Stand) (waits line : List ℕ) (rows : Rows) (reply : Reply) → rows ≡ roster_of old.sight →
    Answers clock old.sight new.sight old.speaker new.speaker line reply → Says taken between old.waits waits (reply_text rows reply) → TakesFront between taken' waits → RepliesInPart clock old new line taken taken'
replied_in_part taken between taken' old new waits line rows reply same a said front = record {
  reply = reply;
  answers = a;
  took = front_waiting taken between taken' old.waits waits (reply_text (roster_of old.sight) reply)
      (says_as taken between old.waits waits (reply_text rows reply) (reply_text (roster_of old.sight) reply) (ap (λ r. reply_text r reply) same) said) front;
}
