-- How hearing goes on, from what was replied to the next reply.
use Rattle.std.proofs.Common.{◌≡◌, ℕ, ◌-◌, ◌≤◌, List, [], ◌∷◌, ◌++◌, length, map, Option, Ok, Err, refl, sym, ap, subst, ◌∙◌, arith, length-append}
use Rattle.outside.specs.Flow.{Flow, Gives}
use Rattle.outside.proofs.FlowFacts.{gives_both}
use Rattle.standby_wire.specs.Replies.{reply_to}
use Rattle.standby_wire.specs.Taking.{Pending, moved_on, IsWaiting, Waits}
use Rattle.standby_wire.specs.Noted.{replied_of}
use Rattle.standby_wire.specs.Replied.{Replied, AreRead, HearingView, IsHearing}
use Rattle.standby_wire.specs.declared.hearing.Noted.{Noted}
use Rattle.standby_wire.specs.declared.reply.Question.{Question}
use Rattle.standby_wire.specs.declared.reply.Reply.{Reply}
use Rattle.standby_wire.specs.declared.inbox.WaitFault.{WaitFault}
use Rattle.standby_wire.specs.declared.inbox.WaitFault.TheVariants.{Broken, SourceFault, Memory}
use Rattle.standby_wire.proofs.InboxFacts.{gives_nothing}
use Rattle.standby_wire.proofs.StayFacts.{reply_stays}

-- what is heard, by its parts
abbrev pub view_of : List Replied → Pending → Option Flow → Option Flow → ℕ → ℕ → HearingView
view_of replied pending first flow first_faults faults =
    record { replied = replied; pending = pending; first = first; flow = flow; first_faults = first_faults; faults = faults }

abbrev with_more : Pending → List ℕ → Pending
with_more left more = record { bytes = left.bytes ++ more; due = left.due }

-- the same replies are read of an input that goes on
read_more : (at : ℕ) (rs : List Replied) (input more : List ℕ) (left : Pending) → AreRead at rs input left → AreRead at rs (input ++ more) (with_more left more)
read_more at [] input more left is = ap (λ (p : Pending). with_more p more) is
read_more at (r ∷ rs) input more left (behind, due, read, others) =
    let same : length (input ++ more) - length (behind ++ more) ≡ length input - length behind = omega (arith, length-append input more, length-append behind more) in (
      behind ++ more,
      due,
      reply_stays r.question r.reply input behind more read,
      subst (λ n. AreRead (moved_on at n) rs (behind ++ more) (with_more left more)) (sym same) (read_more (moved_on at (length input - length behind)) rs behind more left others),
    )

-- and one more of what is left
read_next : (at : ℕ) (rs : List Replied) (input : List ℕ) (left new : Pending) (question : Question) (reply : Reply) → AreRead at rs input left
    → reply_to question left.bytes ≡ Ok (reply, new.bytes) → new.due ≡ moved_on left.due (length left.bytes - length new.bytes)
    → AreRead at (rs ++ record { question = question; due = left.due; reply = reply } ∷ []) input new
read_next at [] input left new question reply is read moves =
    let bytes : left.bytes ≡ input = ap (λ (p : Pending). p.bytes) is in
    let due : left.due ≡ at = ap (λ (p : Pending). p.due) is in (
      new.bytes,
      due,
      subst (λ v. reply_to question v ≡ Ok (reply, new.bytes)) bytes read,
      ap (λ n. record { bytes = new.bytes; due = n })
          (moves ∙ ap (λ n. moved_on n (length left.bytes - length new.bytes)) due ∙ ap (λ v. moved_on at (length v - length new.bytes)) bytes),
    )
read_next at (r ∷ rs) input left new question reply (behind, due, is, others) read moves =
    (behind, due, is, read_next (moved_on at (length input - length behind)) rs behind left new question reply others read moves)

-- what an inbox took, and where it then stood
module _ (question : Question) (first : Option Flow) (before after : Option Flow) (rs : List Replied) (old there : Pending) (taken : List ℕ)
    (gives : Gives first before taken) (read : AreRead 0 rs taken old) (w : IsWaiting question old there before after) where
  pub gave : Gives first after (taken ++ w.taken)
  gave = gives_both first before after taken w.taken gives w.gives

  pub read_there : AreRead 0 rs (taken ++ w.taken) there
  read_there = subst (λ (p : Pending). AreRead 0 rs (taken ++ w.taken) p) (sym w.has) (read_more 0 rs taken w.taken old read)

  pub due_there : there.due ≡ old.due
  due_there = ap (λ (p : Pending). p.due) w.has

more_noted : (items : List Noted) (x : Noted) → map replied_of (items ++ x ∷ []) ≡ map replied_of items ++ replied_of x ∷ []
more_noted [] x = refl
more_noted (y ∷ ys) x = ap (λ v. replied_of y ∷ v) (more_noted ys x)

-- one reply more was noted
pub noted_on : (items room new : List Noted) (x : Noted) (question : Question) (due : ℕ) (reply : Reply) → room ≡ items → new ≡ room ++ x ∷ []
    → x.question.value ≡ question → x.due.value ≡ due → x.reply.value ≡ reply
    → map replied_of new ≡ map replied_of items ++ record { question = question; due = due; reply = reply } ∷ []
noted_on items room new x question due reply same is of_question of_due of_reply =
    ap (map replied_of) (is ∙ ap (λ v. v ++ x ∷ []) same)
    ∙ more_noted items x
    ∙ ap (λ (r : Replied). map replied_of items ++ r ∷ []) (λ i. record { question = of_question i; due = of_due i; reply = of_reply i })

-- nothing was asked
pub hearing_first : (flow : Option Flow) (faults : ℕ) (view : HearingView)
    → view ≡ record { replied = []; pending = record { bytes = []; due = 0 }; first = flow; flow = flow; first_faults = faults; faults = faults } → IsHearing view
hearing_first flow faults view is = subst IsHearing (sym is) (record { taken = []; gives = gives_nothing flow; read = refl; never_falls = omega arith })

-- a wait for a reply came to this
module _ (question : Question) (old new : HearingView) (h : IsHearing old) (first : new.first ≡ old.first) (first_faults : new.first_faults ≡ old.first_faults)
    (never_falls : old.faults ≤ new.faults) where
  hearing_with : (taken : List ℕ) → Gives old.first new.flow taken → AreRead 0 new.replied taken new.pending → IsHearing new
  hearing_with taken gives read = record {
    taken = taken;
    gives = subst (λ f. Gives f new.flow taken) (sym first) gives;
    read = read;
    never_falls = let lo = h.never_falls in omega arith;
  }

  pub hears_reply : (reply : Reply) → Waits question old.pending new.pending old.flow new.flow (Ok reply)
      → new.replied ≡ old.replied ++ record { question = question; due = old.pending.due; reply = reply } ∷ [] → IsHearing new
  hears_reply reply w is =
      let due = due_there question old.first old.flow new.flow old.replied old.pending w.there h.taken h.gives h.read w.waits in
      hearing_with (h.taken ++ w.waits.taken)
      (gave question old.first old.flow new.flow old.replied old.pending w.there h.taken h.gives h.read w.waits)
      (subst (λ rs. AreRead 0 rs (h.taken ++ w.waits.taken) new.pending)
      (ap (λ n. old.replied ++ record { question = question; due = n; reply = reply } ∷ []) due ∙ sym is)
      (read_next 0 old.replied (h.taken ++ w.waits.taken) w.there new.pending question reply
      (read_there question old.first old.flow new.flow old.replied old.pending w.there h.taken h.gives h.read w.waits) w.answers.0 w.answers.1))

  still_there : (there : Pending) (w : IsWaiting question old.pending there old.flow new.flow) → new.pending ≡ there → new.replied ≡ old.replied → IsHearing new
  still_there there w is same =
      hearing_with (h.taken ++ w.taken)
      (gave question old.first old.flow new.flow old.replied old.pending there h.taken h.gives h.read w)
      (subst (λ rs. AreRead 0 rs (h.taken ++ w.taken) new.pending) (sym same)
      (subst (λ (p : Pending). AreRead 0 old.replied (h.taken ++ w.taken) p) (sym is)
      (read_there question old.first old.flow new.flow old.replied old.pending there h.taken h.gives h.read w)))

  pub hears_none : (fault : WaitFault) → Waits question old.pending new.pending old.flow new.flow (Err fault) → new.replied ≡ old.replied → IsHearing new
  hears_none (Broken at) w same = still_there w.there w.waits w.answers.0 same
  hears_none SourceFault w same = still_there w.there w.waits w.answers.0 same
  hears_none Memory w same = still_there w.there w.waits w.answers same
