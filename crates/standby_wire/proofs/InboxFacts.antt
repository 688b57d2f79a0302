-- Waiting for a reply, a piece on.
use Rattle.std.proofs.Common.{◌≡◌, ℕ, ◌-◌, ◌≤◌, Bool, true, List, [], ◌++◌, length, take, drop, Option, Some, None, Ok, Err, refl, sym, ap, subst, ◌∙◌, append_assoc, append-nil, inl, inr}
use Rattle.std.proofs.lemmas.List.{length-drop}
use Rattle.std.proofs.Math.Seq.{take-append_seam}
use Rattle.outside.specs.Flow.{Flow, Gives}
use Rattle.outside.proofs.FlowFacts.{gives_both}
use Rattle.standby_wire.specs.declared.stop.Stop.{Stop}
use Rattle.standby_wire.specs.declared.stop.Stop.TheVariants.{More}
use Rattle.standby_wire.specs.declared.stop.NoReply.{NoReply}
use Rattle.standby_wire.specs.declared.stop.NoReply.TheVariants.{Stopped}
use Rattle.standby_wire.specs.Seen.{Seen}
use Rattle.standby_wire.specs.Gives.{Gives as Told}
use Rattle.standby_wire.specs.Replies.{reply_to}
use Rattle.standby_wire.specs.Taking.{Pending, IsWaiting, Waits, Fills}
use Rattle.standby_wire.specs.declared.reply.Question.{Question}
use Rattle.standby_wire.specs.declared.reply.Reply.{Reply}
use Rattle.standby_wire.specs.declared.inbox.TheConstants.{PIECE}
use Rattle.standby_wire.specs.declared.inbox.WaitFault.{WaitFault}
use Rattle.standby_wire.specs.declared.inbox.WaitFault.TheVariants.{Broken, SourceFault, Memory}

-- nothing was taken
pub gives_nothing : (flow : Option Flow) → Gives flow flow []
gives_nothing None = tt
gives_nothing (Some flow) = (sym (append-nil flow.given), refl)

gives_same : (a b : Option Flow) (p q : List ℕ) → p ≡ q → Gives a b p → Gives a b q
gives_same a b p q e gives = subst (λ v. Gives a b v) e gives

pub waits_first : (question : Question) (old : Pending) (flow : Option Flow) → IsWaiting question old old flow flow
waits_first question old flow = record {
  taken = [];
  gives = gives_nothing flow;
  needed = inl refl;
  has = ap (λ v. record { bytes = v; due = old.due }) (sym (append-nil old.bytes));
}

module _ (question : Question) (old there : Pending) (before mid after : Option Flow) (w : IsWaiting question old there before mid) where
  had : there.bytes ≡ old.bytes ++ w.taken
  had = ap (λ (p : Pending). p.bytes) w.has

  pub waits_more : (new : Pending) (piece : List ℕ) → reply_to question there.bytes ≡ Err More → Gives mid after piece → length piece ≤ PIECE
      → new ≡ record { bytes = there.bytes ++ piece; due = there.due } → IsWaiting question old new before after
  waits_more new piece more gives few is = record {
    taken = w.taken ++ piece;
    gives = gives_both before mid after w.taken piece w.gives gives;
    needed = inr (w.taken, piece, refl, few, subst (λ v. reply_to question v ≡ Err More) had more);
    has = is ∙ ap (λ (p : Pending). record { bytes = p.bytes ++ piece; due = p.due }) w.has ∙ ap (λ v. record { bytes = v; due = old.due }) (append_assoc old.bytes w.taken piece);
  }

  pub waits_still : Gives mid after [] → IsWaiting question old there before after
  waits_still gives = record {
    taken = w.taken;
    gives = gives_same before after (w.taken ++ []) w.taken (append-nil w.taken) (gives_both before mid after w.taken [] w.gives gives);
    needed = w.needed;
    has = w.has;
  }

  -- after a call that took a piece, or none by a fault; nothing was read before it
  pub waits_on : (left new : Pending) (is_more : Bool) → left ≡ there → reply_to question there.bytes ≡ Err More → is_more ≡ true
      → Fills left new mid after (Ok is_more) → IsWaiting question old new before after
  waits_on left new is_more same more is fills =
      let f : Fills left new mid after (Ok true) = subst (λ (b : Bool). Fills left new mid after (Ok b)) is fills in
      waits_more new f.0 more f.1 f.4 (f.2 ∙ ap (λ (p : Pending). record { bytes = p.bytes ++ f.0; due = p.due }) same)

  pub waits_failed : (left new : Pending) (fault : WaitFault) → left ≡ there → reply_to question there.bytes ≡ Err More
      → Fills left new mid after (Err fault) → Waits question old new before after (Err fault)
  waits_failed left new (Broken at) same more f = absurd f
  waits_failed left new SourceFault same more f =
      record { there = there; waits = subst (λ v. IsWaiting question old there before v) (sym f.0) w; answers = (f.1 ∙ same, more) }
  waits_failed left new Memory same more f =
      record { there = there; waits = subst (λ v. IsWaiting question old there before v) (sym f.0) w; answers = f.1 ∙ same }

-- what was read where none came, as an arm of a match tells it
pub why_stopped : (fault : NoReply) (told stop : Stop) (rest : List ℕ) (read : Seen Reply) → fault ≡ Stopped told → told ≡ stop → Told (Err fault) rest read → read ≡ Err stop
why_stopped fault told stop rest read is same gives = subst (λ (f : NoReply). Told (Err f) rest read) is gives ∙ ap (λ (s : Stop). Err s) same

-- the bytes behind a place, turned to the front
pub rotated : (items : List ℕ) (start n : ℕ) → n ≡ length items - start → take n (drop start items ++ take start items) ≡ drop start items
rotated items start n is = ap (λ k. take k (drop start items ++ take start items)) (is ∙ sym (length-drop start items)) ∙ take-append_seam (drop start items) (take start items)
