-- How a wire goes on, by a line and by a reply.
use Rattle.std.proofs.Common.{◌≡◌, ℕ, ◌<◌, ◌≤◌, Bool, true, false, List, [], ◌∷◌, ◌++◌, length, take, drop, Option, Some, None, Result, Ok, Err, refl, sym, ap, ◌∙◌, subst, inl, inr, arith, append_assoc, append-nil, length-append, length-drop}
use Rattle.std.proofs.lemmas.Bool.{false≢true}
use Rattle.std.proofs.lemmas.List.{take-append-drop}
use Rattle.outside.specs.Faults.{Rose}
use Rattle.outside.specs.Flow.{Takes, TakesFront}
use Rattle.outside.proofs.FlowFacts.{takes_both}
use Rattle.outside.specs.declared.failed.Failed.{Failed}
use Rattle.standby_wire.specs.Replied.{Replied, HearingView, IsHearing, IsSameSource, Hears}
use Rattle.standby_wire.specs.Replies.{reply_to}
use Rattle.standby_wire.specs.Taking.{Pending, IsNone}
use Rattle.standby_wire.specs.declared.stop.Stop.TheVariants.{More}
use Rattle.standby_wire.specs.declared.reply.Question.{Question}
use Rattle.standby_wire.specs.declared.reply.Question.TheVariants as questions
use Rattle.standby_wire.specs.declared.reply.Reply.{Reply}
use Rattle.standby_wire.specs.declared.reply.Reply.TheVariants as replies
use Rattle.standby_wire.specs.declared.inbox.WaitFault.{WaitFault}
use Rattle.standby_wire.specs.declared.inbox.WaitFault.TheVariants as faults
use Rattle.standby.specs.Link.{Offer}
use Rattle.standby.specs.Sent.{Sent, offers_in}
use Rattle.standby.specs.declared.peer.Heard.{Heard}
use Rattle.standby_link.specs.Written.{line_text, text_of, Writes}
use Rattle.standby_link.specs.Read.{offered, offers_of, EndWith, IsBroken, IsUnheard, IsCause, IsLast, HearsMore}
use Rattle.standby_link.specs.Wire.{WireStart, WireView, IsWire}
use Rattle.standby_link.specs.Wired.{IsToldBy}
use Rattle.standby_link.specs.declared.login.Login.{Login}

-- ---- what is written

text_append : (login : Login) (xs ys : List Sent) → text_of login (xs ++ ys) ≡ text_of login xs ++ text_of login ys
text_append login [] ys = refl
text_append login (x ∷ xs) ys =
    ap (λ t. line_text login x.line ++ t) (text_append login xs ys) ∙ sym (append_assoc (line_text login x.line) (text_of login xs) (text_of login ys))

module _ (login : Login) (said : List Sent) (sent : Sent) where
  text_more : text_of login (said ++ sent ∷ []) ≡ text_of login said ++ line_text login sent.line
  text_more = text_append login said (sent ∷ []) ∙ ap (λ t. text_of login said ++ t) (append-nil (line_text login sent.line))

  -- a line is written whole
  pub writes_whole : (cut : Bool) (before mid after : Option (List ℕ)) → cut ≡ false → Writes login said cut before mid → Takes mid after (line_text login sent.line)
      → Writes login (said ++ sent ∷ []) cut before after
  writes_whole false before mid after is w takes =
      subst (λ t. Takes before after t) (sym text_more) (takes_both before mid after (text_of login said) (line_text login sent.line) w takes)
  writes_whole true before mid after is w takes = absurd (false≢true (sym is))

  left_out : (line : List ℕ) (n : ℕ) → n < length line → 0 < length (drop n line)
  left_out line n less = omega (arith, length-drop n line)

  -- or a front of it
  pub writes_front : (cut : Bool) (before mid after : Option (List ℕ)) → cut ≡ false → Writes login said cut before mid → TakesFront mid after (line_text login sent.line)
      → Writes login (said ++ sent ∷ []) true before after
  writes_front false before mid after is w (n, less, takes) =
      let line : List ℕ = line_text login sent.line in (
        text_of login said ++ take n line,
        drop n line,
        text_more ∙ ap (λ v. text_of login said ++ v) (sym (take-append-drop n line)) ∙ sym (append_assoc (text_of login said) (take n line) (drop n line)),
        left_out line n less,
        takes_both before mid after (text_of login said) (take n line) w takes,
      )
  writes_front true before mid after is w front = absurd (false≢true (sym is))

  more_left : (rest line : List ℕ) → 0 < length rest → 0 < length (rest ++ line)
  more_left rest line some = omega (arith, length-append rest line)

  -- or nothing, where a line before it was cut
  pub writes_no_more : (cut : Bool) (before after : Option (List ℕ)) → cut ≡ true → Writes login said cut before after → Writes login (said ++ sent ∷ []) cut before after
  writes_no_more true before after is (front, rest, whole, some, takes) = (
    front,
    rest ++ line_text login sent.line,
    text_more ∙ ap (λ v. v ++ line_text login sent.line) whole ∙ append_assoc front rest (line_text login sent.line),
    more_left rest (line_text login sent.line) some,
    takes,
  )
  writes_no_more false before after is w = absurd (false≢true is)

-- ---- what is read

offers_append : (xs ys : List Replied) → offers_of (xs ++ ys) ≡ offers_of xs ++ offers_of ys
offers_append [] ys = refl
offers_append (x ∷ xs) ys =
    ap (λ os. offered x.question x.reply ++ os) (offers_append xs ys) ∙ sym (append_assoc (offered x.question x.reply) (offers_of xs) (offers_of ys))

pub rose_from : (a b c : ℕ) → a ≤ b → Rose b c → Rose a c
rose_from a b c le (inl more) = inl (omega arith)
rose_from a b c le (inr most) = inr most

-- what was asked and came to a fault
module _ (question : Question) (old new : HearingView) where
  pub heard_broken : (at : ℕ) → Hears question old new (Err (faults.Broken at)) → IsBroken question new at
  heard_broken at heard =
      let w = heard.waits in
      let is : w.there ≡ new.pending = sym w.answers.0 in
      (w.answers.1 ∙ ap (λ (p : Pending). p.due) is, subst (λ (p : Pending). IsNone (reply_to question p.bytes) new.flow) is w.answers.2)

  pub heard_fault : IsSameSource old new → old.first_faults ≤ old.faults → Hears question old new (Err faults.SourceFault) → IsUnheard question new
  heard_fault same counted heard =
      let w = heard.waits in
      let is : w.there ≡ new.pending = sym w.answers.0 in
      let least : new.first_faults ≤ old.faults = subst (λ n. n ≤ old.faults) (sym same.first_faults) counted in (
        subst (λ (p : Pending). reply_to question p.bytes ≡ Err More) is w.answers.1,
        rose_from new.first_faults old.faults new.faults least (heard.failed refl),
      )

  pub heard_none : (fault : WaitFault) → Hears question old new (Err fault) → new.replied ≡ old.replied
  heard_none fault heard = heard.notes ∙ append-nil old.replied

module _ (position due : ℕ) (old new : HearingView) (here : due ≡ old.pending.due) (same : IsSameSource old new) where
  ended : (reply : Reply) → Hears (questions.Next position) old new (Ok reply) → EndWith new.replied position due reply
  ended reply heard = record {
    front = old.replied;
    is = heard.notes ∙ ap (λ n. old.replied ++ record { question = questions.Next position; due = n; reply = reply } ∷ []) (sym here);
  }

  -- what a NEXT came to has its cause
  pub cause_of : old.first_faults ≤ old.faults → (answer : Result Reply WaitFault) (came : Result Heard Failed) → Hears (questions.Next position) old new answer → IsToldBy position due answer came
      → IsCause new position came
  cause_of counted (Ok (replies.Entry entry)) came heard told = subst (IsCause new position) (sym told) (ended (replies.Entry entry) heard, refl)
  cause_of counted (Ok replies.Nothing) came heard told = subst (IsCause new position) (sym told) (due, ended replies.Nothing heard)
  cause_of counted (Ok (replies.Refused number)) came heard told = subst (IsCause new position) (sym told) (due, ended (replies.Refused number) heard)
  cause_of counted (Ok replies.Greeted) came heard told = absurd told
  cause_of counted (Ok replies.Same) came heard told = absurd told
  cause_of counted (Err (faults.Broken at)) came heard told = subst (IsCause new position) (sym told) (heard_broken (questions.Next position) old new at heard)
  cause_of counted (Err faults.SourceFault) came heard (failed, told) =
      subst (IsCause new position) (sym told) (heard_fault (questions.Next position) old new same counted heard)
  cause_of counted (Err faults.Memory) came heard told = subst (IsCause new position) (sym told) tt

  offers_none : (os : List Offer) → new.replied ≡ old.replied → os ≡ [] → offers_of new.replied ≡ offers_of old.replied ++ os
  offers_none os is none = ap offers_of is ∙ sym (append-nil (offers_of old.replied)) ∙ ap (λ v. offers_of old.replied ++ v) (sym none)

  offers_one : (reply : Reply) (os : List Offer) → offered (questions.Next position) reply ≡ os → Hears (questions.Next position) old new (Ok reply)
      → offers_of new.replied ≡ offers_of old.replied ++ os
  offers_one reply os is heard =
      ap offers_of heard.notes ∙ offers_append old.replied (record { question = questions.Next position; due = old.pending.due; reply = reply } ∷ [])
      ∙ ap (λ v. offers_of old.replied ++ v) (append-nil (offered (questions.Next position) reply) ∙ is)

  -- and is the entry that was read, if it is one
  pub offers_heard : (answer : Result Reply WaitFault) (came : Result Heard Failed) → Hears (questions.Next position) old new answer → IsToldBy position due answer came
      → offers_of new.replied ≡ offers_of old.replied ++ offers_in came
  offers_heard (Ok (replies.Entry entry)) came heard told = offers_one (replies.Entry entry) (offers_in came) (sym (ap offers_in told)) heard
  offers_heard (Ok replies.Nothing) came heard told = offers_one replies.Nothing (offers_in came) (sym (ap offers_in told)) heard
  offers_heard (Ok (replies.Refused number)) came heard told = offers_one (replies.Refused number) (offers_in came) (sym (ap offers_in told)) heard
  offers_heard (Ok replies.Greeted) came heard told = absurd told
  offers_heard (Ok replies.Same) came heard told = absurd told
  offers_heard (Err (faults.Broken at)) came heard told =
      offers_none (offers_in came) (heard_none (questions.Next position) old new (faults.Broken at) heard) (ap offers_in told)
  offers_heard (Err faults.SourceFault) came heard (failed, told) =
      offers_none (offers_in came) (heard_none (questions.Next position) old new faults.SourceFault heard) (ap offers_in told)
  offers_heard (Err faults.Memory) came heard told =
      offers_none (offers_in came) (heard_none (questions.Next position) old new faults.Memory heard) (ap offers_in told)

module _ (old new : HearingView) (same : IsSameSource old new) where
  on : (first : HearingView) → HearsMore first old → (more : List Replied) → new.replied ≡ old.replied ++ more → HearsMore first new
  on first m more is = record {
    more = m.more ++ more;
    is = is ∙ ap (λ rs. rs ++ more) m.is ∙ append_assoc first.replied m.more more;
    first = same.first ∙ m.first;
    first_faults = same.first_faults ∙ m.first_faults;
    never_falls = let p = m.never_falls in let q = same.never_falls in omega arith;
  }

  -- nothing that was heard is lost
  pub hears_on : (question : Question) (first : HearingView) → HearsMore first old → (answer : Result Reply WaitFault) → Hears question old new answer → HearsMore first new
  hears_on question first m (Ok reply) heard = on first m (record { question = question; due = old.pending.due; reply = reply } ∷ []) heard.notes
  hears_on question first m (Err fault) heard = on first m [] heard.notes

-- ---- the wire

-- a line was said
pub said_wire : (old new : WireView) → IsWire old → new.start ≡ old.start → new.hearing ≡ old.hearing → new.last ≡ old.last → old.sink_faults ≤ new.sink_faults
    → Writes old.start.login new.said new.cut old.start.taken new.taken → (new.cut ≡ true → Rose old.start.sink_faults new.sink_faults) → IsWire new
said_wire old new is start hearing last falls writes cuts = record {
  writes = subst (λ (s : WireStart). Writes s.login new.said new.cut s.taken new.taken) (sym start) writes;
  falls = subst (λ (s : WireStart). s.sink_faults ≤ new.sink_faults) (sym start) (let lo = is.falls in omega arith);
  cuts = λ cut. subst (λ (s : WireStart). Rose s.sink_faults new.sink_faults) (sym start) (cuts cut);
  hearing = subst IsHearing (sym hearing) is.hearing;
  hears = subst (λ (s : WireStart). HearsMore s.hearing new.hearing) (sym start) (subst (λ (h : HearingView). HearsMore old.start.hearing h) (sym hearing) is.hears);
  last = subst (λ l. IsLast new.hearing l) (sym last) (subst (λ (h : HearingView). IsLast h old.last) (sym hearing) is.last);
}

-- a reply was waited for
pub heard_wire : (old new : WireView) → IsWire old → new.start ≡ old.start → new.said ≡ old.said → new.cut ≡ old.cut → new.taken ≡ old.taken → new.sink_faults ≡ old.sink_faults
    → IsHearing new.hearing → HearsMore old.start.hearing new.hearing → IsLast new.hearing new.last → IsWire new
heard_wire old new is start said cut taken faults hearing hears last = record {
  writes = subst (λ (s : WireStart). Writes s.login new.said new.cut s.taken new.taken) (sym start)
      (subst (λ v. Writes old.start.login v new.cut old.start.taken new.taken) (sym said)
      (subst (λ v. Writes old.start.login old.said v old.start.taken new.taken) (sym cut)
      (subst (λ v. Writes old.start.login old.said old.cut old.start.taken v) (sym taken) is.writes)));
  falls = subst (λ (s : WireStart). s.sink_faults ≤ new.sink_faults) (sym start) (subst (λ n. old.start.sink_faults ≤ n) (sym faults) is.falls);
  cuts = λ is_cut. subst (λ (s : WireStart). Rose s.sink_faults new.sink_faults) (sym start)
      (subst (λ n. Rose old.start.sink_faults n) (sym faults) (is.cuts (sym cut ∙ is_cut)));
  hearing = hearing;
  hears = subst (λ (s : WireStart). HearsMore s.hearing new.hearing) (sym start) hears;
  last = last;
}

pub takes_nothing : (taken : Option (List ℕ)) → Takes taken taken []
takes_nothing None = tt
takes_nothing (Some bytes) = sym (append-nil bytes)

-- a wire over which nothing was said yet
pub first_wire : (view : WireView) → view.said ≡ [] → view.cut ≡ false → view.last ≡ None → view.hearing ≡ view.start.hearing → view.taken ≡ view.start.taken
    → view.sink_faults ≡ view.start.sink_faults → IsHearing view.hearing → IsWire view
first_wire view said cut last hearing taken faults is = record {
  writes = subst (λ v. Writes view.start.login v view.cut view.start.taken view.taken) (sym said)
      (subst (λ v. Writes view.start.login [] v view.start.taken view.taken) (sym cut)
      (subst (λ v. Takes view.start.taken v []) (sym taken) (takes_nothing view.start.taken)));
  falls = omega arith;
  cuts = λ is_cut. absurd (false≢true (sym cut ∙ is_cut));
  hearing = is;
  hears = subst (λ (h : HearingView). HearsMore view.start.hearing h) (sym hearing)
      (record { more = []; is = sym (append-nil view.start.hearing.replied); first = refl; first_faults = refl; never_falls = omega arith });
  last = subst (λ l. IsLast view.hearing l) (sym last) tt;
}
