-- What the question for an entry again comes to.
use Rattle.std.proofs.Common.{◌≡◌, ◌∙◌, ℕ, ◌≤◌, ◌==◌, Bool, true, false, not, cond, List, [], ◌∷◌, Option, Some, None, Result, Ok, Err, refl, sym, ap, inl, inr, arith}
use Rattle.std.proofs.lemmas.Bool.{false≢true}
use Rattle.std.proofs.lemmas.List.{append-nil}
use Rattle.std.specs.Prelude.{IfOk}
use Rattle.std.proofs.lemmas.Bool.Decides.{nat_tests}
use Rattle.standby_wire.specs.Replied.{HearingView, IsSameSource, Hears, noted}
use Rattle.standby_wire.specs.declared.inbox.WaitFault.{WaitFault}
use Rattle.standby_wire.specs.declared.inbox.WaitFault.TheVariants as faults
use Rattle.standby_wire.specs.declared.reply.Question.{Question}
use Rattle.standby_wire.specs.declared.reply.Question.TheVariants as questions
use Rattle.standby_wire.specs.declared.reply.Reply.{Reply}
use Rattle.standby_wire.specs.declared.reply.Reply.TheVariants as replies
use Rattle.standby.specs.Ending.{is_cut_by}
use Rattle.standby.specs.declared.follow.FollowEnd.{FollowEnd}
use Rattle.standby.specs.declared.follow.FollowEnd.TheVariants.{Refused}
use Rattle.house.specs.House.{HouseView}
use Rattle.standby_link.specs.Asked.{WireGoes}
use Rattle.standby_link.specs.Compared.{Compares, ComesTo, IsAgain, IsUnasked, end_asked}
use Rattle.standby_link.specs.Wire.{WireView, IsWire}
use Rattle.standby_link.specs.declared.login.Login.{Login}
use Rattle.standby_link.specs.declared.comparing.TheConstants.{GONE}
use Rattle.standby_link.proofs.WireFacts.{heard_broken, heard_fault}

module _ (position : ℕ) (bytes : List ℕ) (old new : HearingView) (same : IsSameSource old new) (counted : old.first_faults ≤ old.faults) where
  abbrev again : Question
  again = questions.Again position bytes

  refused : (number due : ℕ) (gone : Bool) → (number == GONE) ≡ gone
      → ComesTo position bytes new (record { question = again; due = due; reply = replies.Refused number } ∷ []) (cond {A = Option FollowEnd} gone None (Some (Refused number)))
  refused number due true is =
      let e : number ≡ GONE = grind (arith, nat_tests) in
      inr (due, ap (λ n. record { question = again; due = due; reply = replies.Refused n } ∷ []) e)
  refused number due false is = ((λ (e : number ≡ GONE). grind (arith, nat_tests)), (due, refl))

  pub came_to : (answer : Result Reply WaitFault) → IfOk answer IsAgain → Hears again old new answer → ComesTo position bytes new (noted again old.pending.due answer) (end_asked answer)
  came_to (Ok (replies.Refused number)) fits heard = refused number old.pending.due (number == GONE) refl
  came_to (Ok replies.Same) fits heard = inl (old.pending.due, refl)
  came_to (Ok reply) fits heard = absurd fits
  came_to (Err (faults.Broken at)) fits heard = (refl, heard_broken again old new at heard)
  came_to (Err faults.SourceFault) fits heard = (refl, heard_fault again old new same counted heard)
  came_to (Err faults.Memory) fits heard = refl

refused_uncut : (number : ℕ) (cut gone : Bool) → is_cut_by cut (cond {A = Option FollowEnd} gone None (Some (Refused number))) ≡ cut
refused_uncut number cut true = refl
refused_uncut number cut false = refl

-- no line is cut by what is heard
pub uncut : (cut : Bool) (answer : Result Reply WaitFault) → is_cut_by cut (end_asked answer) ≡ cut
uncut cut (Ok (replies.Refused number)) = refused_uncut number cut (number == GONE)
uncut cut (Ok reply) = refl
uncut cut (Err (faults.Broken at)) = refl
uncut cut (Err faults.SourceFault) = refl
uncut cut (Err faults.Memory) = refl

-- ---- nothing is asked

pub not_comparing : (own login : Login) → own ≡ login → not own.compare ≡ true → login.compare ≡ false
not_comparing own login same is = sym (ap (λ (l : Login). l.compare) same) ∙ not_true own.compare is
  where
    not_true : (b : Bool) → not b ≡ true → b ≡ false
    not_true true is = absurd (false≢true is)
    not_true false is = refl

-- nothing was said over a wire
pub nothing_asked : (w : WireView) (house : HouseView) (end : Option FollowEnd) → IsUnasked w.start.login house end → w.cut ≡ is_cut_by w.cut end → IsWire w
    → WireGoes (Compares w.start.login house) w w end
nothing_asked w house end why uncut is = record {
  said = [];
  replied = [];
  says = sym (append-nil w.said);
  reads = sym (append-nil w.hearing.replied);
  holds = inl (refl, refl, why);
  start = refl;
  last = refl;
  cut = uncut;
  is = is;
}
