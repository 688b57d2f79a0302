-- A run that is asked turn by turn.
use Rattle.std.proofs.Common.{◌≡◌, ℕ, ◌+◌, Bool, List, [], ◌++◌, take, drop, Option, refl, sym, subst, ap, ◌∙◌, append_assoc}
use Rattle.std.proofs.lemmas.List.{append-nil, drop-drop}
use Rattle.outside.specs.Flow.{TakesFront}
use Rattle.command_types.specs.declared.ask.Entry.{Entry}
use Rattle.command_types.specs.declared.answer.Reply.{Reply}
use Rattle.command_types.specs.Roster.{Rows}
use Rattle.command_types.specs.Session.{Speaker}
use Rattle.session.specs.AskedRun.{IsRunOf, RunsOn}
use Rattle.session.specs.Pending.{Says}
use Rattle.session.specs.Runs.{AsksAll, IsRun, replies_text}
use Rattle.session.specs.Serving.{Seat, roster_of}
use Rattle.session.specs.Standing.{Stand, GoesOn, IsCut}
use Rattle.session.proofs.RunFacts.{goes_run, cut_run, asks_seat, asks_roster, run_split, goes_both, goes_cut, cut_more}
use Rattle.session.proofs.ServedFacts.{served_begun}

-- some of the rest were asked, and their replies were said
pub runs_on : (clock : ℕ → Bool) (old new : Stand) (taken taken' : Option (List ℕ)) (at n : ℕ) (run : List ℕ) (commands then_commands : List Entry) (replies : List Reply) → new.speaker ≡ old.speaker → IsRunOf clock old run (drop at commands) →
    drop (at + n) then_commands ≡ drop (at + n) commands → AsksAll clock old.sight new.sight (take n (drop at commands)) replies → Says taken taken' old.waits new.waits (replies_text (roster_of old.sight) replies) →
    RunsOn clock old new taken taken' run (drop (at + n) then_commands)
runs_on clock old new taken taken' at n run commands then_commands replies same is others asks said =
    let seat = old.sight.seat.number in
    let parts = run_split clock (roster_of old.sight) seat old.speaker n run (drop at commands) is in
    let asked = take n (drop at commands) in
    let rest : drop n (drop at commands) ≡ drop (at + n) then_commands = drop-drop n at commands ∙ sym others in
    let there : IsRun clock (roster_of old.sight) seat old.speaker parts.1 (drop (at + n) then_commands) = subst (IsRun clock (roster_of old.sight) seat old.speaker parts.1) rest parts.4 in
    let P : Rows → ℕ → Speaker → Type 0 = λ rows number speaker. IsRun clock rows number speaker parts.1 (drop (at + n) then_commands) in
    record {
      done = parts.0;
      rest = parts.1;
      order = parts.2;
      goes_on = goes_run clock old new seat taken taken' parts.0 asked replies same parts.3 asks said;
      still = subst (P (roster_of new.sight) new.sight.seat.number) (sym same)
          (subst (λ (s : Seat). P (roster_of new.sight) s.number old.speaker) (sym (asks_seat clock old.sight new.sight asked replies asks))
          (subst (λ rows. P rows seat old.speaker) (sym (asks_roster clock old.sight new.sight asked replies asks)) there));
    }

-- or they were not written whole
pub cut_on : (clock : ℕ → Bool) (old new : Stand) (taken taken' : Option (List ℕ)) (at n : ℕ) (run : List ℕ) (commands : List Entry) (replies : List Reply) → IsRunOf clock old run (drop at commands) →
    AsksAll clock old.sight new.sight (take n (drop at commands)) replies → TakesFront taken taken' (old.waits ++ replies_text (roster_of old.sight) replies) → IsCut clock old new [] taken taken' run
cut_on clock old new taken taken' at n run commands replies is asks front =
    let seat = old.sight.seat.number in
    let parts = run_split clock (roster_of old.sight) seat old.speaker n run (drop at commands) is in
    let cut = cut_run clock old new seat taken taken' parts.0 (take n (drop at commands)) replies parts.3 asks front in
    subst (IsCut clock old new [] taken taken') (sym parts.2) (cut_more clock old new [] taken taken' parts.0 parts.1 cut)

-- a session goes on by nothing
pub goes_none : (clock : ℕ → Bool) (stand : Stand) (kept : List ℕ) (taken : Option (List ℕ)) → GoesOn clock stand stand kept kept taken taken []
goes_none clock stand kept taken = λ start ahead begun bytes v. served_begun start ahead begun taken stand kept bytes v

-- a run of which nothing was asked yet
pub runs_none : (clock : ℕ → Bool) (stand : Stand) (taken : Option (List ℕ)) (run : List ℕ) (commands : List Entry) → IsRunOf clock stand run commands → RunsOn clock stand stand taken taken run commands
runs_none clock stand taken run commands is = record { done = []; rest = run; order = refl; goes_on = goes_none clock stand [] taken; still = is }

-- first these were asked, and then those
pub runs_both : (clock : ℕ → Bool) (old mid new : Stand) (a b c : Option (List ℕ)) (run : List ℕ) (commands then_commands : List Entry) → (first : RunsOn clock old mid a b run commands) → RunsOn clock mid new b c first.rest then_commands → RunsOn clock old new a c run then_commands
runs_both clock old mid new a b c run commands then_commands first then = record {
  done = first.done ++ then.done;
  rest = then.rest;
  order = first.order ∙ ap (λ r. first.done ++ r) then.order ∙ sym (append_assoc first.done then.done then.rest);
  goes_on = goes_both clock old mid new [] [] [] a b c first.done then.done first.goes_on then.goes_on;
  still = then.still;
}

-- the text was cut off in the second
pub runs_cut : (clock : ℕ → Bool) (old mid new : Stand) (a b c : Option (List ℕ)) (run : List ℕ) (commands : List Entry) → (first : RunsOn clock old mid a b run commands) → IsCut clock mid new [] b c first.rest → IsCut clock old new [] a c run
runs_cut clock old mid new a b c run commands first cut =
    subst (IsCut clock old new [] a c) (sym first.order) (goes_cut clock old mid new [] [] a b c first.done first.rest first.goes_on cut)

-- all were asked
pub runs_all : (clock : ℕ → Bool) (old new : Stand) (a b : Option (List ℕ)) (run : List ℕ) (commands : List Entry) → commands ≡ [] → RunsOn clock old new a b run commands → GoesOn clock old new [] [] a b run
runs_all clock old new a b run commands none r =
    let end : r.rest ≡ [] = subst (IsRunOf clock new r.rest) none r.still in
    subst (GoesOn clock old new [] [] a b) (sym (r.order ∙ ap (λ t. r.done ++ t) end ∙ append-nil r.done)) r.goes_on
