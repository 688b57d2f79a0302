-- One command more of those that are answered in memory.
use Rattle.std.proofs.Common.{◌≡◌, ℕ, ◌+◌, true, false, List, [], ◌∷◌, ◌++◌, refl, sym, ◌∙◌, subst, ap, arith}
use Rattle.std.proofs.lemmas.List.{append-nil}
use Rattle.std.proofs.lemmas.List.Elements.{All-append, All-cons, All-nil}
use Rattle.command_types.specs.declared.ask.Entry.{Entry}
use Rattle.command_types.specs.declared.answer.Reply.{Reply}
use Rattle.command_types.specs.declared.figures.State.{State}
use Rattle.command_types.specs.History.{end_of, longer}
use Rattle.cycle_states.specs.Replayed.{IsReplayed}
use Rattle.house.specs.Batch.{BatchView, FitsJournal, empty_batch, is_shared}
use Rattle.house.specs.Front.{before_more, IsFront, IsRunningAt}
use Rattle.house.specs.House.{figures_of}
use Rattle.house.specs.Step.{IsStep}
use Rattle.house.proofs.CallingAllFacts.{told_all}
use Rattle.house.proofs.FrontFacts.{step_told, step_made, step_order, step_at, step_many, step_first}
use Rattle.house.proofs.IdleFacts.{step_idle}

module _ (s then next : State) (old new : BatchView) (before : ℕ) (commands : List Entry) (replies : List Reply) (front : IsFront s then old before commands replies)
    (command : Entry) (reply : Reply) (shared : is_shared command.ask.what ≡ true) where
  pub front_more : FitsJournal new → IsStep then next old new command reply → IsFront s next new (before_more before new.entries) (commands ++ command ∷ []) (replies ++ reply ∷ [])
  front_more fits step = record {
    made = λ h replayed. step_made s then next old new before commands replies front command reply shared h replayed step;
    told = λ v running begins.
        let was : old.at ≡ end_of v.history = sym (step_at s then next old new before commands replies front command reply shared step).0 ∙ begins in
        let then_running : IsRunningAt v s old.size = subst (IsRunningAt v s) (step_at s then next old new before commands replies front command reply shared step).1 running in
        told_all (figures_of v) false false false v.history (longer v.history old.entries) (longer v.history new.entries) commands (command ∷ []) replies (reply ∷ [])
        (front.told v then_running was)
        (longer v.history new.entries, false, step_told s then next old new before commands replies front command reply shared v then_running was step, (refl, refl));
    shared = All-append (λ (c : Entry). is_shared c.ask.what ≡ true) commands (command ∷ []) front.shared (All-cons (λ (c : Entry). is_shared c.ask.what ≡ true) command [] shared (All-nil (λ (c : Entry). is_shared c.ask.what ≡ true)));
    order = step_order s then next old new before commands replies front command reply shared step;
    many = step_many s then next old new before commands replies front command reply shared step;
    idle = λ v running begins.
        let was : old.at ≡ end_of v.history = sym (step_at s then next old new before commands replies front command reply shared step).0 ∙ begins in
        step_idle s then next old new before commands replies front command reply shared v (subst (IsRunningAt v s) (step_at s then next old new before commands replies front command reply shared step).1 running) was step;
    first = step_first s then next old new before commands replies front command reply shared fits step;
  }

-- ---- none yet

pub front_none : (s : State) (at size : ℕ) → IsFront s s (empty_batch at size) 0 [] []
front_none s at size = record {
  made = λ h replayed. record {
    begins = replayed;
    replayed = subst (IsReplayed s) (ap (λ (es : List Entry). record h { entries = es }) (sym (append-nil h.entries))) replayed;
    back = refl;
    undos = refl;
    spells = tt;
    sized = refl;
  };
  told = λ v running begins. (ap (λ (es : List Entry). record v.history { entries = es }) (append-nil v.history.entries), refl);
  shared = All-nil (λ (c : Entry). is_shared c.ask.what ≡ true);
  order = refl;
  many = omega arith;
  idle = λ v running begins. (refl, refl);
  first = record { unmade = λ none. refl; unwritten = λ none. refl; accepted = λ change others are. absurd cc };
}
