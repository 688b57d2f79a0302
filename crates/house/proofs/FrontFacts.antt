-- One command more of those that are answered in memory, part by part.
use Rattle.std.proofs.Common.{◌≡◌, ◌⊎◌, inl, inr, ⊎_elim, ℕ, zero, suc, ◌+◌, ◌≤◌, Bool, true, false, List, [], ◌∷◌, ◌++◌, length, refl, sym, ◌∙◌, subst, ap, arith, length-append}
use Rattle.command_types.specs.declared.ask.Entry.{Entry}
use Rattle.command_types.specs.declared.answer.Reply.{Reply}
use Rattle.command_types.specs.declared.figures.State.{State}
use Rattle.command_types.specs.History.{History, end_of, longer}
use Rattle.command_types.specs.Sizes.{frame_size, journal_limit}
use Rattle.cycle_states.specs.Replayed.{IsReplayed}
use Rattle.journal_core.specs.Frame.{frames_length}
use Rattle.house.specs.Batch.{BatchView, FitsJournal, end_of_batch, size_of_batch, is_shared, IsMade}
use Rattle.command_types.specs.InTurn.{IsToldNext}
use Rattle.house.specs.CallingAll.{AreInOrder}
use Rattle.house.specs.Front.{AreFrom, before_more, IsFirstAccepted, IsFront, IsRunningAt}
use Rattle.house.specs.House.{HouseView, bytes_of, figures_of}
use Rattle.house.specs.Step.{IsAcceptedChange, IsStep, IsToldHere}
use Rattle.house.proofs.BatchFacts.{frames_more, made_more, made_told}
use Rattle.house.proofs.StepFacts.{view_behind, bytes_behind, told_machine, told_no_memory, told_full}

-- ---- in their order

order_longer : (changes commands : List Entry) (command : Entry) → AreInOrder changes commands → AreInOrder changes (commands ++ command ∷ [])
order_longer [] commands command is = tt
order_longer (e ∷ changes) [] command is = absurd is
order_longer (e ∷ changes) (c ∷ commands) command is =
    ⊎_elim (λ here. inl (here.0, order_longer changes commands command here.1)) (λ later. inr (order_longer (e ∷ changes) commands command later)) is

order_more : (changes commands : List Entry) (command : Entry) → AreInOrder changes commands → AreInOrder (changes ++ command ∷ []) (commands ++ command ∷ [])
order_more [] [] command is = inl (refl, tt)
order_more [] (c ∷ commands) command is = inr (order_more [] commands command tt)
order_more (e ∷ changes) [] command is = absurd is
order_more (e ∷ changes) (c ∷ commands) command is =
    ⊎_elim (λ here. inl (here.0, order_more changes commands command here.1)) (λ later. inr (order_more (e ∷ changes) commands command later)) is

-- a change that comes first, or behind others
from_more : (before : ℕ) (changes commands : List Entry) (command : Entry) → AreFrom before changes commands → AreFrom before (changes ++ command ∷ []) (commands ++ command ∷ [])
from_more zero [] [] command is = (refl, tt)
from_more (suc before) [] [] command is = absurd cc
from_more zero [] (c ∷ commands) command is = absurd cc
from_more (suc before) [] (c ∷ commands) command is = from_more before [] commands command (omega (arith, is))
from_more before (e ∷ changes) [] command is = absurd is
from_more zero (e ∷ changes) (c ∷ commands) command is = (is.0, order_more changes commands command is.1)
from_more (suc before) (e ∷ changes) (c ∷ commands) command is = from_more before (e ∷ changes) commands command is

-- and a command that changes nothing
from_longer : (before : ℕ) (change : Entry) (changes commands : List Entry) (command : Entry) → AreFrom before (change ∷ changes) commands → AreFrom before (change ∷ changes) (commands ++ command ∷ [])
from_longer before change changes [] command is = absurd is
from_longer zero change changes (c ∷ commands) command is = (is.0, order_longer changes commands command is.1)
from_longer (suc before) change changes (c ∷ commands) command is = from_longer before change changes commands command is

from_not : (before : ℕ) (changes commands : List Entry) (command : Entry) → AreFrom before changes commands → AreFrom (before_more before changes) changes (commands ++ command ∷ [])
from_not before [] commands command is = omega (arith, is, length-append commands (command ∷ []))
from_not before (e ∷ changes) commands command is = from_longer before e changes commands command is

pub from_within : (before : ℕ) (changes commands : List Entry) → AreFrom before changes commands → before ≤ length commands
from_within before [] commands is = omega (arith, is)
from_within before (e ∷ changes) [] is = absurd is
from_within zero (e ∷ changes) (c ∷ commands) is = omega arith
from_within (suc before) (e ∷ changes) (c ∷ commands) is = let n = from_within before (e ∷ changes) commands is in omega (arith, n)

-- ---- one more

module _ (s then next : State) (old new : BatchView) (before : ℕ) (commands : List Entry) (replies : List Reply) (front : IsFront s then old before commands replies)
    (command : Entry) (reply : Reply) (shared : is_shared command.ask.what ≡ true) where
  -- a command that changes nothing
  told_here : (v : HouseView) → IsRunningAt v s old.size → old.at ≡ end_of v.history → IsToldHere then (size_of_batch old) (end_of_batch old) command reply
      → IsToldNext (figures_of v) false false (longer v.history old.entries) command reply (longer v.history old.entries)
  told_here v running begins told =
      let w : HouseView = view_behind v old.entries in
      let made : IsMade s then v.history old = front.made v.history running.replayed in
      let place : end_of_batch old ≡ end_of w.history = omega (arith, begins, length-append v.history.entries old.entries) in
      let bytes : size_of_batch old ≡ bytes_of w = omega (arith, bytes_behind v old.entries running.opened, running.bytes, made.sized) in
      ⊎_elim (λ machine. told_machine w then made.replayed command shared (end_of_batch old) place false false reply (λ stopped. stopped) machine.0 machine.1)
      (λ other. ⊎_elim
      (λ full. subst (λ (t : Bool). IsToldNext (figures_of w) t false w.history command reply w.history) running.runs
      (told_full w then made.replayed command shared (end_of_batch old) place false (size_of_batch old) reply (λ stopped. sym running.runs ∙ stopped) bytes full.0 full.1 full.2))
      (λ memory. told_no_memory w then made.replayed command shared (end_of_batch old) place false false reply (λ stopped. stopped) memory)
      other)
      told

  pub step_told : (v : HouseView) → IsRunningAt v s old.size → old.at ≡ end_of v.history → IsStep then next old new command reply
      → IsToldNext (figures_of v) false false (longer v.history old.entries) command reply (longer v.history new.entries)
  step_told v running begins (inl made) =
      made_told s then next v.history old new command reply (front.made v.history running.replayed) made (figures_of v) (omega (arith, begins, length-append v.history.entries old.entries))
  step_told v running begins (inr (state, same, told)) =
      subst (λ (b : BatchView). IsToldNext (figures_of v) false false (longer v.history old.entries) command reply (longer v.history b.entries)) (sym same) (told_here v running begins told)

  pub step_made : (h : History) → IsReplayed s h → IsStep then next old new command reply → IsMade s next h new
  step_made h replayed (inl made) = made_more s then next h old new command reply (front.made h replayed) made
  step_made h replayed (inr (state, same, told)) = subst (λ (b : BatchView). IsMade s next h b) (sym same) (subst (λ (t : State). IsMade s t h old) (sym state) (front.made h replayed))

  pub none_before : (es : List Entry) → before_more before (es ++ command ∷ []) ≡ before
  none_before [] = refl
  none_before (e ∷ es) = refl

  pub step_order : IsStep then next old new command reply → AreFrom (before_more before new.entries) new.entries (commands ++ command ∷ [])
  step_order (inl made) =
      let more : new.entries ≡ old.entries ++ command ∷ [] = ap (λ (b : BatchView). b.entries) made.more in
      let some : before_more before (old.entries ++ command ∷ []) ≡ before = none_before old.entries in
      subst (λ (es : List Entry). AreFrom (before_more before es) es (commands ++ command ∷ [])) (sym more)
      (subst (λ (n : ℕ). AreFrom n (old.entries ++ command ∷ []) (commands ++ command ∷ [])) (sym some) (from_more before old.entries commands command front.order))
  step_order (inr (state, same, told)) =
      subst (λ (b : BatchView). AreFrom (before_more before b.entries) b.entries (commands ++ command ∷ [])) (sym same) (from_not before old.entries commands command front.order)

  pub step_at : IsStep then next old new command reply → (new.at ≡ old.at) × (new.size ≡ old.size)
  step_at (inl made) = (ap (λ (b : BatchView). b.at) made.more, ap (λ (b : BatchView). b.size) made.more)
  step_at (inr (state, same, told)) = (ap (λ (b : BatchView). b.at) same, ap (λ (b : BatchView). b.size) same)

  pub step_many : IsStep then next old new command reply → length new.entries ≤ length (commands ++ command ∷ [])
  step_many (inl made) =
      omega (arith, ap (λ (b : BatchView). length b.entries) made.more, length-append old.entries (command ∷ []), length-append commands (command ∷ []), front.many)
  step_many (inr (state, same, told)) = omega (arith, ap (λ (b : BatchView). length b.entries) same, length-append commands (command ∷ []), front.many)

  -- a record that is the first has its bytes alone
  one_record : (records : List (List ℕ)) (bytes : List ℕ) → records ≡ [] → frames_length (records ++ bytes ∷ []) ≡ 5 + length bytes
  one_record records bytes none = frames_more records bytes ∙ (let e : frames_length records ≡ 0 = ap frames_length none in omega (arith, e))

  pub step_first : FitsJournal new → IsStep then next old new command reply → IsFirstAccepted s next new
  step_first fits (inl made) = by old.entries refl
    where
      more : new.entries ≡ old.entries ++ command ∷ []
      more = ap (λ (b : BatchView). b.entries) made.more

      by : (es : List Entry) → old.entries ≡ es → IsFirstAccepted s next new
      by [] none =
          let here : then ≡ s = front.first.unmade none in
          let some : length new.records ≡ length old.records + 1 = ap (λ (b : BatchView). length b.records) made.more ∙ length-append old.records (made.bytes ∷ []) in
          let within : size_of_batch new ≤ journal_limit = fits (omega (arith, some)) in
          let long : frames_length new.records ≡ 5 + length made.bytes =
          ap (λ (b : BatchView). frames_length b.records) made.more ∙ one_record old.records made.bytes (front.first.unwritten none) in
          record {
            unmade = λ never. absurd (let e : length new.entries ≡ length old.entries + 1 = ap length more ∙ length-append old.entries (command ∷ []) in omega (arith, e, ap length never));
            unwritten = λ never. absurd (let e : length new.entries ≡ length old.entries + 1 = ap length more ∙ length-append old.entries (command ∷ []) in omega (arith, e, ap length never));
            accepted = λ change others are.
                let e : change ∷ others ≡ command ∷ [] = sym are ∙ more ∙ ap (λ (xs : List Entry). xs ++ command ∷ []) none in
                let same : command ≡ change = cc in
                subst (λ (c : Entry). IsAcceptedChange s c × (new.size + frame_size c.ask ≤ journal_limit)) same
                (subst (λ (t : State). IsAcceptedChange t command) here made.accepted, omega (arith, within, long, made.sized));
          }
      by (e ∷ es) some =
          let shape : new.entries ≡ e ∷ (es ++ command ∷ []) = more ∙ ap (λ (xs : List Entry). xs ++ command ∷ []) some in
          record {
            unmade = λ never. absurd (let k : e ∷ (es ++ command ∷ []) ≡ [] = sym shape ∙ never in cc);
            unwritten = λ never. absurd (let k : e ∷ (es ++ command ∷ []) ≡ [] = sym shape ∙ never in cc);
            accepted = λ change others are.
                let k : change ∷ others ≡ e ∷ (es ++ command ∷ []) = sym are ∙ shape in
                let same : e ≡ change = cc in
                subst (λ (n : ℕ). IsAcceptedChange s change × (n + frame_size change.ask ≤ journal_limit)) (sym (step_at (inl made)).1)
                (subst (λ (c : Entry). IsAcceptedChange s c × (old.size + frame_size c.ask ≤ journal_limit)) same (front.first.accepted e es some));
          }
  step_first fits (inr (state, same, told)) =
      subst (λ (b : BatchView). IsFirstAccepted s next b) (sym same) (subst (λ (t : State). IsFirstAccepted s t old) (sym state) front.first)
