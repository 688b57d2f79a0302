-- What stands before the first change of a batch, where one command more is answered.
use Rattle.std.proofs.Common.{◌≡◌, inl, inr, ℕ, ◌+◌, ◌≤◌, true, false, List, [], ◌∷◌, ◌++◌, length, take, refl, sym, ◌∙◌, subst, ap, arith, length-append}
use Rattle.std.proofs.lemmas.List.{append-nil, take-append-le, take_all}
use Rattle.command_types.specs.declared.ask.Entry.{Entry}
use Rattle.command_types.specs.declared.answer.Reply.{Reply}
use Rattle.command_types.specs.declared.figures.State.{State}
use Rattle.command_types.specs.History.{History, end_of, longer}
use Rattle.house.specs.Batch.{BatchView, is_shared}
use Rattle.command_types.specs.InTurn.{AreToldInTurn, IsToldNext}
use Rattle.house.specs.Front.{AreFrom, before_more, IsFront, IsRunningAt}
use Rattle.house.specs.House.{HouseView, figures_of}
use Rattle.house.specs.Step.{IsStep}
use Rattle.house.proofs.CallingAllFacts.{as_many, told_all}
use Rattle.house.proofs.FrontFacts.{from_within, none_before, step_told}

module _ (s then next : State) (old new : BatchView) (before : ℕ) (commands : List Entry) (replies : List Reply) (front : IsFront s then old before commands replies)
    (command : Entry) (reply : Reply) (shared : is_shared command.ask.what ≡ true) where
  -- as many were answered
  replied : (v : HouseView) → IsRunningAt v s old.size → old.at ≡ end_of v.history → length replies ≡ length commands
  replied v running begins = as_many (figures_of v) false false v.history (longer v.history old.entries) commands replies (front.told v running begins)

  -- where there is no change yet, all that were answered stand before the first one
  module _ (v : HouseView) (running : IsRunningAt v s old.size) (begins : old.at ≡ end_of v.history) where
    abbrev Idle : ℕ → Type 0
    Idle n = AreToldInTurn (figures_of v) false false v.history (take n (commands ++ command ∷ [])) (take n (replies ++ reply ∷ [])) v.history

    idle_kept : before ≤ length commands → Idle before
    idle_kept within =
        subst (λ (cs : List Entry). AreToldInTurn (figures_of v) false false v.history cs (take before (replies ++ reply ∷ [])) v.history) (sym (take-append-le before commands (command ∷ []) within))
        (subst (λ (rs : List Reply). AreToldInTurn (figures_of v) false false v.history (take before commands) rs v.history)
        (sym (take-append-le before replies (reply ∷ []) (omega (arith, within, replied v running begins)))) (front.idle v running begins))

    idle_all : old.entries ≡ [] → AreToldInTurn (figures_of v) false false v.history commands replies v.history
    idle_all none =
        let same : longer v.history old.entries ≡ v.history = ap (longer v.history) none ∙ ap (λ (es : List Entry). record v.history { entries = es }) (append-nil v.history.entries) in
        subst (λ (n : History). AreToldInTurn (figures_of v) false false v.history commands replies n) same (front.told v running begins)

  within : before ≤ length commands
  within = from_within before old.entries commands front.order

  pub step_idle : (v : HouseView) → IsRunningAt v s old.size → old.at ≡ end_of v.history → IsStep then next old new command reply
      → AreToldInTurn (figures_of v) false false v.history (take (before_more before new.entries) (commands ++ command ∷ [])) (take (before_more before new.entries) (replies ++ reply ∷ [])) v.history
  step_idle v running begins (inl made) =
      let more : new.entries ≡ old.entries ++ command ∷ [] = ap (λ (b : BatchView). b.entries) made.more in
      let some : before_more before new.entries ≡ before = ap (before_more before) more ∙ none_before s then next old new before commands replies front command reply shared old.entries in
      subst (λ (n : ℕ). Idle v running begins n) (sym some) (idle_kept v running begins within)
  step_idle v running begins (inr (state, same, told)) = by old.entries refl
    where
      kept : before_more before new.entries ≡ before_more before old.entries
      kept = ap (λ (b : BatchView). before_more before b.entries) same

      by : (es : List Entry) → old.entries ≡ es → Idle v running begins (before_more before new.entries)
      by [] none =
          let all : before ≡ length commands = sym (subst (λ (xs : List Entry). AreFrom before xs commands) none front.order) in
          let n : before_more before new.entries ≡ length (commands ++ command ∷ []) = kept ∙ ap (before_more before) none ∙ (let l = length-append commands (command ∷ []) in omega (arith, all, l)) in
          let here = subst (λ (b : BatchView). IsToldNext (figures_of v) false false (longer v.history old.entries) command reply (longer v.history b.entries)) same (step_told s then next old new before commands replies front command reply shared v running begins (inr (state, same, told))) in
          let empty : longer v.history old.entries ≡ v.history = ap (longer v.history) none ∙ ap (λ (xs : List Entry). record v.history { entries = xs }) (append-nil v.history.entries) in
          let last : IsToldNext (figures_of v) false false v.history command reply v.history =
          subst (λ (k : History). IsToldNext (figures_of v) false false k command reply k) empty here in
          let whole : AreToldInTurn (figures_of v) false false v.history (commands ++ command ∷ []) (replies ++ reply ∷ []) v.history =
          told_all (figures_of v) false false false v.history v.history v.history commands (command ∷ []) replies (reply ∷ []) (idle_all v running begins none) (v.history, false, last, (refl, refl)) in
          subst (λ (k : ℕ). Idle v running begins k) (sym n)
          (subst (λ (cs : List Entry). AreToldInTurn (figures_of v) false false v.history cs (take (length (commands ++ command ∷ [])) (replies ++ reply ∷ [])) v.history) (sym (take_all (length (commands ++ command ∷ [])) (commands ++ command ∷ []) (omega arith)))
          (subst (λ (rs : List Reply). AreToldInTurn (figures_of v) false false v.history (commands ++ command ∷ []) rs v.history)
          (sym (take_all (length (commands ++ command ∷ [])) (replies ++ reply ∷ []) (omega (arith, length-append commands (command ∷ []), length-append replies (reply ∷ []), replied v running begins)))) whole))
      by (e ∷ es) are =
          let n : before_more before new.entries ≡ before = kept ∙ ap (before_more before) are in
          subst (λ (k : ℕ). Idle v running begins k) (sym n) (idle_kept v running begins within)
