-- The replies that told an execution, noted one after another.
use Rattle.std.proofs.Common.{◌≡◌, ◌∙◌, refl, sym, ap, ℕ, ◌+◌, List, [], ◌∷◌, ◌++◌, length, Option, Some, None, append_assoc, arith}
use Rattle.std.proofs.lemmas.List.{append-nil}
use Rattle.std.specs.Prelude.{option_map}
use Rattle.command_types.specs.declared.answer.Answer.{Answer}
use Rattle.command_types.specs.declared.ask.Entry.{Entry}
use Rattle.command_types.specs.declared.figures.State.{State}
use Rattle.command_types.specs.Machine.{answer_to, state_after}
use Rattle.command_types.specs.History.{replayed_from}
use Rattle.house.specs.Executions.{told_by, executions_told}
use Rattle.house.specs.declared.executions.Dated.{Dated}

-- one change more
pub executions_told-push : (s : State) (n : ℕ) (front : List Entry) (entry : Entry) →
    executions_told s n (front ++ entry ∷ []) ≡ executions_told s n front ++ told_by (n + length front + 1) (answer_to (replayed_from s front) entry.ask) entry.ask.moment
executions_told-push s n [] entry =
    append-nil (told_by (n + 1) (answer_to s entry.ask) entry.ask.moment) ∙ ap (λ k. told_by k (answer_to s entry.ask) entry.ask.moment) (omega arith)
executions_told-push s n (e ∷ front) entry =
    let first = told_by (n + 1) (answer_to s e.ask) e.ask.moment in
    let rest = executions_told (state_after s e.ask) (n + 1) front in
    let last = answer_to (replayed_from (state_after s e.ask) front) entry.ask in
    ap (λ (rs : List Dated). first ++ rs) (executions_told-push (state_after s e.ask) (n + 1) front entry)
    ∙ sym (append_assoc first rest (told_by (n + 1 + length front + 1) last entry.ask.moment))
    ∙ ap (λ k. (first ++ rest) ++ told_by k last entry.ask.moment) (omega arith)

-- behind none there is nothing new
pub none_noted : (s : State) (from : ℕ) (past : List Entry) (kept : Option (List Dated)) → past ≡ [] → kept ≡ option_map (λ replies. replies ++ executions_told s from past) kept
none_noted s from past None none = refl
none_noted s from past (Some replies) none = ap (λ (rs : List Dated). Some rs) (sym (append-nil replies)) ∙ ap (λ (es : List Entry). Some (replies ++ executions_told s from es)) (sym none)

module _ (s : State) (from : ℕ) (past more : List Entry) (entry : Entry) (answer : Answer) (n : ℕ) where
  both_noted : (before : Option (List Dated)) → executions_told s from more ≡ executions_told s from past ++ told_by n answer entry.ask.moment →
      option_map (λ replies. replies ++ told_by n answer entry.ask.moment) (option_map (λ replies. replies ++ executions_told s from past) before) ≡ option_map (λ replies. replies ++ executions_told s from more) before
  both_noted None is = refl
  both_noted (Some replies) is = ap (λ (rs : List Dated). Some rs) (append_assoc replies (executions_told s from past) (told_by n answer entry.ask.moment) ∙ ap (λ (rs : List Dated). replies ++ rs) (sym is))

  -- the reply to one more change was noted
  pub one_noted : (now : State) (before kept after : Option (List Dated)) → kept ≡ option_map (λ replies. replies ++ executions_told s from past) before →
      after ≡ option_map (λ replies. replies ++ told_by n answer entry.ask.moment) kept → more ≡ past ++ entry ∷ [] → now ≡ replayed_from s past → answer ≡ answer_to now entry.ask → n ≡ from + length past + 1 →
      after ≡ option_map (λ replies. replies ++ executions_told s from more) before
  one_noted now before kept after was noted grown here answers count =
      let told : answer_to (replayed_from s past) entry.ask ≡ answer = ap (λ (t : State). answer_to t entry.ask) (sym here) ∙ sym answers in
      let at : from + length past + 1 ≡ n = sym count in
      let is : executions_told s from more ≡ executions_told s from past ++ told_by n answer entry.ask.moment =
      ap (executions_told s from) grown ∙ executions_told-push s from past entry ∙ (λ i. executions_told s from past ++ told_by (at i) (told i) entry.ask.moment) in
      noted ∙ ap (option_map (λ replies. replies ++ told_by n answer entry.ask.moment)) was ∙ both_noted before is
