-- What the operator's CANCEL is answered, and how it leaves a history.
use Rattle.std.proofs.Common.{◌≡◌, ◌∙◌, ℕ, ◌||◌, not, Bool, true, false, List, [], ◌∷◌, ◌++◌, Some, is_some, if◌then◌else◌, refl, sym, ap, subst, arith, eq-eqb}
use Rattle.std.proofs.lemmas.Slice.Eq.{bytes_eq-Decides}
use Rattle.std.proofs.lemmas.List.Sums.{fold-append}
use Rattle.command_types.specs.declared.answer.Answer.TheVariants.{Cancelled}
use Rattle.command_types.specs.declared.ask.Entry.{Entry}
use Rattle.command_types.specs.declared.ask.What.TheVariants.{Cancel}
use Rattle.command_types.specs.declared.cycle.Phase.{Phase}
use Rattle.command_types.specs.declared.cycle.Phase.TheVariants.{None as NoPhase, Frozen, Solving, Proposed, Broken}
use Rattle.command_types.specs.declared.figures.State.{State}
use Rattle.command_types.specs.declared.refusal.Refusal.TheVariants.{NotGreeted, NotOperator, WrongCycle, WrongPhase}
use Rattle.command_types.specs.declared.roster.OperatorRow.{OperatorRow}
use Rattle.command_types.specs.Cycles.{is_open}
use Rattle.command_types.specs.CycleRefusals.{unless_cycle, unless_phase}
use Rattle.command_types.specs.History.{IsLegalFrom, is_recorded, replayed, replayed_from}
use Rattle.command_types.specs.Machine.{answer_to, first_of, refused_or, state_after}
use Rattle.command_types.specs.Roster.{is_operator, is_operator_row, member_place}
use Rattle.compress_server.specs.Cancelled.{CancelsEndCycles, cancel_ask, cancel_by, cancel_of}

or_true : (b : Bool) → (b || true) ≡ true
or_true true = refl
or_true false = refl

-- the operator is refused if the number is not the cycle's, and if the cycle is not open
told_to : (s : State) (name : List ℕ) (cycle : ℕ) → is_operator s.roster name ≡ true →
    answer_to s (record { by = Some name; what = Cancel cycle; moment = 0 }) ≡ refused_or (Cancelled cycle) (first_of (unless_cycle s cycle ∷ unless_phase is_open s ∷ []))
told_to s name cycle is =
    (λ i. refused_or (Cancelled cycle) (first_of ((not (is_some (member_place s.roster name) || is i), NotGreeted) ∷ (not (is i), NotOperator) ∷ unless_cycle s cycle ∷ unless_phase is_open s ∷ [])))
    ∙ (λ i. refused_or (Cancelled cycle) (first_of ((not (or_true (is_some (member_place s.roster name)) i), NotGreeted) ∷ (not true, NotOperator) ∷ unless_cycle s cycle ∷ unless_phase is_open s ∷ [])))

-- so the CANCEL of the last cycle is recorded exactly if that is open
recorded_by : (n m : ℕ) (b : Bool) (phase : Phase) → is_recorded (Cancel n) (refused_or (Cancelled n) (first_of ((not true, WrongCycle m) ∷ (not b, WrongPhase phase) ∷ []))) ≡ b
recorded_by n m true phase = refl
recorded_by n m false phase = refl

module _ (s : State) (row : OperatorRow) (there : s.roster.operator ≡ Some row) where
  abbrev number : ℕ
  number = s.cycle.number

  abbrev entry : Entry
  entry = record { seat = 0; ask = cancel_ask row.name s }

  operators : is_operator s.roster row.name ≡ true
  operators = ap (λ o. is_operator_row o row.name) there ∙ (bytes_eq-Decides row.name row.name).1 refl

  recorded_open : is_recorded (Cancel number) (answer_to s entry.ask) ≡ is_open s.cycle.phase
  recorded_open =
      ap (is_recorded (Cancel number)) (told_to s row.name number operators)
      ∙ (λ i. is_recorded (Cancel number) (refused_or (Cancelled number) (first_of ((not (eq-eqb number number refl i), WrongCycle number) ∷ unless_phase is_open s ∷ []))))
      ∙ recorded_by number number (is_open s.cycle.phase) s.cycle.phase

  kept : (b : Bool) → is_open s.cycle.phase ≡ b → cancel_of s ≡ (if b then entry ∷ [] else [])
  kept b is = ap (λ o. cancel_by o s) there ∙ ap (λ (t : Bool). if t then entry ∷ [] else []) (recorded_open ∙ is)

-- a cycle that is not open is none
phase_none : (p : Phase) → is_open p ≡ false → p ≡ NoPhase
phase_none NoPhase e = refl
phase_none Frozen e = absurd (cc)
phase_none Solving e = absurd (cc)
phase_none Proposed e = absurd (cc)
phase_none Broken e = absurd (cc)

-- what the CANCEL leaves is legal, and no cycle is open behind it
abbrev Ends : State → List Entry → Type 0
Ends s es = IsLegalFrom s es × ((replayed_from s es).cycle.phase ≡ NoPhase)

ends : (s : State) (row : OperatorRow) → s.roster.operator ≡ Some row → (b : Bool) → is_open s.cycle.phase ≡ b → Ends s (cancel_of s)
ends s row there true is = subst (Ends s) (sym (kept s row there true is)) (((recorded_open s row there ∙ is, λ k d below. absurd (omega (arith, below))), tt), refl)
ends s row there false is = subst (Ends s) (sym (kept s row there false is)) (tt, phase_none s.cycle.phase is)

-- a legal history goes on by changes that are legal behind it
pub legal_behind : (s : State) (es more : List Entry) → IsLegalFrom s es → IsLegalFrom (replayed_from s es) more → IsLegalFrom s (es ++ more)
legal_behind s [] more legal behind = behind
legal_behind s (e ∷ es) more (now, later) behind = (now, legal_behind (state_after s e.ask) es more later behind)

pub cancels_end_cycles : CancelsEndCycles
cancels_end_cycles h row legal there =
    let s = replayed h in
    let done = ends s row there (is_open s.cycle.phase) refl in (
      legal_behind h.base.state h.entries (cancel_of s) legal done.0,
      ap (λ (t : State). t.cycle.phase) (fold-append (λ (state : State) (entry : Entry). state_after state entry.ask) h.base.state h.entries (cancel_of s)) ∙ done.1,
    )
