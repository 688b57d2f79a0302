use Rattle.std.proofs.Common.{◌≡◌, ◌∙◌, ℕ, List, Option, Some, is_some, ap, sym}
use Rattle.units_core.specs.Day.{DayParts}
use Rattle.command_types.specs.declared.answer.Answer.TheVariants.{ProofRows}
use Rattle.command_types.specs.declared.cycle.Mode.{Mode}
use Rattle.command_types.specs.declared.figures.State.{State}
use Rattle.command_types.specs.declared.proof.ProofRow.{ProofRow}
use Rattle.command_types.specs.CycleSteps.{proof_answer, proof_on}
use Rattle.command_types.specs.Machine.{member_of}
use Rattle.command_types.specs.MemberProofs.{proof_rows}
use Rattle.cycle_states.specs.Machine.{state_with, MachineView}
use Rattle.cycle_states.proofs.CycleFacts.{limits_break, proposed_limits}
use Rattle.cycle_states.proofs.machine.Machine.proof.Goals as goal

pub problems-requires : goal.problems-requires
problems-requires c = proposed_limits c.args.self.now.state.cycle.phase c.requires.proposed

pub proof_rows-requires-clause-problems : goal.proof_rows-requires-clause-problems
proof_rows-requires-clause-problems c = c.as_slice.ensures.value ∙ c.in_ok-problems.ensures ∙ ap (λ (view : MachineView). view.state.cycle.begun) (sym c.self.view_is)

pub proof_rows-requires-clause-taken : goal.proof_rows-requires-clause-taken
proof_rows-requires-clause-taken c = c.self.invariant.2 (ap is_some (sym c.mode.ensures ∙ c.in-Some-mode.is))

pub proof_rows-requires-clause-live : goal.proof_rows-requires-clause-live
proof_rows-requires-clause-live c =
    let m = c.self.inside in
    c.self.invariant.0.unbroken (limits_break m.cycle.phase (proposed_limits m.cycle.phase (rw (← c.self.view_is) at c.requires.proposed)))

-- a proposal with its day and mode
proved : (s : State) (day : DayParts) (mode : Mode) (cycle version member place : ℕ) (rows listed : List ProofRow) → s.cycle.day ≡ Some day → s.cycle.mode ≡ Some mode → cycle ≡ s.cycle.number → version ≡ s.cycle.version → place ≡ member →
    listed ≡ rows → rows ≡ proof_rows s mode place → ProofRows (record { cycle = cycle; version = version; day = day; mode = mode; begun = 0 }) listed ≡ proof_answer s member
proved s day mode cycle version member place rows listed on as_begun number begun asks list told =
    (λ i. ProofRows (record { cycle = number i; version = begun i; day = day; mode = mode; begun = 0 }) ((list ∙ told ∙ ap (proof_rows s mode) asks) i))
    ∙ sym (ap (λ (d : Option DayParts). proof_on d s.cycle.mode s member) on ∙ ap (λ (m : Option Mode). proof_on (Some day) m s member) as_begun)

pub returns : goal.returns
returns c =
    let m = c.self.inside in
    let s = state_with m.roster m.book.rows m.tolerances.settings m.cycle in
    proved s c.in-Some.day c.in-Some-mode.mode c.number.result c.version.result (member_of s c.args.caller.now.name) c.place_of.result c.in_ok-rows.rows.items c.new-rows.result
    (sym c.day.ensures ∙ c.in-Some.is) (sym c.mode.ensures ∙ c.in-Some-mode.is) c.number.ensures c.version.ensures (c.place_of.ensures ∙ ap (λ (view : MachineView). member_of view.state c.args.caller.now.name) (sym c.self.view_is)) c.new-rows.ensures c.in_ok-rows.ensures
    ∙ ap (λ (view : MachineView). proof_answer view.state (member_of view.state c.args.caller.now.name)) c.self.view_is
