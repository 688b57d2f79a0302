use Rattle.std.proofs.Common.{◌≡◌, ℕ, None, Some, sym, subst}
use Rattle.command_types.specs.declared.ask.What.{What}
use Rattle.command_types.specs.Machine.{first_of, refusals}
use Rattle.cycle_states.specs.Ballot.{MayVote}
use Rattle.cycle_states.proofs.BallotFacts.{accept_waits}
use Rattle.cycle_states.proofs.EffectFacts.{no_solutions, undecided}
use Rattle.cycle_states.proofs.machine.Machine.made_for.Goals as goal

pub same_ballot-ballot-requires : goal.same_ballot-ballot-requires
same_ballot-ballot-requires c = undecided c.args.what.now c.in_default.not-Post c.in_default.not-Accept

pub returns-in_ok-answer-in_default-clause-made : goal.returns-in_ok-answer-in_default-clause-made
returns-in_ok-answer-in_default-clause-made c = record {
  told = c.in_ok-answer-in_default.ensures.told;
  does = c.effect-effect.ensures.does;
  may = c.effect-effect.ensures.may;
  ballot = c.same_ballot-ballot.ensures;
  solutions = no_solutions c.args.what.now c.in_default.not-Post;
}

pub vote-requires-clause-waits : goal.vote-requires-clause-waits
vote-requires-clause-waits c =
    let s = c.args.self.now.state in
    let name = c.args.caller.now.name in
    let Stands : What → Type 0 = λ what. first_of (refusals s (Some name) what) ≡ None in
    let none = subst Stands c.in-Accept.is c.requires.accepted in
    subst (λ (member : ℕ). MayVote s member) (sym c.place_of.ensures) (accept_waits s name c.in-Accept.cycle c.in-Accept.version none)

pub effect-effect-requires : goal.effect-effect-requires
effect-effect-requires c = record { plain = undecided c.args.what.now c.in_default.not-Post c.in_default.not-Accept; change = c.requires.change; caller = c.requires.caller; accepted = c.requires.accepted }
