use Rattle.std.proofs.Common.{IfOk, refl, sym, subst}
use Rattle.std.specs.Cow.{cow_slice_items}
use Rattle.command_types.specs.declared.ask.What.{What}
use Rattle.cycle_states.specs.Begun.{AreCheckedBy}
use Rattle.cycle_states.proofs.EffectFacts.{unchecked}
use Rattle.cycle_states.proofs.machine.Machine.problems_to_check.Goals as goal

pub returns-in-Post-clause-problems : goal.returns-in-Post-clause-problems
returns-in-Post-clause-problems c =
    subst (λ (what : What). IfOk c.awaited_problems.result (λ problems. AreCheckedBy c.args.self.now.state what (cow_slice_items problems))) (sym c.in-Post.is) c.awaited_problems.ensures

pub returns-in_default : goal.returns-in_default
returns-in_default c = record { problems = unchecked c.args.self.now.state c.args.what.now c.new.result.items c.in_default.not-Post; vote = λ vote. refl }
