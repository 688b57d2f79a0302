use Rattle.std.proofs.Common.{◌∙◌, ap, sym, subst}
use Rattle.command_types.specs.declared.ask.What.{What}
use Rattle.command_types.specs.Machine.{first_of, command_refusals}
use Rattle.cycle_states.specs.Begun.{AreCheckedBy}
use Rattle.cycle_states.proofs.machine.Machine.check_command.Goals as goal

pub returns-in-Trade : goal.returns-in-Trade
returns-in-Trade c = c.check_trade.ensures ∙ ap (λ (w : What). first_of (command_refusals c.args.self.now.state c.args.caller.now.name w)) (sym c.in-Trade.is)

pub check_post-requires-clause-problems : goal.check_post-requires-clause-problems
check_post-requires-clause-problems c = subst (λ (w : What). AreCheckedBy c.args.self.now.state w c.args.problems.now) c.in-Post.is c.requires.problems
