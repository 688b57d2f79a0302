use Rattle.std.proofs.Common.{◌++◌, ap, sym, ◌∙◌}
use Rattle.std.proofs.lemmas.List.{append-nil}
use Rattle.std.specs.Option.{option_to_list}
use Rattle.command_types.specs.declared.proof.ProofRow.{ProofRow}
use Rattle.std.specs.Prelude.{Option}
use Rattle.cycle_states.proofs.machine.near_members.add_row.Goals as goal

pub returns-in-None : goal.returns-in-None
returns-in-None c = sym (append-nil c.args.rows.now.items) ∙ ap (λ (o : Option ProofRow). c.args.rows.now.items ++ option_to_list o) (sym c.in-None.is)
