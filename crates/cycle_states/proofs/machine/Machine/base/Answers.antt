use Rattle.std.proofs.Common.{◌≡◌, ◌∙◌, rules, map, false, ap}
use Rattle.command_types.specs.declared.roster.MemberRow.{MemberRow}
use Rattle.command_types.specs.declared.roster.ProductRow.{ProductRow}
use Rattle.command_types.specs.Cycles.{is_open}
use Rattle.cycle_states.specs.BaseOf.{base_of}
use Rattle.cycle_states.specs.Machine.{state_with, MachineView}
use Rattle.cycle_states.proofs.BaseFacts.{base_is}
use Rattle.cycle_states.proofs.machine.Machine.base.Goals as goal

pub returns : goal.returns
returns c =
    let m = c.self.inside in
    let s = state_with m.roster m.book.rows m.tolerances.settings m.cycle in
    let at_rest : is_open s.cycle.phase ≡ false = search rules in
    let members : c.new.result ≡ map (λ (row : MemberRow). row.name) m.roster.members = search rules in
    let products : c.new-2.result ≡ map (λ (row : ProductRow). row.name) m.roster.products = search rules in
    let tolerances : c.new-3.result ≡ m.tolerances.settings = search rules in
    let trades : c.new-4.result ≡ m.book.rows = search rules in
    base_is s c.args.position c.number.result c.version.result c.new.result c.new-2.result c.new-3.result c.new-4.result at_rest c.number.ensures c.version.ensures members products tolerances trades
    ∙ ap (λ (view : MachineView). base_of c.args.position view.state) c.self.view_is
