use Rattle.std.proofs.Common.{◌≡◌, IsTrue}
use Rattle.std.proofs.lemmas.Result.{IfOk-weaker}
use Rattle.std.specs.Cow.{cow_slice_items}
use Rattle.command_types.specs.Cycles.{is_solving}
use Rattle.cycle_states.proofs.machine.Machine.awaited_problems.Goals as goal

pub returns : goal.returns
returns c =
    let s = c.args.self.now.state in
    IfOk-weaker c.problems.result (λ problems. cow_slice_items problems ≡ s.cycle.begun) (λ problems. IsTrue (is_solving s.cycle.phase) → cow_slice_items problems ≡ s.cycle.begun) (λ problems same on. same) c.problems.ensures
