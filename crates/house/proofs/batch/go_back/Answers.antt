use Rattle.std.proofs.Common.{◌≡◌, [], ◌∙◌, sym, subst, take, ap}
use Rattle.std.proofs.lemmas.List.{append-nil}
use Rattle.command_types.specs.declared.figures.State.{State}
use Rattle.house.specs.Batch.{TakeBack}
use Rattle.house.proofs.BatchFacts.{newest_back}
use Rattle.house.proofs.batch.go_back.Goals as goal

pub undo-requires : goal.undo-requires
undo-requires c =
    let i = c.loop-undo.invariant.some in
    (newest_back c.loop-undo.machine.state i.0 c.loop-undo.undos.items c.pop.new.self.items c.in-Some.undo c.in-Some.ensures.items i.1).0
