use Rattle.std.proofs.Common.{◌∙◌, ◌%◌}
use Rattle.trade_file.proofs.FoundFacts.{known, slot_below}
use Rattle.trade_file.proofs.found_names.FoundNames.place.Goals as goal

pub returns-then-self-slot : goal.returns-then-self-slot
returns-then-self-slot c = λ read name knows short.
    known read c.args.self.now name c.args.key c.args.size (c.args.key % 1024) (slot_below c.args.key) knows short (c.if-self-slot.true ∙ c.stamp_of.ensures)
