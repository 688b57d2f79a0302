use Rattle.std.proofs.Common.{◌≢◌, ℕ, List, [], sym, subst, rules}
use Rattle.command_types.specs.Bases.{SpellsBase}
use Rattle.journal_core.specs.Walk.{base_of}
use Rattle.recovery.proofs.reading.read_base.Goals as goal

pub returns-in-Err-BadRecord-clause-fault : goal.returns-in-Err-BadRecord-clause-fault
returns-in-Err-BadRecord-clause-fault c =
    let fault = c.in-Err-BadRecord in
    let filled : base_of c.args.walked.now ≢ [] = search rules in
    let is = rw fault.field-0-is at fault.is in (
      c.in-Slots.selected,
      c.in-Slots.is,
      filled,
      λ s. c.decode_base.ensures.bad fault.field-0-0 is s.0 (subst (λ (bytes : List ℕ). SpellsBase bytes s.0) (sym c.base-bytes.ensures) s.1),
    )
