use Rattle.std.proofs.Common.{length, is_ok, sym, subst, ap, arith, All}
use Rattle.doors.specs.MemoryDoor.{IsFresh}
use Rattle.doors.proofs.ListFacts.{all_grown, length_grown}
use Rattle.doors.proofs.memory_door.MemoryDoor.add.Goals as goal

pub invariant_of-self-2 : goal.invariant_of-self-2
invariant_of-self-2 c =
    let grown = c.push_back.ensures.items in (
      omega (arith, c.in_ok-reserve.ensures.ok, ap length grown, length_grown (is_ok c.push_back.result) c.self.inside.coming.items c.args.connection, c.len.ensures),
      subst (All IsFresh) (sym grown) (all_grown IsFresh _ _ c.args.connection c.self.invariant.1 c.requires.fresh),
    )
