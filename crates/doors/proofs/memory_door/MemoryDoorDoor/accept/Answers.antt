use Rattle.std.proofs.Common.{◌≡◌, ◌∷◌, length, map, Some, refl, subst, ap, arith, All}
use Rattle.doors.specs.MemoryDoor.{IsFresh, input_bytes}
use Rattle.doors.proofs.ListFacts.{all_first, all_rest}
use Rattle.doors.proofs.memory_door.MemoryDoorDoor.accept.Goals as goal

pub invariant_of-self-2 : goal.invariant_of-self-2
invariant_of-self-2 c =
    let came : c.self.inside.coming.items ≡ c.in-Some.next ∷ c.pop_front.new.self.items = c.in-Some.ensures.items in (
      omega (arith, c.self.invariant.0, ap length came),
      all_rest IsFresh c.in-Some.next _ (subst (All IsFresh) came c.self.invariant.1),
    )

pub returns-clause-opens : goal.returns-clause-opens
returns-clause-opens c =
    let next = c.in-Some.next in
    let came : c.self.inside.coming.items ≡ next ∷ c.pop_front.new.self.items = c.in-Some.ensures.items in
    let fresh = all_first IsFresh next _ (subst (All IsFresh) came c.self.invariant.1) in
    rw (← c.self.view_is) (
      next.input.left,
      map input_bytes c.pop_front.new.self.items,
      ap (map input_bytes) came,
      refl,
      (λ i. Some (record { given = fresh.given i; left = next.input.left })),
      ap Some fresh.taken,
    )
