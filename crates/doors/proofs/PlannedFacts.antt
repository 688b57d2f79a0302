-- What is to come to the doors behind one that is handed out.
use Rattle.std.proofs.Common.{◌≡◌, ◌≢◌, ℕ, ◌+◌, ◌==◌, List, map, Some, arith, ap, ◌∙◌}
use Rattle.std.proofs.lemmas.Bool.Decides.{eqb_tells}
use Rattle.doors.specs.declared.planned_door.PlannedDoor.{PlannedDoor}
use Rattle.doors.specs.Visits.{Lends}
use Rattle.doors.specs.MemoryDoor.{MemoryVisits, empty_door, input_bytes, visits_by}
use Rattle.doors.specs.MemoryListener.{MemoryHall, door_at, with_door, doors_by}
use Rattle.doors.proofs.PlanFacts.{pass, unlike}

-- a door behind that one is as it was
one_further : (doors : ℕ → MemoryVisits) (number n : ℕ) → with_door doors number empty_door (n + (number + 1)) ≡ doors ((n + 1) + number)
one_further doors number n =
    let far : number ≢ n + (number + 1) = λ e. omega (arith, e) in
    pass (number == (n + (number + 1))) empty_door (doors (n + (number + 1))) (unlike number (n + (number + 1)) (eqb_tells number (n + (number + 1))) far)
    ∙ ap doors (omega arith)

-- the doors that are handed out next are those behind the one that was
pub planned_next : (before after : List PlannedDoor) (number next : ℕ) → next ≡ number + 1 → ((n : ℕ) → door_at after n ≡ with_door (door_at before) number empty_door n) →
    ◌≡◌ {A = ℕ → List (List ℕ)} (λ n. map input_bytes (door_at after (n + next)).coming) (λ n. map input_bytes (door_at before ((n + 1) + number)).coming)
planned_next before after number next is left = λ i n.
    (ap (λ k. map input_bytes (door_at after (n + k)).coming) is
    ∙ ap (λ (d : MemoryVisits). map input_bytes d.coming) (left (n + (number + 1)) ∙ one_further (door_at before) number n)) i

-- the door that is handed out has what was to come to it, and those behind it are the next ones
pub lends_next : (m : MemoryHall) (planned : List PlannedDoor) (next lent : ℕ) (back : List MemoryVisits) (door : MemoryVisits) → next ≡ m.handed + 1 → lent ≡ m.lent + 1 → back ≡ m.back → door ≡ door_at m.planned m.handed →
    ((n : ℕ) → door_at planned n ≡ with_door (door_at m.planned) m.handed empty_door n) →
    Lends (Some (doors_by m)) (Some (record { address = m.address; planned = λ n. map input_bytes (door_at planned (n + next)).coming; lent = lent; back = map visits_by back })) (Some (visits_by door))
lends_next m planned next lent back door further more same came left = (
  (λ i. Some (record { address = m.address; planned = planned_next m.planned planned m.handed next further left i; lent = more i; back = map visits_by (same i) })),
  ap (λ (d : MemoryVisits). map input_bytes d.coming) (came ∙ ap (door_at m.planned) (omega arith)),
)
