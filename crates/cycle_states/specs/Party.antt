-- Who asks, and what the roster says of the name.
use Rattle.std.specs.Prelude.{◌≡◌, ℕ, ◌==◌, Bool, true, false, List, Option, Some, None}
use Rattle.command_types.specs.Roster.{Rows, member_place, is_operator, is_member_at, is_party}
use Rattle.cycle_states.specs.declared.machine.party.Caller.{Caller}
use Rattle.cycle_states.specs.declared.machine.party.Party.{Party}
use Rattle.cycle_states.specs.declared.machine.party.Party.TheVariants.{Operator, Member}

-- the party is the operator
abbrev pub is_the_operator : Party → Bool
is_the_operator Operator = true
is_the_operator (Member member) = false

-- its place among the members; the operator has none
abbrev pub place_of : Party → Option ℕ
place_of Operator = None
place_of (Member member) = Some member

-- it is the member at this place
abbrev pub is_at : Party → ℕ → Bool
is_at Operator place = false
is_at (Member member) place = place == member

-- the party is what the roster says of the caller's name
pub record IsCaller (rows : Rows) (caller : Caller) : Type 0 where
  pub operator : is_operator rows caller.name ≡ is_the_operator caller.party
  pub member : member_place rows caller.name ≡ place_of caller.party
  pub at : (place : ℕ) → is_member_at rows place caller.name ≡ is_at caller.party place

-- this is who asks by this name; nobody, exactly where no party of the roster has it
abbrev pub IsCallerOf : Rows → Option (List ℕ) → Option Caller → Type 0
IsCallerOf rows by None = is_party rows by ≡ false
IsCallerOf rows by (Some caller) = (by ≡ Some caller.name) × IsCaller rows caller
