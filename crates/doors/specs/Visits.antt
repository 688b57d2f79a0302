-- Connections: those that a door is to give, and what became of those that it gave.
use Rattle.std.specs.Prelude.{◌≡◌, ℕ, ◌+◌, ◌-◌, ◌≤◌, List, [], ◌∷◌, ◌++◌, Option, Some, None}
use Rattle.outside.specs.Flow.{Flow}

-- a connection that was given back: the bytes that its input gave and those that it had left, the bytes that its output took, and how many calls of each failed
pub record Visit : Type 0 where
  pub gave : List ℕ
  pub left : List ℕ
  pub took : List ℕ
  pub input_faults : ℕ
  pub output_faults : ℕ

-- a door: the bytes of each connection that is to come, how many connections it gave that are not back yet, and those that were given back; both lists in order
pub record Visits : Type 0 where
  pub coming : List (List ℕ)
  pub out : ℕ
  pub back : List Visit

-- Each fact below says nothing of a door that tells nothing, but that it goes on so.

-- no connection is to come
abbrev pub IsOver : Option Visits → Type 0
IsOver None = Unit {0}
IsOver (Some v) = v.coming ≡ []

-- a connection that the door gave is not back yet
abbrev pub IsOut : Option Visits → Type 0
IsOut None = Unit {0}
IsOut (Some v) = 1 ≤ v.out

-- the door is new: it gave no connection yet
abbrev pub IsNew : Option Visits → Type 0
IsNew None = Unit {0}
IsNew (Some v) = (v.out ≡ 0) × (v.back ≡ [])

-- The next connection is given, with streams that tell this. It gave and took nothing yet.
abbrev pub Opens : Option Visits → Option Visits → Option Flow → Option (List ℕ) → Type 0
Opens None after flow taken = after ≡ None
Opens (Some v) after flow taken =
    (input : List ℕ) × (rest : List (List ℕ)) × (v.coming ≡ input ∷ rest) × (after ≡ Some (record { coming = rest; out = v.out + 1; back = v.back }))
    × (flow ≡ Some (record { given = []; left = input })) × (taken ≡ Some [])

-- A connection is given back, with streams that tell this and whose calls failed so often.
abbrev pub Returns : Option Visits → Option Visits → Option Flow → Option (List ℕ) → ℕ → ℕ → Type 0
Returns None after flow taken input_faults output_faults = after ≡ None
Returns (Some v) after (Some flow) (Some taken) input_faults output_faults =
    after ≡ Some (record {
      coming = v.coming;
      out = v.out - 1;
      back = v.back ++ record { gave = flow.given; left = flow.left; took = taken; input_faults = input_faults; output_faults = output_faults } ∷ [];
    })
Returns (Some v) after flow taken input_faults output_faults = Unit {0}

-- a listener: the address at which it listens, the bytes of each connection that is to come to the next doors that it hands out, the first being 0, how many of its doors are not back yet, and what became of the connections of those that were taken back, in order
pub record Doors : Type 0 where
  pub address : Option (List ℕ)
  pub planned : ℕ → List (List ℕ)
  pub lent : ℕ
  pub back : List Visits

-- a door that the listener handed out is not back yet
abbrev pub IsLent : Option Doors → Type 0
IsLent None = Unit {0}
IsLent (Some d) = 1 ≤ d.lent

-- The listener listens at this address from now on.
abbrev pub Binds : List ℕ → Option Doors → Option Doors → Type 0
Binds address None after = after ≡ None
Binds address (Some d) after = after ≡ Some (record d { address = Some address })

-- these connections are to come to a door
abbrev pub IsPlanned : List (List ℕ) → Option Visits → Type 0
IsPlanned inputs None = Unit {0}
IsPlanned inputs (Some v) = v.coming ≡ inputs

-- The next door is handed out, to which the connections come that were planned for it.
abbrev pub Lends : Option Doors → Option Doors → Option Visits → Type 0
Lends None after door = after ≡ None
Lends (Some d) after door = (after ≡ Some (record d { planned = λ n. d.planned (n + 1); lent = d.lent + 1 })) × IsPlanned (d.planned 0) door

-- A door that tells this is taken back. Of one that tells nothing, what became of its connections stands there all the same.
abbrev pub TakesBack : Option Doors → Option Doors → Option Visits → Type 0
TakesBack None after door = after ≡ None
TakesBack (Some d) after (Some visits) = after ≡ Some (record d { lent = d.lent - 1; back = d.back ++ visits ∷ [] })
TakesBack (Some d) after None = (visits : Visits) × (after ≡ Some (record d { lent = d.lent - 1; back = d.back ++ visits ∷ [] }))
