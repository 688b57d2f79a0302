-- What was said and heard, as contracts see it.
use Rattle.std.specs.Prelude.{Option, Some, None}
use Rattle.standby.specs.Link.{Offer}
use Rattle.standby.specs.Sent.{Sent}
use Rattle.standby.specs.Ending.{Came}
use Rattle.standby.specs.declared.log.Shown.{Shown}
use Rattle.standby.specs.declared.log.Offered.{Offered}
use Rattle.standby.specs.declared.log.Outcome.{Outcome}

-- a line, and the house then
abbrev pub sent_of : {D : Type 0} → Shown D → Sent
sent_of shown = record { house = shown.house.value; line = shown.line.value }

-- an entry at its position
abbrev pub offer_of : Offered → Offer
offer_of offered = record { position = offered.position.value; entry = offered.entry.value }

-- what a NEXT came to
abbrev pub came : Outcome → Came
came outcome = record { position = outcome.position.value; heard = outcome.heard.value }

abbrev pub came_of : Option Outcome → Option Came
came_of None = None
came_of (Some outcome) = Some (came outcome)
