-- What a standby says and hears.
use Rattle.std.specs.Prelude.{ℕ, IsTrue, List, [], ◌∷◌, ◌++◌, Result, Ok, Err}
use Rattle.outside.specs.declared.failed.Failed.{Failed}
use Rattle.command_types.specs.Machine.{changes}
use Rattle.house.specs.House.{HouseView}
use Rattle.standby.specs.Link.{Offer}
use Rattle.standby.specs.declared.peer.Said.{Said}
use Rattle.standby.specs.declared.peer.Said.TheVariants.{Hello, Next, Bye}
use Rattle.standby.specs.declared.peer.Heard.{Heard}
use Rattle.standby.specs.declared.peer.Heard.TheVariants as hears

-- a line, and the standby's house at the moment at which the line was said
pub record Sent : Type 0 where
  pub house : HouseView
  pub line : Said

-- the number of a NEXT
abbrev pub number_in : Said → List ℕ
number_in Hello = []
number_in (Next position) = position ∷ []
number_in Bye = []

-- the numbers of the NEXT lines among these
abbrev pub numbers_in : List Sent → List ℕ
numbers_in [] = []
numbers_in (sent ∷ others) = number_in sent.line ++ numbers_in others

-- the entry of a reply, at its position
abbrev pub offer_in : Heard → List Offer
offer_in (hears.Entry due position entry) = record { position = position; entry = entry } ∷ []
offer_in heard = []

-- and of what came of waiting for one
abbrev pub offers_in : Result Heard Failed → List Offer
offers_in (Ok heard) = offer_in heard
offers_in (Err failed) = []

-- an entry that is heard is a change
abbrev pub IsOfChange : Heard → Type 0
IsOfChange (hears.Entry due position entry) = IsTrue (changes entry.ask.what)
IsOfChange heard = Unit {0}
