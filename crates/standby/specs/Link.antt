-- A primary, a standby that asks it for one entry after another, and a link that loses, repeats and reorders what is sent.
use Rattle.std.specs.Prelude.{◌≡◌, ◌⊎◌, ℕ, ◌+◌, ◌==◌, ◌<◌, ◌≤◌, List, [], ◌∷◌, ◌++◌, length, All, if◌then◌else◌}
use Rattle.std.specs.List.{Contains}
use Rattle.command_types.specs.declared.ask.Entry.{Entry}
use Rattle.standby.specs.Lists.{StandsForList, BeginsWith}

-- what a NEXT is answered with where there is an entry: the entry and its position, which is counted from 1
pub record Offer : Type 0 where
  pub position : ℕ
  pub entry : Entry

-- these entries have it at its position
pub record Fits (entries : List Entry) (offer : Offer) : Type 0 where
  pub before : List Entry
  pub behind : List Entry
  pub split : entries ≡ before ++ offer.entry ∷ behind
  pub place : offer.position ≡ length before + 1

-- all entries of the primary, the replies that it ever sent, all entries that the standby's journal stands for, and the numbers
-- of the NEXT lines that the standby ever sent
pub record World : Type 0 where
  pub primary : List Entry
  pub sent : List Offer
  pub standby : List Entry
  pub asked : List ℕ

-- What happens. Nothing takes a reply back from those that were sent: it may arrive never, late, or many times.
pub data Event : Type 0 where
  -- the primary's history grows
  Grows : Entry → Event
  -- the primary replies
  Replies : Offer → Event
  -- the standby sends a NEXT, of all its entries
  Asks : Event
  -- it asks for one of its entries again, by a NEXT of fewer
  AsksAgain : ℕ → Event
  -- a reply arrives
  Arrives : Offer → Event
  -- the standby stops, between two appends, and its journal is this image
  Stops : List ℕ → Event
  -- the standby stops while it appends the entry of a reply that arrived, and its journal is this image
  StopsIn : Offer → List ℕ → Event

-- the entries with that of a reply, where it is the next
abbrev pub with_offer : List Entry → Offer → List Entry
with_offer entries offer = if offer.position == length entries + 1 then entries ++ offer.entry ∷ [] else entries

-- the standby's journal, of which this is an image, stands for the entries from before or for these and the one
pub record IsLeft (entries : List Entry) (entry : Entry) (image : List ℕ) (left : List Entry) : Type 0 where
  pub either : (left ≡ entries) ⊎ (left ≡ entries ++ entry ∷ [])
  pub stands : StandsForList image left

-- the event leads from the old world to the new one
abbrev pub Leads : Event → World → World → Type 0
Leads (Grows entry) old new = new ≡ record old { primary = old.primary ++ entry ∷ [] }
Leads (Replies offer) old new = Fits old.primary offer × (new ≡ record old { sent = offer ∷ old.sent })
Leads Asks old new = new ≡ record old { asked = old.asked ++ length old.standby ∷ [] }
Leads (AsksAgain number) old new = (number < length old.standby) × (new ≡ record old { asked = old.asked ++ number ∷ [] })
Leads (Arrives offer) old new = Contains old.sent offer × (new ≡ record old { standby = with_offer old.standby offer })
Leads (Stops image) old new = StandsForList image old.standby × (new ≡ old)
Leads (StopsIn offer image) old new =
    Contains old.sent offer × (offer.position ≡ length old.standby + 1)
    × ((left : List Entry) × IsLeft old.standby offer.entry image left × (new ≡ record old { standby = left }))

-- and these events, one after another
abbrev pub Lead : List Event → World → World → Type 0
Lead [] old new = new ≡ old
Lead (event ∷ events) old new = (mid : World) × Leads event old mid × Lead events mid new

-- a primary with these entries, and a standby that has none and sent nothing
abbrev pub opening : List Entry → World
opening entries = record { primary = entries; sent = []; standby = []; asked = [] }

-- the numbers are at most this one
abbrev pub AreAtMost : ℕ → List ℕ → Type 0
AreAtMost most numbers = All (λ n. n ≤ most) numbers

-- these replies were all sent
abbrev pub AreAmong : List Offer → List Offer → Type 0
AreAmong [] sent = Unit {0}
AreAmong (offer ∷ offers) sent = Contains sent offer × AreAmong offers sent

-- the world, where the standby has these entries and has said these numbers more
abbrev pub moved : World → List Entry → List ℕ → World
moved w entries numbers = record w { standby = entries; asked = w.asked ++ numbers }

-- The replies that were sent fit the primary, the primary's entries begin with the standby's, and the standby has at least as many
-- as each number that it said.
pub record IsSound (w : World) : Type 0 where
  pub fits : All (Fits w.primary) w.sent
  pub front : BeginsWith w.primary w.standby
  pub asked : AreAtMost (length w.standby) w.asked
