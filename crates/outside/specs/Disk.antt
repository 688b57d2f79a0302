-- What a disk holds, and what a crash may leave of it.
use Rattle.std.specs.Prelude.{◌≡◌, ◌⊎◌, ◌≤◌, ℕ, ◌+◌, ◌-◌, min, max, List, [], ◌∷◌, ◌++◌, length, take, drop, Option, Some, None}

-- a change of a disk's bytes: a write of so many bytes at a place, or a cut to a length
pub data Change : Type 0 where
  Write : (place count : ℕ) → Change
  Cut : (size : ℕ) → Change

-- After a write that a crash or a fault breaks off: any bytes in its range and past the old end, the same ones
-- elsewhere, and a length between the old one and the longest reached.
pub record IsTorn (place count : ℕ) (old new : List ℕ) : Type 0 where
  pub before : take place new ≡ take place old
  pub behind : drop (place + count) new ≡ drop (place + count) old
  pub no_shorter : length old ≤ length new
  pub no_longer : length new ≤ max (length old) (place + count)

-- After a cut that a crash or a fault breaks off: the bytes up to some length from that of the cut on.
pub record IsShortened (size : ℕ) (old new : List ℕ) : Type 0 where
  pub front : new ≡ take (length new) old
  pub no_shorter : min size (length old) ≤ length new

-- new is what a crash or a fault in this change may make of old
abbrev pub Alters : Change → List ℕ → List ℕ → Type 0
Alters (Change.Write place count) old new = IsTorn place count old new
Alters (Change.Cut size) old new = IsShortened size old new

-- the image is what these changes, the newest first and each of them broken off or not, may leave of the bytes
abbrev pub LeftOf : List ℕ → List Change → List ℕ → Type 0
LeftOf bytes [] image = image ≡ bytes
LeftOf bytes (change ∷ earlier) image = (before : List ℕ) × LeftOf bytes earlier before × Alters change before image

-- what is on the disk at one moment: the bytes that the last sync which succeeded left, and the changes since, the
-- newest first
pub record Moment : Type 0 where
  pub synced : List ℕ
  pub changes : List Change

-- a crash at this moment may leave this image
abbrev pub may_leave : Moment → List ℕ → Type 0
may_leave m image = LeftOf m.synced m.changes image

-- what a disk tells: the bytes that a read gives, this moment, and the earlier ones, the newest first
pub record History : Type 0 where
  pub content : List ℕ
  pub now : Moment
  pub earlier : List Moment

-- the number of this moment
abbrev pub moment : History → ℕ
moment h = length h.earlier

-- a crash at one of these moments, of those from a number on, might have left this image
abbrev pub LeftAt : List Moment → ℕ → List ℕ → Type 0
LeftAt [] since image = ⊥
LeftAt (m ∷ earlier) since image = ((since ≤ length earlier) × may_leave m image) ⊎ LeftAt earlier since image

-- a crash at some moment from that number on might have left this image
abbrev pub left_since : History → ℕ → List ℕ → Type 0
left_since h since image = LeftAt (h.now ∷ h.earlier) since image

-- with this content, and all of it on the disk
abbrev pub settled_moment : List ℕ → Moment
settled_moment bytes = record { synced = bytes; changes = [] }

-- a disk that holds these bytes, and had no moment before
abbrev pub settled_history : List ℕ → History
settled_history bytes = record { content = bytes; now = settled_moment bytes; earlier = [] }

-- after a change that leaves this content for reads
abbrev pub changed : Change → List ℕ → History → History
changed change content h =
    record { content = content; now = record { synced = h.now.synced; changes = change ∷ h.now.changes }; earlier = h.now ∷ h.earlier }

-- the bytes with these at a place
abbrev pub overwritten : ℕ → List ℕ → List ℕ → List ℕ
overwritten place bytes old = take place old ++ bytes ++ drop (place + length bytes) old

-- after a write, a cut and a sync that succeeded
abbrev pub after_write : ℕ → List ℕ → History → History
after_write place bytes h = changed (Change.Write place (length bytes)) (overwritten place bytes h.content) h

abbrev pub after_cut : ℕ → History → History
after_cut size h = changed (Change.Cut size) (take size h.content) h

abbrev pub after_sync : History → History
after_sync h = record { content = h.content; now = settled_moment h.content; earlier = h.now ∷ h.earlier }

-- Each fact below says nothing of a disk that tells nothing, but that it goes on so.

-- the content has this length
abbrev pub HasLength : Option History → ℕ → Type 0
HasLength None n = Unit {0}
HasLength (Some h) n = length h.content ≡ n

-- the place is within the content, or at its end
abbrev pub IsPlace : Option History → ℕ → Type 0
IsPlace None place = Unit {0}
IsPlace (Some h) place = place ≤ length h.content

-- the only image is the content
abbrev pub IsSettled : Option History → Type 0
IsSettled None = Unit {0}
IsSettled (Some h) = (image : List ℕ) → may_leave h.now image → image ≡ h.content

-- a read of n bytes at a place made new of the room old: all the bytes that are there and fit
abbrev pub Reads : Option History → ℕ → ℕ → List ℕ → List ℕ → Type 0
Reads None place n old new = Unit {0}
Reads (Some h) place n old new = (n ≡ min (length old) (length h.content - place)) × (new ≡ take n (drop place h.content) ++ drop n old)

-- from before to after, the step was done
abbrev pub Steps : (History → History) → Option History → Option History → Type 0
Steps step None after = after ≡ None
Steps step (Some h) after = after ≡ Some (step h)

-- from before to after, a change failed: nothing was done, or some part of it
abbrev pub Breaks : Change → Option History → Option History → Type 0
Breaks change None after = after ≡ None
Breaks change (Some h) after = (after ≡ Some h) ⊎ ((content : List ℕ) × Alters change h.content content × (after ≡ Some (changed change content h)))
