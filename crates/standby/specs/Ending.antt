-- Which lines were said when following ends, and why it ends.
use Rattle.std.specs.Prelude.{◌≡◌, ◌≢◌, ◌⊎◌, ℕ, zero, suc, ◌+◌, ◌-◌, ◌≤◌, Bool, true, false, List, [], ◌∷◌, ◌++◌, map, Option, Some, None, Result, Ok, Err}
use Rattle.command_types.specs.declared.ask.Entry.{Entry}
use Rattle.command_types.specs.declared.answer.Answer.{Answer}
use Rattle.command_types.specs.declared.answer.Answer.TheVariants.{No}
use Rattle.command_types.specs.declared.answer.Reply.{Reply}
use Rattle.command_types.specs.declared.refusal.Refusal.TheVariants as refusals
use Rattle.command_types.specs.History.{end_of, is_recorded}
use Rattle.command_types.specs.Machine.{is_refusal}
use Rattle.outside.specs.declared.failed.Failed.{Failed}
use Rattle.house.specs.House.{HouseView}
use Rattle.house.specs.Calling.{Calls}
use Rattle.standby.specs.Sent.{Sent}
use Rattle.standby.specs.declared.peer.Said.{Said}
use Rattle.standby.specs.declared.peer.Said.TheVariants.{Next, Bye}
use Rattle.standby.specs.declared.peer.SayFault.{SayFault}
use Rattle.standby.specs.declared.peer.SayFault.TheVariants as faults
use Rattle.standby.specs.declared.peer.Heard.{Heard}
use Rattle.standby.specs.declared.peer.Heard.TheVariants as hears
use Rattle.standby.specs.declared.follow.FollowEnd.{FollowEnd}
use Rattle.standby.specs.declared.follow.FollowEnd.TheVariants.{Caught, Refused, Broken, Full, SourceFault, SinkFault, DiskFault, Memory}

-- ---- lines

abbrev pub line_of : Sent → Said
line_of sent = sent.line

-- so many NEXT lines, the first of this position
abbrev pub nexts : ℕ → ℕ → List Said
nexts position zero = []
nexts position (suc count) = Next position ∷ nexts (position + 1) count

-- the lines behind those whose entries were taken, where following came to this at a position
abbrev pub AreLast : ℕ → List Said → Option FollowEnd → Type 0
AreLast position last None = last ≡ []
AreLast position last (Some Caught) = last ≡ Next position ∷ Bye ∷ []
AreLast position last (Some SinkFault) = (last ≡ Next position ∷ []) ⊎ (last ≡ Next position ∷ Bye ∷ [])
AreLast position last (Some Memory) = (last ≡ []) ⊎ (last ≡ Next position ∷ [])
AreLast position last (Some end) = last ≡ Next position ∷ []

-- From old to new, a NEXT was said for each entry that was taken, and then these lines.
pub record SaysLines (old new : HouseView) (said said' : List Sent) (end : Option FollowEnd) : Type 0 where
  pub grows : end_of old.history ≤ end_of new.history
  pub last : List Said
  pub are_last : AreLast (end_of new.history) last end
  pub says : map line_of said' ≡ map line_of said ++ (nexts (end_of old.history) (end_of new.history - end_of old.history) ++ last)

-- a line was said in part, after one was said so, or following came to this
abbrev pub is_cut_after : {A : Type 0} → Bool → Result A SayFault → Bool
is_cut_after cut (Err faults.Failed) = true
is_cut_after cut said = cut

abbrev pub is_cut_by : Bool → Option FollowEnd → Bool
is_cut_by cut (Some SinkFault) = true
is_cut_by cut end = cut

-- ---- causes

-- a NEXT of this position came to this
pub record Came : Type 0 where
  pub position : ℕ
  pub heard : Result Heard Failed

abbrev pub CameTo : HouseView → Option Came → Result Heard Failed → Type 0
CameTo house last heard = last ≡ Some (record { position = end_of house.history; heard = heard })

-- the house itself refused: its journal is full, its disk failed, or there was no memory
abbrev pub is_own : Answer → Bool
is_own (No (refusals.JournalFull size)) = true
is_own (No refusals.DiskFault) = true
is_own (No refusals.Memory) = true
is_own answer = false

-- what a house tells of an entry whose reply was due at this offset, which it did not take; the machine refused what is broken
abbrev pub Tells : ℕ → Answer → FollowEnd → Type 0
Tells due answer (Full size) = answer ≡ No (refusals.JournalFull size)
Tells due answer DiskFault = answer ≡ No refusals.DiskFault
Tells due answer Memory = answer ≡ No refusals.Memory
Tells due answer (Broken at) = (at ≡ due) × (is_refusal answer ≡ true) × (is_own answer ≡ false)
Tells due answer end = ⊥

-- From old to new, the house was asked to make the change of an entry, and did not make it.
pub record Declines (old new : HouseView) (due : ℕ) (entry : Entry) (end : FollowEnd) : Type 0 where
  pub reply : Reply
  pub calls : Calls old new entry.seat entry.ask reply
  pub unmade : is_recorded entry.ask.what reply.answer ≢ true
  pub tells : Tells due reply.answer end

-- The last NEXT came to an entry at the next position, and a house of this history did not take it.
pub record CameToUntaken (house : HouseView) (last : Option Came) (end : FollowEnd) : Type 0 where
  pub old : HouseView
  pub same : old.history ≡ house.history
  pub due : ℕ
  pub entry : Entry
  pub came : CameTo house last (Ok (hears.Entry due (end_of house.history + 1) entry))
  pub declines : Declines old house due entry end

-- or to an entry at another position, in a reply that was due at this offset
abbrev pub CameToOther : HouseView → Option Came → ℕ → Type 0
CameToOther house last due = (at : ℕ) × (entry : Entry) × (at ≢ end_of house.history + 1) × CameTo house last (Ok (hears.Entry due at entry))

-- why following ended, by what the last NEXT came to; that a line was not said whole, or that there was no memory, is told by others
abbrev pub EndsBy : HouseView → Option Came → FollowEnd → Type 0
EndsBy house last Caught = CameTo house last (Ok hears.Nothing)
EndsBy house last (Refused number) = CameTo house last (Ok (hears.Refused number))
EndsBy house last (Broken at) = CameTo house last (Ok (hears.Broken at)) ⊎ CameToOther house last at ⊎ CameToUntaken house last (Broken at)
EndsBy house last (Full size) = CameToUntaken house last (Full size)
EndsBy house last DiskFault = CameToUntaken house last DiskFault
EndsBy house last SourceFault = (failed : Failed) × CameTo house last (Err failed)
EndsBy house last SinkFault = Unit {0}
EndsBy house last Memory = Unit {0}
