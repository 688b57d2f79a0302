-- What the program sees of what is outside: its files, its streams, its disk and its listener.
use Rattle.std.specs.Prelude.{◌≡◌, ℕ, List, Option}
use Rattle.doors.specs.Visits.{Doors}
use Rattle.outside.specs.Flow.{Flow}
use Rattle.outside.specs.declared.disk.Disk.{Ghosts as DiskTells}
use Rattle.outside.specs.declared.files.Files.{Ghosts as FilesTells}
use Rattle.outside.specs.declared.sink.Sink.{Ghosts as SinkTells}
use Rattle.outside.specs.declared.source.Source.{Ghosts as SourceTells}
use Rattle.compress_server.specs.Files.{FilesState, files_by}
use Rattle.compress_server.specs.Housed.{DiskState, disk_by}

-- the bytes that an output took, where it tells them, and the count of its faults
pub record OutputState : Type 0 where
  pub taken : Option (List ℕ)
  pub faults : ℕ

-- what became of a listener's doors, where it tells that, and the count of its faults
pub record ListenerState : Type 0 where
  pub doors : Option Doors
  pub faults : ℕ

pub record Seen : Type 0 where
  pub output : OutputState
  pub disk : DiskState
  pub listener : ListenerState

abbrev pub output_of : Option (List ℕ) → ℕ → OutputState
output_of taken faults = record { taken = taken; faults = faults }

abbrev pub listener_of : Option Doors → ℕ → ListenerState
listener_of doors faults = record { doors = doors; faults = faults }

abbrev pub seen_of : OutputState → DiskState → ListenerState → Seen
seen_of output disk listener = record { output = output; disk = disk; listener = listener }

-- the bytes that an input gave and has left, where it tells them, and the count of its faults
pub record InputState : Type 0 where
  pub flow : Option Flow
  pub faults : ℕ

-- an input, and an output
pub record Streams : Type 0 where
  pub input : InputState
  pub output : OutputState

abbrev pub input_of : Option Flow → ℕ → InputState
input_of flow faults = record { flow = flow; faults = faults }

abbrev pub streams_of : InputState → OutputState → Streams
streams_of input output = record { input = input; output = output }

-- all that is outside
pub record World : Type 0 where
  pub files : FilesState
  pub input : InputState
  pub errors : OutputState
  pub seen : Seen

-- what a sink tells
abbrev pub output_by : {K : Type 0} → SinkTells K → K → OutputState
output_by tells sink = output_of (tells.taken sink) (tells.faults sink)

-- what a source tells
abbrev pub input_by : {S : Type 0} → SourceTells S → S → InputState
input_by tells source = input_of (tells.flow source) (tells.faults source)

-- what an input and an output tell
abbrev pub streams_by : {S K : Type 0} → SourceTells S → SinkTells K → S → K → Streams
streams_by inputs outputs input output = streams_of (input_by inputs input) (output_by outputs output)

-- what a listener tells
abbrev pub listener_by : {L : Type 0} → (L → Option Doors) → (L → ℕ) → L → ListenerState
listener_by doors faults listener = listener_of (doors listener) (faults listener)

-- what an output, a disk and a listener tell
abbrev pub seen_by : {K D L : Type 0} → SinkTells K → DiskTells D → (L → Option Doors) → (L → ℕ) → K → D → L → Seen
seen_by sinks disks doors faults output disk listener = seen_of (output_by sinks output) (disk_by disks disk) (listener_by doors faults listener)

-- what files, an input, an output for errors and the rest tell
abbrev pub world_by : {F S E K D L : Type 0} → FilesTells F → SourceTells S → SinkTells E → (K → D → L → Seen) → F → S → E → K → D → L → World
world_by folders inputs sinks seen files input errors output disk listener = record {
  files = files_by folders files;
  input = input_by inputs input;
  errors = output_by sinks errors;
  seen = seen output disk listener;
}

-- neither the disk nor the listener was asked for anything
pub record IsOnlyOutput (before after : Seen) : Type 0 where
  pub disk : after.disk ≡ before.disk
  pub listener : after.listener ≡ before.listener
