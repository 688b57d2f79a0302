-- A peer over a source and a sink: what was written, and what was read.
use Rattle.std.specs.Prelude.{◌≡◌, ℕ, ◌≤◌, Bool, true, List, Option}
use Rattle.outside.specs.Faults.{Rose}
use Rattle.outside.specs.Flow.{Flow}
use Rattle.outside.specs.declared.sink.Sink.{Ghosts as SinkTells}
use Rattle.outside.specs.declared.source.Source.{Ghosts as SourceTells}
use Rattle.standby_wire.specs.Replied.{HeardView, HearingView, hearing_over, IsHearing}
use Rattle.standby.specs.Ending.{Came}
use Rattle.standby.specs.Sent.{Sent}
use Rattle.standby_link.specs.Written.{Writes}
use Rattle.standby_link.specs.Read.{IsLast, HearsMore}
use Rattle.standby_link.specs.declared.login.Login.{Login}

-- what a wire was when following began: who greeted, what was heard by then, and what the sink had taken
pub record WireStart : Type 0 where
  pub login : Login
  pub hearing : HearingView
  pub taken : Option (List ℕ)
  pub sink_faults : ℕ

abbrev pub start_of : Login → HeardView → Option Flow → ℕ → Option (List ℕ) → ℕ → WireStart
start_of login heard flow faults taken sink_faults =
    record { login = login; hearing = hearing_over heard flow faults; taken = taken; sink_faults = sink_faults }

-- what it was then, and what was said and heard by now
pub record WireParts : Type 0 where
  pub start : WireStart
  pub said : List Sent
  pub cut : Bool
  pub heard : HeardView
  pub last : Option Came

-- the same, with the source and the sink now
pub record WireView : Type 0 where
  pub start : WireStart
  pub said : List Sent
  pub cut : Bool
  pub hearing : HearingView
  pub last : Option Came
  pub taken : Option (List ℕ)
  pub sink_faults : ℕ

abbrev pub wire_over : WireParts → Option Flow → ℕ → Option (List ℕ) → ℕ → WireView
wire_over parts flow faults taken sink_faults = record {
  start = parts.start;
  said = parts.said;
  cut = parts.cut;
  hearing = hearing_over parts.heard flow faults;
  last = parts.last;
  taken = taken;
  sink_faults = sink_faults;
}

-- what was heard, and the source
abbrev pub heard_by : {S : Type 0} → SourceTells S → HeardView → S → HearingView
heard_by sources heard source = hearing_over heard (sources.flow source) (sources.faults source)

-- what a wire was and what it is over a source and a sink
abbrev pub wire_by : {S K : Type 0} → SourceTells S → SinkTells K → WireParts → S → K → WireView
wire_by sources sinks parts source sink = wire_over parts (sources.flow source) (sources.faults source) (sinks.taken sink) (sinks.faults sink)

-- What was said is written, what was heard is read, and a line is cut only where a count rose.
pub record IsWire (view : WireView) : Type 0 where
  pub writes : Writes view.start.login view.said view.cut view.start.taken view.taken
  pub falls : view.start.sink_faults ≤ view.sink_faults
  pub cuts : view.cut ≡ true → Rose view.start.sink_faults view.sink_faults
  pub hearing : IsHearing view.hearing
  pub hears : HearsMore view.start.hearing view.hearing
  pub last : IsLast view.hearing view.last
