-- A wire and what it heard, as contracts see them.
use Rattle.std.specs.Prelude.{◌≡◌, ℕ, Bool, List, map, Option, Result, Ok, Err}
use Rattle.outside.specs.Flow.{Flow}
use Rattle.outside.specs.declared.failed.Failed.{Failed}
use Rattle.standby_wire.specs.Replied.{HeardView}
use Rattle.standby_wire.specs.declared.reply.Reply.{Reply}
use Rattle.standby_wire.specs.declared.reply.Reply.TheVariants as replies
use Rattle.standby_wire.specs.declared.inbox.WaitFault.{WaitFault}
use Rattle.standby_wire.specs.declared.inbox.WaitFault.TheVariants as faults
use Rattle.standby.specs.Log.{sent_of, came_of}
use Rattle.standby.specs.declared.log.Shown.{Shown}
use Rattle.standby.specs.declared.log.Outcome.{Outcome}
use Rattle.standby.specs.declared.peer.Heard.{Heard}
use Rattle.standby.specs.declared.peer.Heard.TheVariants as hears
use Rattle.standby_link.specs.Read.{place_behind}
use Rattle.standby_link.specs.Wire.{start_of, WireParts}
use Rattle.standby_link.specs.declared.login.Login.{Login}

-- what a wire was when following began, and what was said and heard since
abbrev pub parts_of : {D : Type 0} → Login → HeardView → Option Flow → ℕ → Option (List ℕ) → ℕ → List (Shown D) → Bool → HeardView → Option Outcome → WireParts
parts_of login first flow faults taken sink_faults said cut heard last = record {
  start = start_of login first flow faults taken sink_faults;
  said = map sent_of said;
  cut = cut;
  heard = heard;
  last = came_of last;
}

-- what a wait for the reply to a NEXT of this position tells, where the reply was due at this offset
abbrev pub IsToldBy : ℕ → ℕ → Result Reply WaitFault → Result Heard Failed → Type 0
IsToldBy position due (Ok (replies.Entry entry)) came = came ≡ Ok (hears.Entry due (place_behind position) entry)
IsToldBy position due (Ok replies.Nothing) came = came ≡ Ok hears.Nothing
IsToldBy position due (Ok (replies.Refused number)) came = came ≡ Ok (hears.Refused number)
IsToldBy position due (Ok reply) came = ⊥
IsToldBy position due (Err (faults.Broken at)) came = came ≡ Ok (hears.Broken at)
IsToldBy position due (Err faults.SourceFault) came = (failed : Failed) × (came ≡ Err failed)
IsToldBy position due (Err faults.Memory) came = came ≡ Ok hears.Memory
