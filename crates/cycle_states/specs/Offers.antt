-- What a desk puts in place of what the machine's answer leaves open.
use Rattle.std.specs.Prelude.{◌≡◌, ℕ, ◌+◌, nat_lt, List, length, Option, Some, None, if◌then◌else◌}
use Rattle.command_types.specs.declared.answer.Answer.{Answer}
use Rattle.command_types.specs.declared.answer.Answer.TheVariants.{NoNext, ProofRows, No}
use Rattle.command_types.specs.declared.ask.Entry.{Entry}
use Rattle.command_types.specs.declared.ask.What.{What}
use Rattle.command_types.specs.declared.ask.What.TheVariants.{Next, Proof}
use Rattle.command_types.specs.declared.figures.Start.{Start}
use Rattle.command_types.specs.declared.refusal.Refusal.TheVariants.{Gone, Ahead}
use Rattle.command_types.specs.Offers.{last_begin}
use Rattle.cycle_states.specs.declared.offers.OpenAsk.{OpenAsk}
use Rattle.cycle_states.specs.declared.offers.OpenAsk.TheVariants as asks
use Rattle.cycle_states.specs.declared.offers.Places.{Places}

-- what a command asks of the history itself
abbrev pub open_ask : What → OpenAsk
open_ask (Next position) = asks.Next position
open_ask (Proof cycle) = asks.Proof
open_ask what = asks.Other

-- where a history begins and ends, and the position of the last change that begins a version
pub record ArePlaces (base : Start) (entries : List Entry) (places : Places) : Type 0 where
  pub base_at : places.base ≡ base.position
  pub end_at : places.end ≡ base.position + length entries
  pub begun_at : places.begun ≡ base.position + last_begin entries

-- what a NEXT is answered by the history's places alone; none where that is an entry
abbrev pub offered_at : ℕ → Places → Option Answer
offered_at position places =
    if nat_lt position places.base then Some (No (Gone places.base))
    else (if nat_lt places.end position then Some (No (Ahead places.end))
    else (if nat_lt position places.end then None else Some NoNext))

-- the machine's answer to such a command, with what the places tell in it
abbrev pub filled_at : Places → OpenAsk → Answer → Option Answer
filled_at places (asks.Next position) NoNext = offered_at position places
filled_at places asks.Proof (ProofRows head rows) = Some (ProofRows (record head { begun = places.begun }) rows)
filled_at places ask answer = Some answer
