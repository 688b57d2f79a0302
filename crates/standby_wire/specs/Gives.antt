-- What functions answer of what they read.
use Rattle.std.specs.Prelude.{◌≡◌, List, ℕ, Bool, true, false, Result, Ok, Err}
use Rattle.standby_wire.specs.Seen.{Seen}
use Rattle.standby_wire.specs.declared.stop.Stop.{Stop}
use Rattle.standby_wire.specs.declared.stop.Stop.TheVariants.{More, Bad}
use Rattle.standby_wire.specs.declared.stop.NoReply.{NoReply}
use Rattle.standby_wire.specs.declared.stop.NoReply.TheVariants.{Stopped, Memory}

-- what a function returned, with the bytes that it left
abbrev pub seen : {A : Type 0} → Result A Stop → List ℕ → Seen A
seen (Ok value) rest = Ok (value, rest)
seen (Err stop) rest = Err stop

-- Whether a text came, of which this was read: what is left is then behind it, and otherwise as it was.
abbrev pub Chooses : Seen (Unit {0}) → List ℕ → Result Bool Stop → List ℕ → Type 0
Chooses read old (Ok true) new = read ≡ Ok (tt, new)
Chooses read old (Ok false) new = (read ≡ Err Bad) × (new ≡ old)
Chooses read old (Err stop) new = (stop ≡ More) × (read ≡ Err More)

-- What a function returned, with the bytes that it left, is what was read, unless memory ran out.
abbrev pub Gives : {A : Type 0} → Result A NoReply → List ℕ → Seen A → Type 0
Gives (Ok value) rest read = read ≡ Ok (value, rest)
Gives (Err (Stopped stop)) rest read = read ≡ Err stop
Gives (Err Memory) rest read = Unit {0}
