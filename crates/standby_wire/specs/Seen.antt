-- Text that is read from its front: what has come so far may go on to a text of the form, or may not, or begins with one.
use Rattle.std.specs.Prelude.{ℕ, List, Result, Ok, Err}
use Rattle.standby_wire.specs.declared.stop.Stop.{Stop}
use Rattle.standby_wire.specs.declared.stop.Stop.TheVariants.{More, Bad}

-- What is read is a value and the bytes behind it. Where nothing is, more bytes may make it a text of the form, or it is bad.
abbrev pub Seen : Type 0 → Type 0
Seen A = Result (A × List ℕ) Stop

infixl 10 ◌>>=◌
abbrev pub ◌>>=◌ : {A B : Type 0} → Result A Stop → (A → Result B Stop) → Result B Stop
(Ok x) >>= f = f x
(Err stop) >>= f = Err stop

-- Where a text of one form comes, what is read behind it; where none comes, another thing.
abbrev pub chosen : {A B : Type 0} → Result (A × List ℕ) Stop → (List ℕ → Result B Stop) → Result B Stop → Result B Stop
chosen (Ok x) behind other = behind x.1
chosen (Err More) behind other = Err More
chosen (Err Bad) behind other = other
