-- The law on what is given of a change.
use Rattle.std.specs.Prelude.{◌≡◌}
use Rattle.command_types.specs.Spelling.{spelling}
use Rattle.command_types.specs.declared.ask.Entry.{Entry}
use Rattle.command_types.specs.declared.spelling.Spelling.TheVariants.{Second}
use Rattle.recovery.specs.Bodies.{Written}
use Rattle.recovery.specs.StandsFor.{SpellsAs}
use Rattle.record_pool.specs.Pool.{spelled}

-- What is given of bytes that spell a change is its second spelling.
abbrev pub AreGivenInSecond : Type 0
AreGivenInSecond = (change : Written) (entry : Entry) → SpellsAs change entry → spelled change ≡ spelling Second entry
