-- What is given of bytes that spell a change.
use Rattle.std.proofs.Common.{◌≡◌, ℕ, List, ◌++◌, sym, ◌∙◌, ap}
use Rattle.command_types.specs.Spelling.{Spells, number_spelling, spelling}
use Rattle.command_types.specs.declared.ask.Entry.{Entry}
use Rattle.command_types.specs.declared.spelling.Spelling.{Spelling}
use Rattle.command_types.specs.declared.spelling.Spelling.TheVariants.{First, Second}
use Rattle.recovery.specs.Bodies.{Written}
use Rattle.recovery.specs.StandsFor.{SpellsAs}
use Rattle.record_pool.specs.Pool.{spelled, spelled_from}

given_from : (form : Spelling) (bytes : List ℕ) (entry : Entry) → Spells form bytes entry → spelled_from form bytes ≡ spelling Second entry
given_from First bytes entry s = ap (λ (l : List ℕ). number_spelling 0 ++ l) s.same ∙ ap (λ (m : ℕ). number_spelling m ++ spelling First entry) (sym s.change.moment)
given_from Second bytes entry s = s.same

pub given : (change : Written) (entry : Entry) → SpellsAs change entry → spelled change ≡ spelling Second entry
given change entry spells = given_from change.0 change.1 entry spells
