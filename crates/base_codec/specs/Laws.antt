-- The law on the spelling of bases.
use Rattle.std.specs.Prelude.{◌≡◌, ℕ, List}
use Rattle.command_types.specs.declared.base.Base.{Base}
use Rattle.command_types.specs.Bases.{SpellsBase}

-- No bytes spell two bases, whichever mark they begin with.
abbrev pub BasesAreUnique : Type 0
BasesAreUnique = (bytes : List ℕ) (a b : Base) → SpellsBase bytes a → SpellsBase bytes b → a ≡ b
