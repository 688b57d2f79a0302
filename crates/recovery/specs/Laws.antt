-- The law on the histories of files.
use Rattle.std.specs.Prelude.{◌≡◌, ℕ, List}
use Rattle.command_types.specs.History.{History}
use Rattle.recovery.specs.StandsFor.{StandsFor}

-- No file stands for two histories of one roster.
abbrev pub FilesStandForOneHistory : Type 0
FilesStandForOneHistory =
    (file : List ℕ) (a b : History) → a.base.state.roster ≡ b.base.state.roster → StandsFor file a → StandsFor file b → a ≡ b
