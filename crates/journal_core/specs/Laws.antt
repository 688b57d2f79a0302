-- The laws on journals' files.
use Rattle.std.specs.Prelude.{◌≡◌, ℕ, List}
use Rattle.journal_core.specs.Holds.{Holds}
use Rattle.journal_core.specs.Journal.{EndsAs, IsFormOf}
use Rattle.journal_core.specs.declared.form.Form.{Form}

-- No file holds two bases, or two lists of records.
abbrev pub FilesHoldOneList : Type 0
FilesHoldOneList = (file b c : List ℕ) (rs ss : List (List ℕ)) → Holds file b rs → Holds file c ss → (b ≡ c) × (rs ≡ ss)

-- A journal on a file ends at one place, or will when it is begun, whichever form is told of the file.
abbrev pub FilesEndAtOnePlace : Type 0
FilesEndAtOnePlace =
    (file b c : List ℕ) (rs ss : List (List ℕ)) (f g : Form) (end last : ℕ) → IsFormOf f file → EndsAs f file end b rs → IsFormOf g file → EndsAs g file last c ss
    → end ≡ last
