-- Lines as a standby writes them.
use Rattle.std.specs.Prelude.{ℕ, List, ◌++◌, codes, decimal}

abbrev pub hello_line : List ℕ → List ℕ → List ℕ
hello_line name key = codes "HELLO " ++ name ++ codes " " ++ key ++ codes "\n"

abbrev pub next_line : ℕ → List ℕ
next_line position = codes "NEXT " ++ decimal position ++ codes "\n"

abbrev pub bye_line : List ℕ
bye_line = codes "BYE\n"
