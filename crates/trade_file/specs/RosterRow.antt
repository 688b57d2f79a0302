-- What one record of a roster file says.
use Rattle.std.specs.Prelude.{ℕ, Bool, false, ◌&&◌, List, [], ◌∷◌, Option, Some, None, Result, Ok, Err, codes, if◌then◌else◌}
use Rattle.std.specs.Str.{bytes_eq}
use Rattle.units_core.specs.Name.{is_name}
use Rattle.units_core.specs.Day.{DayParts, day_of}
use Rattle.command_types.specs.declared.roster.Role.TheVariants.{Dealer, Customer}
use Rattle.command_types.specs.declared.file_fault.FileFault.{FileFault}
use Rattle.command_types.specs.declared.file_fault.FileFault.TheVariants.{Columns, BadName, BadRole, BadDay}
use Rattle.trade_file.specs.declared.roster_row.Kind.{Kind}
use Rattle.trade_file.specs.declared.roster_row.Kind.TheVariants as kind
use Rattle.trade_file.specs.declared.roster_row.RosterRow.{RosterRow}
use Rattle.trade_file.specs.declared.roster_row.RosterRow.TheVariants.{Member, Product, Operator}

-- the fields of the first record
abbrev pub is_header : List (List ℕ) → Bool
is_header (a ∷ b ∷ c ∷ []) = bytes_eq a (codes "name") && bytes_eq b (codes "role") && bytes_eq c (codes "key")
is_header fields = false

-- what the word of a role stands for
abbrev pub kind_of : List ℕ → Option Kind
kind_of word =
    if bytes_eq word (codes "dealer") then Some (kind.Member Dealer)
    else if bytes_eq word (codes "customer") then Some (kind.Member Customer)
    else if bytes_eq word (codes "operator") then Some kind.Operator
    else if bytes_eq word (codes "product") then Some kind.Product
    else None

-- the product of record n, with the day that its last field names
abbrev pub product_row : ℕ → List ℕ → Option DayParts → Result RosterRow FileFault
product_row n name None = Err (BadDay n)
product_row n name (Some day) = Ok (Product (record { name = name; maturity = day }))

-- the row of record n, whose first field is a name, by what its second field stands for
abbrev pub row_of_kind : ℕ → Option Kind → List ℕ → List ℕ → Result RosterRow FileFault
row_of_kind n None name last = Err (BadRole n)
row_of_kind n (Some kind.Product) name last = product_row n name (day_of last)
row_of_kind n (Some (kind.Member role)) name last =
    if is_name last then Ok (Member (record { name = name; role = role; key = last })) else Err (BadName n)
row_of_kind n (Some kind.Operator) name last =
    if is_name last then Ok (Operator (record { name = name; key = last })) else Err (BadName n)

-- the row that the fields of record n write, or what is wrong with them
abbrev pub row_of : ℕ → List (List ℕ) → Result RosterRow FileFault
row_of n (name ∷ word ∷ last ∷ []) = if is_name name then row_of_kind n (kind_of word) name last else Err (BadName n)
row_of n fields = Err (Columns n)
