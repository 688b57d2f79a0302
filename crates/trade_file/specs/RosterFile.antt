-- What a roster file says: its rows, or its first fault.
use Rattle.std.specs.Prelude.{ℕ, ◌+◌, ◌==◌, nat_lt, nat_le, Bool, false, ◌&&◌, ◌||◌, is_some, List, [], ◌∷◌, ◌++◌, length, filter, Some, None, Result, Ok, Err, if◌then◌else◌}
use Rattle.std.specs.List.{list_any}
use Rattle.std.specs.Str.{bytes_eq}
use Rattle.csv.specs.Reading.{default_config, records, strip_bom}
use Rattle.command_types.specs.Roster.{Rows, names_of, is_dealer}
use Rattle.command_types.specs.declared.file_fault.FileFault.{FileFault}
use Rattle.command_types.specs.declared.file_fault.FileFault.TheVariants.{TooLong, Columns, Twice, RowLimit}
use Rattle.trade_file.specs.declared.roster_row.RosterRow.{RosterRow}
use Rattle.trade_file.specs.declared.roster_row.RosterRow.TheVariants.{Member, Product, Operator}
use Rattle.trade_file.specs.RosterRow.{is_header, row_of}
use Rattle.units_core.specs.declared.limits.TheConstants.{MOST_DEALERS, MOST_FILE, MOST_MEMBERS, MOST_PRODUCTS}

-- nobody and nothing yet
abbrev pub no_rows : Rows
no_rows = record { members = []; products = []; operator = None }

-- a member, a product or the operator has this name
abbrev pub is_taken : Rows → List ℕ → Bool
is_taken rows name = list_any (bytes_eq name) (names_of rows)

-- how many members are dealers
abbrev pub dealers_of : Rows → ℕ
dealers_of rows = length (filter (λ row. is_dealer row.role) rows.members)

-- the name of a row
abbrev pub row_name : RosterRow → List ℕ
row_name (Member row) = row.name
row_name (Product row) = row.name
row_name (Operator row) = row.name

-- the row's name stands in an earlier row, or it is a second operator
abbrev pub comes_twice : Rows → RosterRow → Bool
comes_twice rows (Member row) = is_taken rows row.name
comes_twice rows (Product row) = is_taken rows row.name
comes_twice rows (Operator row) = is_taken rows row.name || is_some rows.operator

-- the row is the 257th member, the 65th dealer or the 65th product
abbrev pub is_one_too_many : Rows → RosterRow → Bool
is_one_too_many rows (Member row) = nat_le MOST_MEMBERS (length rows.members) || (is_dealer row.role && nat_le MOST_DEALERS (dealers_of rows))
is_one_too_many rows (Product row) = nat_le MOST_PRODUCTS (length rows.products)
is_one_too_many rows (Operator row) = false

-- the rows with one more behind those of its kind
abbrev pub with_row : Rows → RosterRow → Rows
with_row rows (Member row) = record rows { members = rows.members ++ row ∷ [] }
with_row rows (Product row) = record rows { products = rows.products ++ row ∷ [] }
with_row rows (Operator row) = record rows { operator = Some row }

-- the rows with the one of record n, or why it can't stand there
abbrev pub with_read : ℕ → Rows → Result RosterRow FileFault → Result Rows FileFault
with_read n rows (Err fault) = Err fault
with_read n rows (Ok row) =
    if comes_twice rows row then Err (Twice n)
    else if is_one_too_many rows row then Err (RowLimit n)
    else Ok (with_row rows row)

-- the rows after record n: record 1 is the header, each other one a row
abbrev pub with_record : ℕ → Rows → List (List ℕ) → Result Rows FileFault
with_record n rows fields =
    if n == 1 then (if is_header fields then Ok rows else Err (Columns 1))
    else with_read n rows (row_of n fields)

-- goes on from rows, or stays at a fault
abbrev pub go_on : (Rows → Result Rows FileFault) → Result Rows FileFault → Result Rows FileFault
go_on more (Err fault) = Err fault
go_on more (Ok rows) = more rows

-- the rows after the records from n on, or the first fault
unfoldable pub with_records : ℕ → Rows → List (List (List ℕ)) → Result Rows FileFault
with_records n rows [] = Ok rows
with_records n rows (fields ∷ more) = go_on (λ next. with_records (n + 1) next more) (with_record n rows fields)

-- the rows of a roster file with these records, or the first fault
abbrev pub roster_of : List (List (List ℕ)) → Result Rows FileFault
roster_of [] = Err (Columns 1)
roster_of (fields ∷ more) = with_records 1 no_rows (fields ∷ more)

-- the records of a file: fields between commas, in double quotes or not, a line each, behind a byte-order mark or not
abbrev pub records_of : List ℕ → List (List (List ℕ))
records_of bytes = records default_config (strip_bom bytes)

-- the rows of a roster file with these bytes, or the first fault
abbrev pub roster_file : List ℕ → Result Rows FileFault
roster_file bytes = if nat_lt MOST_FILE (length bytes) then Err TooLong else roster_of (records_of bytes)
