-- What a proposal's text says, line by line: its parts, or the first line that can't stand at its place.
use Rattle.std.specs.Prelude.{ℕ, ℤ, ◌+◌, ◌-◌, ◌==◌, nat_lt, nat_le, Bool, true, false, not, ◌&&◌, is_some, List, [], ◌∷◌, ◌++◌, length, slice_get, Option, Some, None, Result, Ok, Err, if◌then◌else◌}
use Rattle.std.specs.Str.{bytes_eq}
use Rattle.network_laws.specs.declared.rows.Row.{Row as NetworkRow}
use Rattle.network_laws.specs.Networks.{place, total}
use Rattle.command_types.specs.Roster.{Rows, member_place, is_member_at}
use Rattle.command_types.specs.declared.roster.ProductRow.{ProductRow}
use Rattle.command_types.specs.declared.file_fault.FileFault.{FileFault}
use Rattle.command_types.specs.declared.file_fault.FileFault.TheVariants.{TooLong, BadLine}
use Rattle.dual_certificate.specs.declared.proposal_part.ProposalPart.{ProposalPart}
use Rattle.dual_certificate.specs.declared.proposal_line.Figures.{Figures}
use Rattle.dual_certificate.specs.declared.proposal_line.ProposalLine.{ProposalLine}
use Rattle.dual_certificate.specs.declared.proposal_line.ProposalLine.TheVariants.{Product, Row, Pot, Bound, End}
use Rattle.dual_certificate.specs.ProposalLine.{pieces, line_of}
use Rattle.units_core.specs.declared.limits.TheConstants.{MOST_FILE, MOST_GROSS}

-- what was read so far: the finished parts, the part that is begun, and whether the last line came
pub record Reading : Type 0 where
  pub parts : List ProposalPart
  pub figures : Option Figures
  pub rows : List NetworkRow
  pub potentials : List ℤ
  pub has_ended : Bool

-- nothing yet
abbrev pub nothing_read : Reading
nothing_read = record { parts = []; figures = None; rows = []; potentials = []; has_ended = false }

-- these parts are finished, and none is begun
abbrev pub after_parts : List ProposalPart → Reading
after_parts parts = record { parts = parts; figures = None; rows = []; potentials = []; has_ended = false }

-- there is a product, and this is its name
abbrev pub is_product_row : Option ProductRow → List ℕ → Bool
is_product_row None name = false
is_product_row (Some row) name = bytes_eq row.name name

-- a part may begin, or the last line come
abbrev pub is_between : Reading → Bool
is_between r = not r.has_ended && not (is_some r.figures)

-- a part begins: it is that of the next product
abbrev pub with_product : Rows → Reading → List ℕ → Figures → Option Reading
with_product roster r name figures =
    if is_between r && is_product_row (slice_get roster.products (length r.parts)) name then Some (record r { figures = Some figures }) else None

-- the row stands behind the last one, by its seller and then its buyer
abbrev pub is_behind : Option NetworkRow → NetworkRow → Bool
is_behind None row = true
is_behind (Some last) row = nat_lt (place last) (place row)

-- the row is of different members, stands behind the last one, and keeps the gross within 10^18
abbrev pub fits : List NetworkRow → NetworkRow → Bool
fits rows row =
    not (row.seller == row.buyer) && is_behind (slice_get rows (length rows - 1)) row && nat_le (total rows + row.amount) MOST_GROSS

-- one more row of the part that is begun, which has no potential yet
abbrev pub with_network_row : Reading → NetworkRow → Option Reading
with_network_row r row =
    if is_some r.figures && (length r.potentials == 0) && fits r.rows row then Some (record r { rows = r.rows ++ row ∷ [] }) else None

-- a row of the part that is begun, in front of its potentials
abbrev pub with_row : Reading → Option ℕ → Option ℕ → ℕ → Option Reading
with_row r (Some seller) (Some buyer) amount = with_network_row r (record { seller = seller; buyer = buyer; amount = amount })
with_row r seller buyer amount = None

-- the potential of the next member
abbrev pub with_pot : Rows → Reading → List ℕ → ℤ → Option Reading
with_pot roster r name value =
    if is_some r.figures && is_member_at roster (length r.potentials) name then Some (record r { potentials = r.potentials ++ value ∷ [] }) else None

-- the part with these figures, and the dual bound behind it
abbrev pub finished : Rows → Reading → Figures → ℕ → ProposalPart
finished roster r figures value = record {
  solution = record { network = record { members = length roster.members; rows = r.rows }; potentials = r.potentials };
  gross = figures.gross;
  least = figures.least;
  floor_m = figures.floor_m;
  bilateral = figures.bilateral;
  bound = value;
}

-- the part that is begun is finished, once each member has a potential
abbrev pub with_finished : Rows → Reading → Option Figures → ℕ → Option Reading
with_finished roster r None value = None
with_finished roster r (Some figures) value =
    if length r.potentials == length roster.members then Some (record r { parts = r.parts ++ finished roster r figures value ∷ []; figures = None; rows = []; potentials = [] }) else None

-- a part ends, once each member has a potential
abbrev pub with_bound : Rows → Reading → ℕ → Option Reading
with_bound roster r value = with_finished roster r r.figures value

-- the last line, once each product has a part
abbrev pub with_end : Rows → Reading → ℕ → Option Reading
with_end roster r count =
    if is_between r && (length r.parts == length roster.products) && (count == length roster.products) then Some (record r { has_ended = true }) else None

-- what was read, with what a line says
abbrev pub with_said : Rows → Reading → Option ProposalLine → Option Reading
with_said roster r None = None
with_said roster r (Some (Product name figures)) = with_product roster r name figures
with_said roster r (Some (Row seller buyer amount)) = with_row r (member_place roster seller) (member_place roster buyer) amount
with_said roster r (Some (Pot member value)) = with_pot roster r member value
with_said roster r (Some (Bound value)) = with_bound roster r value
with_said roster r (Some (End count)) = with_end roster r count

-- the same with the line itself
abbrev pub with_line : Rows → Reading → List ℕ → Option Reading
with_line roster r line = with_said roster r (line_of line)

-- goes on behind line n, or tells it
abbrev pub go_on : ℕ → (Reading → Result (List ProposalPart) FileFault) → Option Reading → Result (List ProposalPart) FileFault
go_on n more None = Err (BadLine n)
go_on n more (Some r) = more r

-- behind the last line feed is nothing, and the last line came; else line n is missing, or one too many
abbrev pub at_end : ℕ → Reading → List ℕ → Result (List ProposalPart) FileFault
at_end n r rest = if (length rest == 0) && r.has_ended then Ok r.parts else Err (BadLine n)

-- the parts after the lines from number n on; the last piece is what stands behind the last line feed
unfoldable pub with_pieces : Rows → ℕ → Reading → List (List ℕ) → Result (List ProposalPart) FileFault
with_pieces roster n r [] = Err (BadLine n)
with_pieces roster n r (piece ∷ more) =
    if length more == 0 then at_end n r piece else go_on n (λ next. with_pieces roster (n + 1) next more) (with_line roster r piece)

-- the parts that a text says, or its first line that can't stand, counted from 1
abbrev pub proposal_of : Rows → List ℕ → Result (List ProposalPart) FileFault
proposal_of roster bytes = if nat_lt MOST_FILE (length bytes) then Err TooLong else with_pieces roster 1 nothing_read (pieces 10 bytes)
