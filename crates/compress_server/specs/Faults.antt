-- The lines that tell a file's fault, a journal's damage, how a standby ended, and what keeps a market from going on.
use Rattle.std.specs.Prelude.{ℕ, List, ◌++◌, codes, decimal}
use Rattle.command_types.specs.declared.file_fault.FileFault.{FileFault}
use Rattle.command_types.specs.declared.file_fault.FileFault.TheVariants.{TooLong, Columns, BadName, BadRole, BadAmount, BadDay, Twice, UnknownName, SameParty, GrossLimit, RowLimit, BadLine, Memory}
use Rattle.period_roll.specs.declared.cause.Cause.{Cause}
use Rattle.period_roll.specs.declared.cause.Cause.TheVariants.{CycleOpen, MemberGone, RoleChanged, ProductGone, MaturesEarly, PositionsFull}
use Rattle.compress_server.specs.declared.ending.Obstacle.{Obstacle}
use Rattle.compress_server.specs.declared.ending.Obstacle.TheVariants.{Market, Misfit, TooLong as OverMost}
use Rattle.compress_server.specs.declared.load.FileRole.{FileRole}
use Rattle.compress_server.specs.declared.load.FileRole.TheVariants.{Roster, Trades, Proposal, NewRoster}

abbrev pub role_name : FileRole → List ℕ
role_name Roster = codes "roster"
role_name Trades = codes "trades"
role_name Proposal = codes "proposal"
role_name NewRoster = codes "new-roster"

-- a fault at a row
abbrev pub row_line : FileRole → ℕ → List ℕ → List ℕ
row_line role row fault = role_name role ++ codes " row " ++ decimal row ++ codes ": " ++ fault ++ codes "\n"

-- the line of a fault of the file in this role; want of memory is told by its own status
abbrev pub fault_line : FileRole → FileFault → List ℕ
fault_line role TooLong = role_name role ++ codes ": too-long\n"
fault_line role (Columns row) = row_line role row (codes "columns")
fault_line role (BadName row) = row_line role row (codes "bad-name")
fault_line role (BadRole row) = row_line role row (codes "bad-role")
fault_line role (BadAmount row) = row_line role row (codes "bad-amount")
fault_line role (BadDay row) = row_line role row (codes "bad-day")
fault_line role (Twice row) = row_line role row (codes "twice")
fault_line role (UnknownName row) = row_line role row (codes "unknown-name")
fault_line role (SameParty row) = row_line role row (codes "same-party")
fault_line role (GrossLimit row) = row_line role row (codes "gross-limit")
fault_line role (RowLimit row) = row_line role row (codes "row-limit")
fault_line role (BadLine row) = row_line role row (codes "bad-line")
fault_line role Memory = codes "memory\n"

-- a line that ends in a number
abbrev pub number_line : List ℕ → ℕ → List ℕ
number_line text number = text ++ decimal number ++ codes "\n"

-- the line of a journal that is damaged at this place
abbrev pub damage_line : ℕ → List ℕ
damage_line place = number_line (codes "damaged at ") place

-- the line of a primary that refused, with a number
abbrev pub refused_line : ℕ → List ℕ
refused_line number = number_line (codes "peer refused ") number

-- the line of a primary that said what may not stand at an offset
abbrev pub broken_line : ℕ → List ℕ
broken_line at = number_line (codes "peer broken at ") at

-- the line of a standby's journal that has no room at its size
abbrev pub full_line : ℕ → List ℕ
full_line size = number_line (codes "journal full at ") size

-- a cause with the number of a trade in it
abbrev pub trade_text : List ℕ → ℕ → List ℕ → List ℕ
trade_text before trade behind = before ++ decimal trade ++ behind

-- what keeps a market from going on over a new roster; a trade has its number from before
abbrev pub cause_text : Cause → List ℕ
cause_text CycleOpen = codes "a cycle is open"
cause_text (MemberGone trade) = trade_text (codes "a member of trade ") trade (codes " is gone")
cause_text (RoleChanged trade) = trade_text (codes "a member of trade ") trade (codes " has another role")
cause_text (ProductGone trade) = trade_text (codes "the product of trade ") trade (codes " is gone")
cause_text (MaturesEarly trade) = trade_text (codes "the product of trade ") trade (codes " matures too early")
cause_text PositionsFull = codes "no position is left"

abbrev pub obstacle_text : Obstacle → List ℕ
obstacle_text (Market cause) = cause_text cause
obstacle_text Misfit = codes "a number is above 10^18"
obstacle_text OverMost = codes "the new journal would be too long"

-- the line of a roll that is refused
abbrev pub obstacle_line : Obstacle → List ℕ
obstacle_line obstacle = codes "cannot roll: " ++ obstacle_text obstacle ++ codes "\n"
