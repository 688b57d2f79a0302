-- The names of a roster's rows.
use Rattle.std.specs.Prelude.{All, IsTrue}
use Rattle.units_core.specs.Name.{is_name}
use Rattle.command_types.specs.Roster.{Rows}

-- the names of members and products are names, as the type `Name` keeps them
pub record HasNames (rows : Rows) : Type 0 where
  pub members : All (λ row. IsTrue (is_name row.name)) rows.members
  pub products : All (λ row. IsTrue (is_name row.name)) rows.products
