-- Networks over a roster's members.
use Rattle.std.specs.Prelude.{◌≡◌, List, length, All}
use Rattle.network_laws.specs.Networks.{NetworkData}
use Rattle.network_laws.specs.Solutions.{SolutionData}
use Rattle.command_types.specs.Roster.{Rows}

-- the network is one of the roster's members
abbrev pub HasMembers : Rows → NetworkData → Type 0
HasMembers roster network = network.members ≡ length roster.members

-- so each of the networks
abbrev pub HaveMembers : Rows → List NetworkData → Type 0
HaveMembers roster networks = All (HasMembers roster) networks

-- and so the network of each solution
abbrev pub SolveMembers : Rows → List SolutionData → Type 0
SolveMembers roster solutions = All (λ solution. HasMembers roster solution.network) solutions
