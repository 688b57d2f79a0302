-- What changes as amounts are sent.
use Rattle.std.specs.Prelude.{◌≡◌, ℕ, ◌+◌, List, length}
use Rattle.member_set.specs.declared.set.MemberSet.{MemberSet}
use Rattle.residual_graph.specs.Residual.{IsResidual}
use Rattle.path_solver.specs.declared.prices.Prices.{Prices}
use Rattle.path_solver.specs.declared.room.Room.{Room}
use Rattle.path_solver.specs.declared.search.Search.{Search}
use Rattle.path_solver.specs.declared.work.Work.{Work}
use Rattle.path_solver.specs.Levels.{AreLayers, AreWholeLayers}
use Rattle.path_solver.specs.Neighbours.{AreNeighbours}
use Rattle.path_solver.specs.Phases.{IsPhase}
use Rattle.path_solver.specs.Rests.{IsFeasible}
use Rattle.path_solver.specs.Searches.{IsSpread}

-- a graph and its neighbours, and each member has something or nothing to send, and to receive
pub record IsWork (w : Work) : Type 0 where
  pub residual : IsResidual w.residual
  pub neighbours : AreNeighbours w.residual w.neighbours
  pub surplus : w.residual.members ≡ length w.balance.surplus.items
  pub lack : w.residual.members ≡ length w.balance.lack.items

-- the prices are those of a phase in which nothing was sent yet
abbrev pub ArePhased : Work → Prices → Type 0
ArePhased w p =
    IsPhase w.residual w.residual w.balance.surplus.items w.balance.lack.items w.balance.surplus.items w.balance.lack.items p.by_member.items p.top

-- some amounts within the bounds leave nothing to send and to receive
abbrev pub IsFeasibleIn : Work → Type 0
IsFeasibleIn w = IsFeasible w.residual.flows w.balance.surplus.items w.balance.lack.items

-- how far a search has come over these prices, with a layer for each level that it passed
pub record IsSearched (w : Work) (p levels : List ℕ) (layers : List MemberSet) (s : Search) : Type 0 where
  pub spread : IsSpread w.residual p w.balance.surplus.items w.balance.lack.items levels s.level s.now s.seen
  pub passed : AreLayers levels layers s.level
  pub whole : AreWholeLayers levels layers s.level

-- room for so many members
pub record IsRoom (members : ℕ) (r : Room) : Type 0 where
  pub levels : members ≡ length r.levels.items
  pub layers : members + 1 ≡ length r.layers.items
  pub path : members ≡ length r.path.items
