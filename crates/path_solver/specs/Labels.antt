-- Work beside prices and levels, and walks from a member.
use Rattle.std.specs.Prelude.{◌≡◌, ℕ, ◌+◌, ◌<◌, ◌≤◌, List, length, slice_index}
use Rattle.member_set.specs.declared.set.MemberSet.{MemberSet}
use Rattle.path_solver.specs.declared.labels.Labels.{Labels}
use Rattle.path_solver.specs.declared.stand.Stand.{Stand}
use Rattle.path_solver.specs.declared.stand.Trip.{Trip}
use Rattle.path_solver.specs.declared.work.Work.{Work}
use Rattle.path_solver.specs.Counts.{left_to_do}
use Rattle.path_solver.specs.Groups.{AreSorted}
use Rattle.path_solver.specs.Levels.{AreLevels, AreShortest, AreLayers, AreWholeLayers}
use Rattle.path_solver.specs.Paths.{IsPathDown, NoneIsShorter}
use Rattle.path_solver.specs.Pruned.{ArePruned, AreFewer}
use Rattle.path_solver.specs.Rests.{IsSentAlong}
use Rattle.path_solver.specs.Trails.{IsTrail, IsBegun}
use Rattle.path_solver.specs.Works.{IsWork}

-- prices and levels of so many members, and the groups by these prices
pub record AreLabels (members : ℕ) (l : Labels) : Type 0 where
  pub sorted : AreSorted members l.prices.now l.groups.now
  pub levels : members ≡ length l.levels.now

-- from each reached member open arcs lead down to one that has to receive
abbrev pub AreLevelsIn : Work → Labels → Type 0
AreLevelsIn w l = AreLevels w.residual.flows l.prices.now w.balance.lack.items l.levels.now

-- amounts were moved along tight pairs, towards what the members are to have
abbrev pub IsSentIn : Labels → Work → Work → Type 0
IsSentIn l old new =
    IsSentAlong l.prices.now old.residual new.residual old.balance.surplus.items old.balance.lack.items new.balance.surplus.items new.balance.lack.items

-- what each path down these levels lowers
abbrev pub still_to_do : Labels → Work → ℕ
still_to_do l w =
    left_to_do l.levels.now w.residual.flows w.balance.surplus.items w.balance.lack.items

-- what a member still has to send
abbrev pub surplus_in : Work → ℕ → ℕ
surplus_in w v = slice_index w.balance.surplus.items v

-- the level of the member from which a walk starts
abbrev pub top_of : Trip → ℕ
top_of t = slice_index t.labels.now.levels.now t.from

-- who is in a layer up to the one from which a walk starts has its number as level
abbrev pub AreLayersFrom : Trip → List MemberSet → Type 0
AreLayersFrom t layers = AreLayers t.labels.now.levels.now layers (top_of t + 1)

-- and each member of such a level is in its layer
abbrev pub AreWholeFrom : Trip → List MemberSet → Type 0
AreWholeFrom t layers = AreWholeLayers t.labels.now.levels.now layers (top_of t + 1)

-- who is in no layer up to there has no way on
abbrev pub ArePrunedFrom : Work → Trip → List MemberSet → Type 0
ArePrunedFrom w t layers =
    ArePruned w.residual.flows t.labels.now.prices.now w.balance.lack.items t.labels.now.levels.now layers (top_of t + 1)

-- no path of least cost has fewer arcs than the level from which the walk starts tells
abbrev pub AreShortestFrom : Work → Trip → Type 0
AreShortestFrom w t =
    AreShortest w.residual.flows t.labels.now.prices.now w.balance.surplus.items w.balance.lack.items t.labels.now.levels.now (top_of t)

-- a path of open arcs down the levels, from the start of the walk to `end`, who has to receive
abbrev pub IsPathDownFrom : Work → Trip → ℕ → List ℕ → Type 0
IsPathDownFrom w t end path =
    IsPathDown w.residual.flows t.labels.now.prices.now t.labels.now.levels.now w.balance.lack.items t.from end path

-- each path of open arcs from a member that has to send to one that has to receive has at least n arcs
abbrev pub NoneIsShorterIn : Work → Labels → ℕ → Type 0
NoneIsShorterIn w l n =
    NoneIsShorter w.residual.flows l.prices.now w.balance.surplus.items w.balance.lack.items n

-- the walk came down to this level, where it is at `here`, over the arcs of the path
abbrev pub IsTrailFrom : Work → Trip → List MemberSet → List ℕ → ℕ → ℕ → Type 0
IsTrailFrom w t layers path low here =
    IsTrail w.residual t.labels.now.prices.now t.labels.now.levels.now layers path low (top_of t) here t.from

-- the walk stands behind the first arcs of the path, which lead down the levels
abbrev pub IsBegunFrom : Work → Trip → List MemberSet → List ℕ → Stand → Type 0
IsBegunFrom w t layers path s =
    IsBegun w.residual t.labels.now.prices.now t.labels.now.levels.now layers path t.from s

-- a walk can go on from where it stands
pub record CanGo (w : Work) (t : Trip) (sets : List MemberSet) (arcs : List ℕ) : Type 0 where
  pub work : IsWork w
  pub labels : AreLabels w.residual.members t.labels.now
  pub layers : AreLayersFrom t sets
  pub top : top_of t ≤ w.residual.members
  pub room : w.residual.members < length sets
  pub path : w.residual.members ≤ length arcs
  pub from : t.from < w.residual.members
  pub pruned : ArePrunedFrom w t sets
  pub begun : IsBegunFrom w t sets arcs t.stand

-- amounts were sent from the level `top`, over layers out of which members were taken from which there is no way on
pub record IsSentOver (l : Labels) (top : ℕ) (old new : Work) (before after : List MemberSet) : Type 0 where
  pub work : IsWork new
  pub along : IsSentIn l old new
  pub layers : AreLayers l.levels.now after (top + 1)
  pub pruned : ArePruned new.residual.flows l.prices.now new.balance.lack.items l.levels.now after (top + 1)
  pub fewer : AreFewer before after
  pub shortest : AreShortest new.residual.flows l.prices.now new.balance.surplus.items new.balance.lack.items l.levels.now top
