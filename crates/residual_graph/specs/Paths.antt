-- Paths along arcs.
use Rattle.std.specs.Prelude.{◌≡◌, ◌≢◌, ℕ, ◌<◌, ◌≤◌, List, [], ◌∷◌, fold, All, AllPairs}
use Rattle.residual_graph.specs.declared.flow.Flow.{Flow}
use Rattle.residual_graph.specs.Arcs.{arc_count, tail, head, room, pushed}

-- from v along the arcs to w: each leaves where the one before arrived
abbrev pub IsWalk : List Flow → ℕ → List ℕ → ℕ → Type 0
IsWalk flows v [] w = v ≡ w
IsWalk flows v (a ∷ arcs) w = (tail flows a ≡ v) × (a < arc_count flows) × IsWalk flows (head flows a) arcs w

-- a walk that leaves no member twice, along which x can move; it may have no arcs
pub record IsPath (x : ℕ) (flows : List Flow) (path : List ℕ) : Type 0 where
  pub from : ℕ
  pub to : ℕ
  pub walk : IsWalk flows from path to
  pub once : AllPairs (λ a b. tail flows a ≢ tail flows b) path
  pub roomy : All (λ a. x ≤ room flows a) path

-- the pairs after x is moved along each of the arcs
abbrev pub pushed_all : ℕ → List Flow → List ℕ → List Flow
pushed_all x flows arcs = fold (pushed x) flows arcs
