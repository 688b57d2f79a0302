-- The walk over the rows of a member's pairs: what is passed, and the places of the next pairs.
use Rattle.std.proofs.Common.{◌≡◌, ℕ, ◌≤◌, List, length, subst, arith}
use Rattle.network_laws.specs.declared.rows.LimitRow.{LimitRow}
use Rattle.network_laws.specs.declared.rows.Row.{Row}
use Rattle.network_laws.specs.Limits.{IsLimitCursor}
use Rattle.network_laws.specs.Networks.{IsCursor}
use Rattle.cycle_states.specs.declared.machine.pair_places.PairPlaces.{PairPlaces}
use Rattle.cycle_states.specs.declared.machine.part.Part.{Part}
use Rattle.cycle_states.specs.PairPlaces.{ArePast, IsPastLimits, IsPastRows}

-- a cursor has passed what stands before its place
pub limits_before : (rows all : List LimitRow) (m w : ℕ) → rows ≡ all → m ≤ length rows → IsLimitCursor rows m w → IsPastLimits all m w
limits_before rows all m w same end cursor = subst (λ list. IsPastLimits list m w) same (record { end = end; before = cursor.before })

pub rows_before : (rows all : List Row) (m w : ℕ) → rows ≡ all → m ≤ length rows → IsCursor rows m w → IsPastRows all m w
rows_before rows all m w same end cursor = subst (λ list. IsPastRows list m w) same (record { end = end; before = cursor.before })

-- what stands before a place stands before a later one
pub limits_later : (rows : List LimitRow) (m w v : ℕ) → IsPastLimits rows m w → w ≤ v → IsPastLimits rows m v
limits_later rows m w v past le = record { end = past.end; before = λ k d l. omega (arith, le, past.before k d l) }

pub rows_later : (rows : List Row) (m w v : ℕ) → IsPastRows rows m w → w ≤ v → IsPastRows rows m v
rows_later rows m w v past le = record { end = past.end; before = λ k d l. omega (arith, le, past.before k d l) }

pub later : (part : Part) (at : PairPlaces) (w v : ℕ) → ArePast part at w → w ≤ v → ArePast part at v
later part at w v past le = record {
  limit = limits_later part.problem.now.limits.rows at.limit w v past.limit le;
  now = rows_later part.problem.now.network.rows at.now w v past.now le;
  next = rows_later part.solution.now.network.rows at.next w v past.next le;
}

-- nothing is passed at first
pub nothing_passed : (part : Part) (w : ℕ) → ArePast part (record { seller = 0; buyer = 0; limit = 0; now = 0; next = 0 }) w
nothing_passed part w = record {
  limit = record { end = omega arith; before = λ k d l. absurd (omega (arith, l)) };
  now = record { end = omega arith; before = λ k d l. absurd (omega (arith, l)) };
  next = record { end = omega arith; before = λ k d l. absurd (omega (arith, l)) };
}
