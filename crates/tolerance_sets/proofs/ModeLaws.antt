-- What limits let a certified network come to, by the mode.
use Rattle.std.proofs.Common.{◌≡◌, ◌≢◌, ℕ, Bool, true, List, length, Option, None, refl, ◌∙◌}
use Rattle.std.proofs.Math.Nat.{min-zero}
use Rattle.std.proofs.lemmas.Bool.{ne_eqb}
use Rattle.network_laws.specs.Networks.{NetworkData, at}
use Rattle.network_laws.specs.Laws.{HasNoCeiling}
use Rattle.network_laws.proofs.FreeLimits.{free_limits_reach_floor}
use Rattle.network_laws.proofs.NoCycle as cycles
use Rattle.command_types.specs.declared.cycle.Mode.TheVariants.{Free}
use Rattle.command_types.specs.declared.roster.MemberRow.{MemberRow}
use Rattle.command_types.specs.declared.tolerance.ToleranceRow.{ToleranceRow}
use Rattle.command_types.specs.Tolerances.{may_grow, pair_floor, pair_ceiling, pair_lower, pair_upper, limits_of}
use Rattle.tolerance_sets.specs.Laws.{AreNoCeilings, NothingIsKept, FreeModeReachesFloor, NoCycleIsLeft}
use Rattle.tolerance_sets.proofs.PairLimits.{bounds_of_pair}

none_kept : (now floor held : ℕ) → floor ≡ 0 → held ≡ 0 → pair_lower now floor held ≡ 0
none_kept now floor held e e' = rw (e, e') (min-zero now)

pub nothing_is_kept : NothingIsKept
nothing_is_kept mode members settings product network held no_floor none_held i j in_i in_j =
    (bounds_of_pair mode members settings product network held i j in_i in_j).0 ∙ none_kept (at network i j) (pair_floor settings product i j) (at held i j) (no_floor i j in_i in_j) (none_held i j in_i in_j)

-- in free mode each pair of different members may grow
all_grow : (members : List MemberRow) (i j : ℕ) → i ≢ j → may_grow Free members i j ≡ true
all_grow members i j ne = rw (ne_eqb i j ne) refl

no_bound : (grows : Bool) (now : ℕ) (ceiling : Option ℕ) → grows ≡ true → ceiling ≡ None → pair_upper grows now ceiling ≡ None
no_bound grows now ceiling e e' = rw (e, e') refl

-- so where none set a ceiling, no pair has an upper bound
nothing_above : (members : List MemberRow) (settings : List ToleranceRow) (product : ℕ) (network held : NetworkData) → AreNoCeilings (length members) settings product → HasNoCeiling (limits_of Free members settings product network held)
nothing_above members settings product network held no_ceiling i j in_i in_j ne =
    (bounds_of_pair Free members settings product network held i j in_i in_j).1 ∙ no_bound (may_grow Free members i j) (at network i j) (pair_ceiling settings product i j) (all_grow members i j ne) (no_ceiling i j in_i in_j)

pub free_mode_reaches_floor : FreeModeReachesFloor
free_mode_reaches_floor members settings product network held new p in_range no_floor no_ceiling none_held certified =
    free_limits_reach_floor (limits_of Free members settings product network held) network new p in_range (nothing_is_kept Free members settings product network held no_floor none_held) (nothing_above members settings product network held no_ceiling) certified

pub no_cycle_is_left : NoCycleIsLeft
no_cycle_is_left mode members settings product network held new p =
    cycles.no_cycle_is_left (limits_of mode members settings product network held) network new p
