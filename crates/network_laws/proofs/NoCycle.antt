-- Where no lower bound is above 0, a certified network has no cycle of sales: potentials fall along each sale.
use Rattle.std.proofs.Common.{ℕ, ◌<◌, List, [], ◌∷◌, ℤ, ◌<ℤ◌, All, arith}
use Rattle.std.proofs.lemmas.Int.{ints}
use Rattle.std.proofs.lemmas.List.Elements.{All-head, All-tail}
use Rattle.network_laws.specs.Networks.{NetworkData, at}
use Rattle.network_laws.specs.Limits.{LimitsData, IsCertified, potential}
use Rattle.network_laws.specs.Laws.{HasNoFloor, SellsAlong, NoCycleIsLeft}

falls_once : (limits : LimitsData) (old y : NetworkData) (p : List ℤ) → HasNoFloor limits → IsCertified limits old y p → (i j : ℕ) → i < old.members → j < old.members → 0 < at y i j → potential p j <ℤ potential p i
falls_once limits old y p low c i j in_i in_j s =
    let m = c.admissible.limit_members in
    omega (arith, ints, c.falling i j in_i in_j (omega (arith, low i j (omega (arith, m)) (omega (arith, m)), s)))

falls : (limits : LimitsData) (old y : NetworkData) (p : List ℤ) → HasNoFloor limits → IsCertified limits old y p → (i : ℕ) (ks : List ℕ) (j : ℕ) → i < old.members → j < old.members → All (λ k. k < old.members) ks → SellsAlong y i ks j → potential p j <ℤ potential p i
falls limits old y p low c i [] j in_i in_j in_ks s = falls_once limits old y p low c i j in_i in_j s
falls limits old y p low c i (k ∷ ks) j in_i in_j in_ks s =
    let in_k = All-head (λ k. k < old.members) k ks in_ks in
    omega (arith, ints, falls_once limits old y p low c i k in_i in_k s.0, falls limits old y p low c k ks j in_k in_j (All-tail (λ k. k < old.members) k ks in_ks) s.1)

pub no_cycle_is_left : NoCycleIsLeft
no_cycle_is_left limits old new p low c [] in_ks s = s
no_cycle_is_left limits old new p low c (i ∷ ks) in_ks s =
    let m = c.admissible.new_members in
    let in_old : All (λ k. k < old.members) (i ∷ ks) = λ k d l. omega (arith, in_ks k d l, m) in
    let in_i = All-head (λ k. k < old.members) i ks in_old in
    omega (arith, ints, falls limits old new p low c i ks i in_i in_i (All-tail (λ k. k < old.members) i ks in_old) s)
