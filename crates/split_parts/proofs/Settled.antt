-- Members in no part have any potential.
use Rattle.std.proofs.Common.{◌≡◌, ◌≢◌, ℕ, zero, suc, ◌<◌, ◌≤◌, ◌+◌, List, [], ◌∷◌, length, get_or, set, Some, None, ℤ, pos, ◌≤ℤ◌, ◌⊎◌, inl, inr, sym, ap, ◌∙◌, subst, arith, ⊎_elim}
use Rattle.std.specs.Prelude.{All, Contains}
use Rattle.std.proofs.lemmas.Bool.{cases_eq, cases_lt}
use Rattle.std.proofs.lemmas.Int.{ints}
use Rattle.std.proofs.lemmas.List.{get_or-set_same, get_or-set_other}
use Rattle.std.proofs.lemmas.List.Elements.{All-set}
use Rattle.network_laws.specs.Networks.{NetworkData, at, gross}
use Rattle.network_laws.specs.Limits.{LimitsData, IsBelow, IsWithin, IsAdmissible, IsCertified, lower, upper, reduced, potential}
use Rattle.network_laws.specs.Solutions.{IsPotential}
use Rattle.split_parts.specs.Settled.{kept_or_zero, SettledIsSolution}
use Rattle.split_parts.specs.Own.{number_in}
use Rattle.split_parts.specs.Parts.{SharePart, IsPartition, IsRisingPart}
use Rattle.split_parts.proofs.Joining.{joined_once}
use Rattle.split_parts.proofs.Labelled.{upper_cases}
use Rattle.split_parts.proofs.Numbers.{option_cases, number_at, number_some, contains_number}

-- both have a number in the part
record HaveNumbers (part : List ℕ) (i j : ℕ) : Type 0 where
  a : ℕ
  b : ℕ
  ia : number_in part i ≡ Some a
  jb : number_in part j ≡ Some b

pub only_rising : (limits : LimitsData) (part : List ℕ) → IsPartition limits (part ∷ []) → IsRisingPart part
only_rising limits part p = (p.each 0 part (omega arith)).rising

-- members that share the only part have numbers there
only_share : (part : List ℕ) (i j : ℕ) → IsRisingPart part → SharePart (part ∷ []) i j → HaveNumbers part i j
only_share part i j rising h = find h.0 h.1 h.2 h.3 h.4
  where
    find : (k : ℕ) (p : List ℕ) → k < length (part ∷ []) → get_or (part ∷ []) k p ≡ p → Contains p i × Contains p j → HaveNumbers part i j
    find zero p l is c =
        let x = contains_number part i rising (subst (λ q. Contains q i) (sym is) c.0) in
        let z = contains_number part j rising (subst (λ q. Contains q j) (sym is) c.1) in
        record { a = x.0; b = z.0; ia = x.1; jb = z.1 }
    find (suc k) p l is c = absurd (omega arith)

-- a pair is closed, or both of its members have numbers in the only part
only_cases : (limits : LimitsData) (part : List ℕ) → IsPartition limits (part ∷ []) → (i j : ℕ) → (upper limits i j ≡ Some 0) ⊎ HaveNumbers part i j
only_cases limits part p i j =
    ⊎_elim (λ (e : upper limits i j ≡ Some 0). inl e)
    (λ (n : upper limits i j ≢ Some 0). inr (only_share part i j (only_rising limits part p) ((p.joined i j).1 (joined_once limits i j (inl n)))))
    (upper_cases (upper limits i j))

pub settled_solves : SettledIsSolution
settled_solves limits y part s settled alone solves is =
    record {
      certified = record {
        admissible = subst (IsAdmissible limits y) (sym is.network) c.admissible;
        growing = λ i j li lj below. grows i j li lj (subst (λ (n : NetworkData). IsBelow (at n i j) (upper limits i j)) is.network below) (only_cases limits part alone i j);
        falling = λ i j li lj above. falls i j li lj (subst (λ (n : NetworkData). lower limits i j < at n i j) is.network above) (only_cases limits part alone i j);
      };
      same_gross = subst (λ (n : NetworkData). gross n ≡ gross y → n ≡ y) (sym is.network) solves.same_gross;
    }
  where
    c : IsCertified limits y s.network s.potentials
    c = solves.certified

    own : (i q : ℕ) → i < y.members → number_in part i ≡ Some q → potential settled.potentials i ≡ potential s.potentials i
    own i q l e = is.potentials i (subst (λ n. i < n) (sym c.admissible.new_members) l) ∙ ap (λ o. kept_or_zero o (potential s.potentials i)) e

    same : (i j : ℕ) → i < y.members → j < y.members → HaveNumbers part i j → reduced settled.potentials i j ≡ reduced s.potentials i j
    same i j li lj h = omega (arith, ints, own i h.a li h.ia, own j h.b lj h.jb)

    grows : (i j : ℕ) → i < y.members → j < y.members → IsBelow (at s.network i j) (upper limits i j) → (upper limits i j ≡ Some 0) ⊎ HaveNumbers part i j → pos 0 ≤ℤ reduced settled.potentials i j
    grows i j li lj below (inl shut) = absurd (let h : at s.network i j < 0 = subst (IsBelow (at s.network i j)) shut below in omega arith)
    grows i j li lj below (inr h) = subst (λ r. pos 0 ≤ℤ r) (sym (same i j li lj h)) (c.growing i j li lj below)

    falls : (i j : ℕ) → i < y.members → j < y.members → lower limits i j < at s.network i j → (upper limits i j ≡ Some 0) ⊎ HaveNumbers part i j → reduced settled.potentials i j ≤ℤ pos 0
    falls i j li lj above (inl shut) =
        let size = c.admissible.new_members in
        let most : at s.network i j ≤ 0 = subst (IsWithin (at s.network i j)) shut (c.admissible.within.below i j (omega arith) (omega arith)) in
        absurd (omega arith)
    falls i j li lj above (inr h) = subst (λ r. r ≤ℤ pos 0) (sym (same i j li lj h)) (c.falling i j li lj above)

-- the members below this one are settled: so many of them are in the part
pub record AreCleared (part : List ℕ) (passed member : ℕ) (old new : List ℤ) : Type 0 where
  pub few : passed ≤ length part
  pub behind : (q : ℕ) → q < passed → get_or part q 0 < member
  pub ahead : (q : ℕ) → passed ≤ q → q < length part → member ≤ get_or part q 0
  pub done : (m : ℕ) → m < member → potential new m ≡ kept_or_zero (number_in part m) (potential old m)
  pub rest : (m : ℕ) → member ≤ m → potential new m ≡ potential old m

-- the next one is in the part
pub cleared_kept : (part : List ℕ) (passed member : ℕ) (old new : List ℤ) → IsRisingPart part → passed < length part → get_or part passed 0 ≡ member → AreCleared part passed member old new → AreCleared part (passed + 1) (member + 1) old new
cleared_kept part passed member old new rising l is c = record {
  few = omega arith;
  behind = λ q lq. ⊎_elim (λ (e : q ≡ passed). let same = ap (λ n. get_or part n 0) e in omega arith) (λ (n : q ≢ passed). let b = c.behind q (omega arith) in omega arith) (cases_eq q passed);
  ahead = λ q a lq. let up = rising passed q 0 (omega arith) lq in omega arith;
  done = λ m lm. ⊎_elim
      (λ (e : m ≡ member). c.rest m (omega arith) ∙ sym (ap (λ o. kept_or_zero o (potential old m)) (ap (number_in part) (e ∙ sym is) ∙ number_at part passed rising l)))
      (λ (n : m ≢ member). c.done m (omega arith))
      (cases_eq m member);
  rest = λ m lm. c.rest m (omega arith);
}

-- the next one is not
pub cleared_zero : (part : List ℕ) (passed member : ℕ) (old new : List ℤ) → member < length new → (passed < length part → get_or part passed 0 ≢ member) → IsRisingPart part → AreCleared part passed member old new → AreCleared part passed (member + 1) old (set new member (pos 0))
cleared_zero part passed member old new within not rising c = record {
  few = c.few;
  behind = λ q lq. let b = c.behind q lq in omega arith;
  ahead = λ q a lq. past q a lq (cases_eq q passed);
  done = λ m lm. ⊎_elim
      (λ (e : m ≡ member). ap (potential (set new member (pos 0))) e ∙ get_or-set_same new member (pos 0) (pos 0) within ∙ sym (ap (λ o. kept_or_zero o (potential old m)) (ap (number_in part) e ∙ out (option_cases (number_in part member)))))
      (λ (n : m ≢ member). others m n ∙ c.done m (omega arith))
      (cases_eq m member);
  rest = λ m lm. others m (λ e. omega arith) ∙ c.rest m (omega arith);
}
  where
    others : (m : ℕ) → m ≢ member → potential (set new member (pos 0)) m ≡ potential new m
    others m n = get_or-set_other new member m (pos 0) (pos 0) n

    past : (q : ℕ) → passed ≤ q → q < length part → (q ≡ passed) ⊎ (q ≢ passed) → member + 1 ≤ get_or part q 0
    past q a lq (inl e) =
        let at = c.ahead q a lq in
        let same = ap (λ n. get_or part n 0) e in
        let ne = not (omega arith) in
        ⊎_elim (λ (is : get_or part q 0 ≡ member). absurd (ne (sym same ∙ is))) (λ (n : get_or part q 0 ≢ member). omega arith) (cases_eq (get_or part q 0) member)
    past q a lq (inr n) = let first = c.ahead passed (omega arith) (omega arith) in let up = rising passed q 0 (omega arith) lq in omega arith

    out : (number_in part member ≡ None) ⊎ ((q : ℕ) × (number_in part member ≡ Some q)) → number_in part member ≡ None
    out (inl e) = e
    out (inr q) = let h = number_some part member q.0 q.1 in absurd (never q.0 h.0 h.1)
      where
        never : (q : ℕ) → q < length part → get_or part q 0 ≡ member → ⊥
        never q l is = ⊎_elim
            (λ (lt : q < passed). let b = c.behind q lt in omega arith)
            (λ (le : passed ≤ q). let p = past q le l (cases_eq q passed) in omega arith)
            (cases_lt q passed)

-- with a 0 more, all are potentials still
pub zeroed_in_range : (potentials : List ℤ) (member : ℕ) → All IsPotential potentials → All IsPotential (set potentials member (pos 0))
zeroed_in_range potentials member all = All-set IsPotential potentials member (pos 0) (record { least = omega (arith, ints); most = omega (arith, ints) }) all
