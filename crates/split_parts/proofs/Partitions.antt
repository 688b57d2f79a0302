-- The classes of labels are the parts of limits.
use Rattle.std.proofs.Common.{◌≡◌, ◌≢◌, ℕ, ◌<◌, List, length, get_or, ◌⊎◌, inl, inr, sym, ◌∙◌, subst, arith, ⊎_elim}
use Rattle.std.specs.Prelude.{All, AllPairs, Any, Contains}
use Rattle.std.proofs.lemmas.Bool.{cases_eq}
use Rattle.std.proofs.lemmas.List.{get_or_default}
use Rattle.network_laws.specs.Limits.{LimitsData, AreLimits}
use Rattle.split_parts.specs.Chains.{AreLinked, AreJoined}
use Rattle.split_parts.specs.Labels.{AreLabels, IsClass, AreClassesTo}
use Rattle.split_parts.specs.Parts.{SharePart, IsPartition}
use Rattle.split_parts.proofs.Joining.{joined_both, along, first_link}
use Rattle.split_parts.proofs.Labelled.{open_members}

-- both are members, with one label
record HaveOne (labels : List ℕ) (i j : ℕ) : Type 0 where
  left : i < length labels
  right : j < length labels
  same : get_or labels i 0 ≡ get_or labels j 0

linked_one : (limits : LimitsData) (labels : List ℕ) → AreLabels limits labels → (i j : ℕ) → AreLinked limits i j → HaveOne labels i j
linked_one limits labels h i j (inl o) = let a = h.all i j o in record { left = a.0; right = a.1; same = a.2 }
linked_one limits labels h i j (inr o) = let a = h.all j i o in record { left = a.1; right = a.0; same = sym a.2 }

joined_one : (limits : LimitsData) (labels : List ℕ) → AreLabels limits labels → (i j : ℕ) → AreJoined limits i j → HaveOne labels i j
joined_one limits labels h i j joined =
    along limits (HaveOne labels) (linked_one limits labels h) (λ i k j a b. record { left = a.left; right = b.right; same = a.same ∙ b.same }) i j joined.between joined.chain

linked_differ : (limits : LimitsData) → AreLimits limits → (i j : ℕ) → AreLinked limits i j → i ≢ j
linked_differ limits good i j (inl o) e = (open_members limits i j good o).2 e
linked_differ limits good i j (inr o) e = (open_members limits j i good o).2 (sym e)

class_of : (labels : List ℕ) (parts : List (List ℕ)) (k : ℕ) (part : List ℕ) → All (IsClass labels) parts → k < length parts → get_or parts k part ≡ part → IsClass labels part
class_of labels parts k part each l is = subst (IsClass labels) is (each k part l)

-- another member of a class
other_member : (part : List ℕ) (i : ℕ) → AllPairs (λ x y. x < y) part → 1 < length part → (m : ℕ) × Contains part m × (i ≢ m)
other_member part i rising two =
    let a = get_or part 0 0 in
    let b = get_or part 1 0 in
    let up : a < b = rising 0 1 0 (omega arith) two in
    ⊎_elim (λ (e : i ≡ a). (b, (1, two, get_or_default part 1 b 0 two), (λ q. omega arith)))
    (λ (n : i ≢ a). (a, (0, omega arith, get_or_default part 0 a 0 (omega arith)), n))
    (cases_eq i a)

share_joined : (limits : LimitsData) (labels : List ℕ) (parts : List (List ℕ)) → AreLabels limits labels → AreClassesTo labels (length labels) parts → (i j : ℕ) → SharePart parts i j → AreJoined limits i j
share_joined limits labels parts h c i j share =
    let part = share.1 in
    let class = class_of labels parts share.0 part c.each share.2 share.3 in
    let ci = class.class.each i share.4.0 in
    let cj = class.class.each j share.4.1 in
    by_cases class ci cj (h.sound.joined i j ci.0 cj.0 (ci.1 ∙ sym cj.1))
  where
    met : (a b : ℕ) → a ≢ b → (a ≡ b) ⊎ AreJoined limits a b → AreJoined limits a b
    met a b n (inl e) = absurd (n e)
    met a b n (inr q) = q

    by_cases : IsClass labels share.1 → (i < length labels) × (get_or labels i 0 ≡ get_or share.1 0 0) → (j < length labels) × (get_or labels j 0 ≡ get_or share.1 0 0) → (i ≡ j) ⊎ AreJoined limits i j → AreJoined limits i j
    by_cases class ci cj (inr q) = q
    by_cases class ci cj (inl e) =
        let o = other_member share.1 i class.class.rising class.two in
        let co = class.class.each o.0 o.1 in
        let there = met i o.0 o.2 (h.sound.joined i o.0 ci.0 co.0 (ci.1 ∙ sym co.1)) in
        let back = met o.0 i (λ q. o.2 (sym q)) (h.sound.joined o.0 i co.0 ci.0 (co.1 ∙ sym ci.1)) in
        subst (AreJoined limits i) e (joined_both limits i o.0 i there back)

joined_share : (limits : LimitsData) (labels : List ℕ) (parts : List (List ℕ)) → AreLimits limits → AreLabels limits labels → AreClassesTo labels (length labels) parts → (i j : ℕ) → AreJoined limits i j → SharePart parts i j
joined_share limits labels parts good h c i j joined =
    let one = joined_one limits labels h i j joined in
    let first = first_link limits i j joined.between joined.chain in
    let k = first.0 in
    let link = linked_one limits labels h i k first.1 in
    let differ = linked_differ limits good i k first.1 in
    let low = λ (m : ℕ) (l : m < length labels). h.sound.low m l in
    let found : Any (λ part. get_or part 0 0 ≡ get_or labels i 0) parts =
    ⊎_elim (λ (e : i ≡ get_or labels i 0). named_by (c.every k link.right (let q = low k link.right in let w = link.right in omega arith) (λ q. differ (e ∙ link.same ∙ sym q))) (sym link.same))
    (λ (n : i ≢ get_or labels i 0). c.every i link.left (let q = low i link.left in let w = link.left in omega arith) n)
    (cases_eq i (get_or labels i 0)) in
    let class = class_of labels parts found.0 found.1 c.each found.2 found.3 in
    (found.0, found.1, found.2, found.3, (class.class.every i one.left (sym found.4), class.class.every j one.right (sym one.same ∙ sym found.4)))
  where
    named_by : {a b : ℕ} → Any (λ part. get_or part 0 0 ≡ a) parts → a ≡ b → Any (λ part. get_or part 0 0 ≡ b) parts
    named_by any e = (any.0, any.1, any.2, any.3, any.4 ∙ e)

pub partition_of : (limits : LimitsData) (labels : List ℕ) (parts : List (List ℕ)) → AreLimits limits → AreLabels limits labels → AreClassesTo labels (length labels) parts → IsPartition limits parts
partition_of limits labels parts good h c = record {
  joined = λ i j. (share_joined limits labels parts h c i j, joined_share limits labels parts good h c i j);
  apart = λ i j d lt lj m a b.
      let low = c.order i j d lt lj in
      let x = (c.each i d (omega arith)).class.each m a in
      let y = (c.each j d lj).class.each m b in
      let p = x.1 in
      let q = y.1 in
      omega arith;
  each = λ k d l. let class = c.each k d l in record { rising = class.class.rising; filled = class.class.filled };
  order = c.order;
}

-- each member of a part is one of the limits'
pub part_within : (limits : LimitsData) (parts : List (List ℕ)) (k : ℕ) (part : List ℕ) → AreLimits limits → IsPartition limits parts → k < length parts → get_or parts k part ≡ part → All (λ m. m < limits.members) part
part_within limits parts k part good p l is q d lq =
    let m = get_or part q d in
    let here : Contains part m = (q, lq, get_or_default part q m d lq) in
    let joined = (p.joined m m).0 (k, part, l, is, (here, here)) in
    let first = first_link limits m m joined.between joined.chain in
    inside first.0 first.1
  where
    inside : {m : ℕ} (n : ℕ) → AreLinked limits m n → m < limits.members
    inside n (inl o) = (open_members limits _ n good o).0
    inside n (inr o) = (open_members limits n _ good o).1
