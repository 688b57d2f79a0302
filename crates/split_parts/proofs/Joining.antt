-- Chains of open pairs, one after another and turned round.
use Rattle.std.proofs.Common.{◌≡◌, ℕ, List, [], ◌∷◌, ◌++◌, ◌⊎◌, inl, inr, sym, subst}
use Rattle.network_laws.specs.Limits.{LimitsData}
use Rattle.split_parts.specs.Chains.{AreLinked, LinksAlong, AreJoined}

linked_back : (limits : LimitsData) (i j : ℕ) → AreLinked limits i j → AreLinked limits j i
linked_back limits i j (inl h) = inr h
linked_back limits i j (inr h) = inl h

along_both : (limits : LimitsData) (i k j : ℕ) (xs ys : List ℕ) → LinksAlong limits i xs k → LinksAlong limits k ys j → LinksAlong limits i (xs ++ k ∷ ys) j
along_both limits i k j [] ys a b = (a, b)
along_both limits i k j (x ∷ xs) ys a b = (a.0, along_both limits x k j xs ys a.1 b)

pub joined_both : (limits : LimitsData) (i k j : ℕ) → AreJoined limits i k → AreJoined limits k j → AreJoined limits i j
joined_both limits i k j a b = record { between = a.between ++ k ∷ b.between; chain = along_both limits i k j a.between b.between a.chain b.chain }

pub joined_once : (limits : LimitsData) (i j : ℕ) → AreLinked limits i j → AreJoined limits i j
joined_once limits i j h = record { between = []; chain = h }

back_along : (limits : LimitsData) (i j : ℕ) (xs : List ℕ) → LinksAlong limits i xs j → AreJoined limits j i
back_along limits i j [] h = joined_once limits j i (linked_back limits i j h)
back_along limits i j (x ∷ xs) h = joined_both limits j x i (back_along limits x j xs h.1) (joined_once limits x i (linked_back limits i x h.0))

pub joined_back : (limits : LimitsData) (i j : ℕ) → AreJoined limits i j → AreJoined limits j i
joined_back limits i j h = back_along limits i j h.between h.chain

before : (limits : LimitsData) (i x y : ℕ) → (i ≡ x) ⊎ AreJoined limits i x → AreJoined limits x y → AreJoined limits i y
before limits i x y (inl e) h = subst (λ n. AreJoined limits n y) (sym e) h
before limits i x y (inr a) h = joined_both limits i x y a h

behind : (limits : LimitsData) (x y j : ℕ) → AreJoined limits x y → (y ≡ j) ⊎ AreJoined limits y j → AreJoined limits x j
behind limits x y j h (inl e) = subst (AreJoined limits x) e h
behind limits x y j h (inr a) = joined_both limits x y j h a

pub through : (limits : LimitsData) (i x y j : ℕ) → (i ≡ x) ⊎ AreJoined limits i x → AreJoined limits x y → (y ≡ j) ⊎ AreJoined limits y j → AreJoined limits i j
through limits i x y j a h b = behind limits i y j (before limits i x y a h) b

-- what a relation that each link keeps says of a chain
pub along : (limits : LimitsData) (P : ℕ → ℕ → Type 0) → ((i j : ℕ) → AreLinked limits i j → P i j) → ((i k j : ℕ) → P i k → P k j → P i j) → (i j : ℕ) (xs : List ℕ) → LinksAlong limits i xs j → P i j
along limits P one both i j [] h = one i j h
along limits P one both i j (x ∷ xs) h = both i x j (one i x h.0) (along limits P one both x j xs h.1)

-- the first link of a chain
pub first_link : (limits : LimitsData) (i j : ℕ) (xs : List ℕ) → LinksAlong limits i xs j → (k : ℕ) × AreLinked limits i k
first_link limits i j [] h = (j, h)
first_link limits i j (x ∷ xs) h = (x, h.0)
