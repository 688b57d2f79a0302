-- The members to which each seller sold something.
use Rattle.std.specs.Prelude.{◌≡◌, ℕ, ◌+◌, ◌*◌, ◌<◌, ◌≤◌, true, false, List, length, slice_index, slice_index_or}
use Rattle.member_set.specs.declared.set.MemberSet.{MemberSet}
use Rattle.member_set.specs.Members.{has, no_members}

abbrev pub buyers_at : List MemberSet → ℕ → MemberSet
buyers_at buyers i = slice_index_or buyers i no_members

-- they are members, and each to which seller i sold something is one of them
pub record HasBuyers (members : ℕ) (sums : List ℕ) (i : ℕ) (buyers : MemberSet) : Type 0 where
  pub inside : (j : ℕ) → has buyers j ≡ true → j < members
  pub sold : (j : ℕ) → j < members → 0 < slice_index sums (i * 256 + j) → has buyers j ≡ true

-- the same of each seller
pub record AreBuyers (members : ℕ) (sums : List ℕ) (buyers : List MemberSet) : Type 0 where
  pub one_each : length buyers ≡ members
  pub each : (i : ℕ) → i < members → HasBuyers members sums i (buyers_at buyers i)

-- no seller has a buyer
abbrev pub AreEmpty : List MemberSet → Type 0
AreEmpty buyers = (i j : ℕ) → i < length buyers → has (buyers_at buyers i) j ≡ false

-- the sums of the sellers from one on up to another are 0, and no sum rose
pub record IsCleared (members from to : ℕ) (old new : List ℕ) : Type 0 where
  pub same_length : length new ≡ length old
  pub zeros : (i j : ℕ) → from ≤ i → i < to → j < members → slice_index new (i * 256 + j) ≡ 0
  pub lower : (k : ℕ) → slice_index new k ≤ slice_index old k
