-- A round of labels: each label falls to the least that an arc gives from the labels before.
use Rattle.std.specs.Prelude.{◌≡◌, ℕ, ◌<◌, ◌≤◌, List, length, slice_index_or, slice_set, if◌then◌else◌, int_lt, nat_le, ◌&&◌, Option, Some, None, ℤ, pos, ◌+ℤ◌, ◌≤ℤ◌, ◌<ℤ◌, neg_ℤ}
use Rattle.residual_graph.specs.declared.flow.Flow.{Flow}
use Rattle.residual_graph.specs.Arcs.{arc_count, head, tail, room, cost}
use Rattle.cycle_cancel.specs.declared.round.Step.{Step}

abbrev pub first_step : Step
first_step = record { label = pos 0; arc = None }

abbrev pub label_at : List Step → ℕ → ℤ
label_at steps v = (slice_index_or steps v first_step).label

-- labels are between -k and 0
abbrev pub IsLevel : ℕ → List Step → Type 0
IsLevel k steps = (v : ℕ) → v < length steps → (neg_ℤ (pos k) ≤ℤ label_at steps v) × (label_at steps v ≤ℤ pos 0)

-- the label with no arc
abbrev pub fresh : Step → Step
fresh step = record { label = step.label; arc = None }

abbrev pub label_of : Step → ℤ
label_of step = step.label

-- the label that an arc gives at its head
abbrev pub given : List Flow → List Step → ℕ → ℤ
given flows before a = label_at before (tail flows a) +ℤ cost a

-- the labels after an arc that counts where its room is at least so much
abbrev pub lowered_by : ℕ → List Flow → List Step → ℕ → List Step → List Step
lowered_by least flows before a next =
    if nat_le least (room flows a) && int_lt (given flows before a) (label_at next (head flows a)) then slice_set next (head flows a) (record { label = given flows before a; arc = Some a }) else next

-- the arc lowers no label further, if its room is at least so much
abbrev pub IsRelaxed : ℕ → List Flow → List Step → List Step → ℕ → Type 0
IsRelaxed least flows before next a = least ≤ room flows a → label_at next (head flows a) ≤ℤ given flows before a

-- the arc that gave v this label, which is lower than before
pub record IsLoweredBy (least : ℕ) (flows : List Flow) (before : List Step) (v : ℕ) (label : ℤ) (a : ℕ) : Type 0 where
  pub arc : a < arc_count flows
  pub counts : least ≤ room flows a
  pub room : 0 < room flows a
  pub head : head flows a ≡ v
  pub is : label ≡ given flows before a
  pub below : label <ℤ label_at before v

abbrev pub IsCaused : ℕ → List Flow → List Step → ℕ → ℤ → Option ℕ → Type 0
IsCaused least flows before v label None = label ≡ label_at before v
IsCaused least flows before v label (Some a) = IsLoweredBy least flows before v label a

-- no label rises, none could fall further by those of the first n arcs that count, and each that fell has the arc that lowered it
pub record IsRound (least : ℕ) (flows : List Flow) (before next : List Step) (n : ℕ) : Type 0 where
  pub same_length : length next ≡ length before
  pub falls : (v : ℕ) → v < length next → label_at next v ≤ℤ label_at before v
  pub relaxed : (a : ℕ) → a < n → IsRelaxed least flows before next a
  pub caused : (v : ℕ) → v < length next → IsCaused least flows before v (label_at next v) (slice_index_or next v first_step).arc
