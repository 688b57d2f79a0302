-- What a crash at each moment of a call leaves.
use Rattle.std.specs.Prelude.{◌≡◌, ◌⊎◌, ◌≤◌, ◌<◌, ◌↔◌, ℕ, List, [], ◌∷◌, length, Option, Some, None}
use Rattle.outside.specs.Disk.{History, Moment, moment, may_leave, left_since, overwritten, IsTorn, IsSettled}

-- a crash at the one of these moments that has this number might have left this image
abbrev pub LeftByNumber : List Moment → ℕ → List ℕ → Type 0
LeftByNumber [] number image = ⊥
LeftByNumber (m ∷ earlier) number image = ((number ≡ length earlier) × may_leave m image) ⊎ LeftByNumber earlier number image

-- a crash at the moment with this number might have left this image
abbrev pub left_at : History → ℕ → List ℕ → Type 0
left_at h number image = LeftByNumber (h.now ∷ h.earlier) number image

-- From old to new, a crash at each moment, the first and the last among them, leaves what has P.
pub record EachMoment (old new : History) (P : List ℕ → Type 0) : Type 0 where
  pub later : moment old ≤ moment new
  pub each : (image : List ℕ) → left_since new (moment old) image → P image
  -- for a run that began earlier
  pub before : (since : ℕ) (image : List ℕ) → since ≤ moment old → left_since new since image → left_since old since image ⊎ P image
  -- the moments up to old's are as they were
  pub same : (number : ℕ) (image : List ℕ) → number ≤ moment old → left_at new number image ↔ left_at old number image

-- the same where the disk tells what it holds; a disk that tells nothing goes on so
abbrev pub LeavesOnly : Option History → Option History → (List ℕ → Type 0) → Type 0
LeavesOnly None after P = after ≡ None
LeavesOnly (Some old) None P = ⊥
LeavesOnly (Some old) (Some new) P = EachMoment old new P

-- a write of so many bytes at a place of the content, broken off or not, leaves this image
abbrev pub TornOf : Option History → ℕ → ℕ → List ℕ → Type 0
TornOf None place count image = Unit {0}
TornOf (Some h) place count image = IsTorn place count h.content image

-- from before to after, these bytes came to stand at a place, and all is on the disk
abbrev pub Puts : Option History → ℕ → List ℕ → Option History → Type 0
Puts None place bytes after = after ≡ None
Puts (Some h) place bytes after = (new : History) × (after ≡ Some new) × (new.content ≡ overwritten place bytes h.content) × IsSettled (Some new)

-- From old to new, until the last moment, a crash may leave what has P. It says nothing where the disk tells nothing.
abbrev pub MayLeaveYet : Option History → Option History → (List ℕ → Type 0) → Type 0
MayLeaveYet None after P = Unit {0}
MayLeaveYet (Some old) None P = Unit {0}
MayLeaveYet (Some old) (Some new) P = (number : ℕ) → moment old ≤ number → number < moment new → (image : List ℕ) × left_at new number image × P image

-- the image is the content
abbrev pub IsContent : Option History → List ℕ → Type 0
IsContent None image = Unit {0}
IsContent (Some h) image = image ≡ h.content
