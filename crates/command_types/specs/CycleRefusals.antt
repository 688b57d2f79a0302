-- The refusals of the commands of a cycle, each with its condition, in their order.
use Rattle.std.specs.Str.{bytes_eq}
use Rattle.std.specs.Prelude.{ℕ, ◌==◌, ◌||◌, not, nat_lt, Bool, true, false, is_none, List, [], ◌∷◌, length, Option, Some, None, unwrap_or}
use Rattle.std.specs.List.{list_any}
use Rattle.network_laws.specs.Solutions.{SolutionData}
use Rattle.command_types.specs.declared.cycle.Phase.{Phase}
use Rattle.command_types.specs.declared.figures.State.{State}
use Rattle.command_types.specs.declared.refusal.BadPost.{BadPost}
use Rattle.command_types.specs.declared.refusal.BadPost.TheVariants.{Shape}
use Rattle.command_types.specs.declared.refusal.Refusal.{Refusal}
use Rattle.command_types.specs.declared.refusal.Refusal.TheVariants.{NotOperator, UnknownMember, UnknownProduct, OwnTrade, NotParty, FloorOverCeiling, CycleOpen, WrongCycle, CycleBroken, WrongPhase, WrongVersion, NotTouched, AlreadyAccepted, BadCertificate, GrossOver, DraftFull}
use Rattle.command_types.specs.Roster.{member_place, product_place, is_operator}
use Rattle.command_types.specs.Plans.{is_touched}
use Rattle.command_types.specs.Cycles.{is_open, is_broken, is_solving, is_proposed, may_begin, has_limits, bad_post}
use Rattle.units_core.specs.declared.limits.TheConstants.{MOST_DRAFT, MOST_GROSS}

-- the party is not the operator
abbrev pub unless_operator : State → List ℕ → Bool × Refusal
unless_operator s by = (not (is_operator s.roster by), NotOperator)

-- the name is no member's
abbrev pub unless_member : State → List ℕ → Bool × Refusal
unless_member s name = (is_none (member_place s.roster name), UnknownMember)

-- one of the two names is no member's
abbrev pub unless_members : State → List ℕ → List ℕ → Bool × Refusal
unless_members s a b = (is_none (member_place s.roster a) || is_none (member_place s.roster b), UnknownMember)

-- the name is no product's
abbrev pub unless_product : State → List ℕ → Bool × Refusal
unless_product s name = (is_none (product_place s.roster name), UnknownProduct)

-- the number is not that of the last cycle, which is told
abbrev pub unless_cycle : State → ℕ → Bool × Refusal
unless_cycle s cycle = (not (cycle == s.cycle.number), WrongCycle s.cycle.number)

-- the cycle is broken, by the trade that is told
abbrev pub if_broken : State → Bool × Refusal
if_broken s = (is_broken s.cycle.phase, CycleBroken (unwrap_or s.cycle.broken_by 0))

-- the cycle is in a phase for which the test does not hold, and which is told
abbrev pub unless_phase : (Phase → Bool) → State → Bool × Refusal
unless_phase test s = (not (test s.cycle.phase), WrongPhase s.cycle.phase)

-- the number is not that of the last version, which is told
abbrev pub unless_version : State → ℕ → Bool × Refusal
unless_version s version = (not (version == s.cycle.version), WrongVersion s.cycle.version)

-- the proposed plan touches the member at this place; the operator has no place
abbrev pub is_touched_at : State → Option ℕ → Bool
is_touched_at s None = false
is_touched_at s (Some member) = is_touched s.trades s.cycle.plan member

-- the member is among those that have voted
abbrev pub has_voted : List ℕ → ℕ → Bool
has_voted votes member = list_any (λ voter. voter == member) votes

-- the member at this place has voted; the operator has no place
abbrev pub has_voted_at : State → Option ℕ → Bool
has_voted_at s None = false
has_voted_at s (Some member) = has_voted s.cycle.votes member

-- the proposed plan does not touch the party
abbrev pub unless_touched : State → List ℕ → Bool × Refusal
unless_touched s by = (not (is_touched_at s (member_place s.roster by)), NotTouched)

-- the party has voted already
abbrev pub if_voted : State → List ℕ → Bool × Refusal
if_voted s by = (has_voted_at s (member_place s.roster by), AlreadyAccepted)

-- a ceiling that is given and is below the floor
abbrev pub is_crossed : ℕ → Option ℕ → Bool
is_crossed floor None = false
is_crossed floor (Some ceiling) = nat_lt ceiling floor

-- the refusals of a TOL: it names another member and a product, is a member's, and its floor is not over its ceiling
abbrev pub tol_refusals : State → List ℕ → List ℕ → List ℕ → ℕ → Option ℕ → List (Bool × Refusal)
tol_refusals s by other product floor ceiling =
    unless_member s other
    ∷ unless_product s product
    ∷ (bytes_eq other by, OwnTrade)
    ∷ (is_operator s.roster by, NotParty)
    ∷ (is_crossed floor ceiling, FloorOverCeiling)
    ∷ []

-- the refusal of a STATEMENT: the operator has no trades
abbrev pub statement_refusals : State → List ℕ → List (Bool × Refusal)
statement_refusals s by = (is_operator s.roster by, NotParty) ∷ []

-- the refusals of a FREEZE: only the operator's is taken, and only where no cycle is open
abbrev pub freeze_refusals : State → List ℕ → List (Bool × Refusal)
freeze_refusals s by = unless_operator s by ∷ (is_open s.cycle.phase, CycleOpen s.cycle.number) ∷ []

-- the refusals of a BEGIN: only the operator's is taken, of the open cycle, while it is frozen or solving
abbrev pub begin_refusals : State → List ℕ → ℕ → List (Bool × Refusal)
begin_refusals s by cycle = unless_operator s by ∷ unless_cycle s cycle ∷ if_broken s ∷ unless_phase may_begin s ∷ []

-- the refusals of asking for a version's problems: only the operator may, of the open cycle and the last version, while it is solving
abbrev pub fetch_refusals : State → List ℕ → ℕ → ℕ → List (Bool × Refusal)
fetch_refusals s by cycle version =
    unless_operator s by ∷ unless_cycle s cycle ∷ if_broken s ∷ unless_phase is_solving s ∷ unless_version s version ∷ []

-- the refusals of a LIMITS: only the operator's is taken, of a product, while the limits of a version stand
abbrev pub limits_refusals : State → List ℕ → List ℕ → List (Bool × Refusal)
limits_refusals s by product = unless_operator s by ∷ unless_product s product ∷ if_broken s ∷ unless_phase has_limits s ∷ []

-- a draft's rows and potentials are at most 100,000
abbrev pub if_draft_full : ℕ → Bool × Refusal
if_draft_full size = (nat_lt MOST_DRAFT size, DraftFull)

-- the refusals of a ROW of the operator's draft: two different members and a product, a sum within the largest gross, and a draft that is not full
abbrev pub row_refusals : State → List ℕ → List ℕ → List ℕ → List ℕ → ℕ → ℕ → List (Bool × Refusal)
row_refusals s by product seller buyer size sum =
    unless_operator s by
    ∷ unless_members s seller buyer
    ∷ unless_product s product
    ∷ (bytes_eq seller buyer, OwnTrade)
    ∷ (nat_lt MOST_GROSS sum, GrossOver)
    ∷ if_draft_full size
    ∷ []

-- the refusals of a POT of the operator's draft: a member and a product, and a draft that is not full
abbrev pub pot_refusals : State → List ℕ → List ℕ → List ℕ → ℕ → List (Bool × Refusal)
pot_refusals s by product member size = unless_operator s by ∷ unless_member s member ∷ unless_product s product ∷ if_draft_full size ∷ []

-- something is wrong with a posting, which is told; where nothing is, the refusal beside the test is never given
abbrev pub if_bad_post : Option BadPost → Bool × Refusal
if_bad_post None = (false, BadCertificate Shape)
if_bad_post (Some post) = (true, BadCertificate post)

-- the refusals of a POST: only the operator's is taken, of the open cycle and the last version, while it is solving, and with solutions that are certified
abbrev pub post_refusals : State → List ℕ → ℕ → ℕ → List SolutionData → List (Bool × Refusal)
post_refusals s by cycle version solutions =
    unless_operator s by
    ∷ unless_cycle s cycle
    ∷ if_broken s
    ∷ unless_phase is_solving s
    ∷ unless_version s version
    ∷ if_bad_post (bad_post (length s.roster.members) s.cycle.begun solutions)
    ∷ []

-- the refusal of a NEXT: only the operator's is taken
abbrev pub next_refusals : State → List ℕ → List (Bool × Refusal)
next_refusals s by = unless_operator s by ∷ []

-- the refusals of a PLAN: it is of the open cycle, while a plan is proposed
abbrev pub plan_refusals : State → ℕ → List (Bool × Refusal)
plan_refusals s cycle = unless_cycle s cycle ∷ if_broken s ∷ unless_phase is_proposed s ∷ []

-- the refusals of a PROOF: only a member's is taken, of the open cycle, while a plan is proposed
abbrev pub proof_refusals : State → List ℕ → ℕ → List (Bool × Refusal)
proof_refusals s by cycle = (is_operator s.roster by, NotParty) ∷ unless_cycle s cycle ∷ if_broken s ∷ unless_phase is_proposed s ∷ []

-- the refusals of an ACCEPT: it is of the proposed plan's cycle and version, by a member that the plan touches and that has not voted
abbrev pub accept_refusals : State → List ℕ → ℕ → ℕ → List (Bool × Refusal)
accept_refusals s by cycle version =
    unless_cycle s cycle ∷ if_broken s ∷ unless_phase is_proposed s ∷ unless_version s version ∷ unless_touched s by ∷ if_voted s by ∷ []

-- the refusals of a DECLINE: it is of the proposed plan's cycle and version, by a member that the plan touches
abbrev pub decline_refusals : State → List ℕ → ℕ → ℕ → List (Bool × Refusal)
decline_refusals s by cycle version =
    unless_cycle s cycle ∷ if_broken s ∷ unless_phase is_proposed s ∷ unless_version s version ∷ unless_touched s by ∷ []

-- the refusals of a CANCEL: only the operator's is taken, of the open cycle
abbrev pub cancel_refusals : State → List ℕ → ℕ → List (Bool × Refusal)
cancel_refusals s by cycle = unless_operator s by ∷ unless_cycle s cycle ∷ unless_phase is_open s ∷ []
