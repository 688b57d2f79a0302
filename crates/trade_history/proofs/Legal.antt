-- What an accepted command says of the state.
use Rattle.std.proofs.Common.{◌≡◌, ℕ, zero, suc, Bool, true, false, cond, not, ◌&&◌, ◌==◌, List, [], ◌∷◌, Option, Some, None, slice_get, unwrap_or, IsTrue, refl, sym, ap, ◌∙◌}
use Rattle.std.proofs.lemmas.Bool.{and_parts}
use Rattle.command_types.specs.declared.ask.What.{What}
use Rattle.command_types.specs.declared.ask.What.TheVariants.{Freeze, Begin, Post, Accept, Decline}
use Rattle.command_types.specs.declared.answer.Answer.{Answer}
use Rattle.command_types.specs.declared.cycle.Mode.{Mode}
use Rattle.command_types.specs.declared.figures.State.{State}
use Rattle.command_types.specs.declared.refusal.Refusal.{Refusal}
use Rattle.network_laws.specs.Solutions.{SolutionData}
use Rattle.units_core.specs.Day.{DayParts}
use Rattle.command_types.specs.declared.refusal.Refusal.TheVariants.{NotGreeted, CycleOpen}
use Rattle.command_types.specs.Roster.{member_place, is_party}
use Rattle.command_types.specs.Cycles.{is_open, may_begin, is_solving, is_proposed}
use Rattle.command_types.specs.CycleRefusals.{is_touched_at, unless_cycle, unless_phase, unless_version, unless_touched, freeze_refusals, begin_refusals, post_refusals, accept_refusals, decline_refusals}
use Rattle.command_types.specs.Machine.{first_of, refused_or, is_refusal, refusals, command_refusals, changes, accepted}
use Rattle.command_types.specs.History.{is_recorded}

no_refusal : (c : Bool) (a : Answer) (o : Option Refusal) → (c && not (is_refusal (refused_or a o))) ≡ true → o ≡ None
no_refusal c a None e = refl
no_refusal true a (Some refusal) e = cc
no_refusal false a (Some refusal) e = cc

-- the machine accepts this change of this party, whenever it is asked
abbrev pub Accepts : State → Option (List ℕ) → What → Type 0
Accepts s by what = IsTrue (is_recorded what (refused_or (accepted s by what) (first_of (refusals s by what))))

-- no refusal of an accepted command holds
pub none-holds : (s : State) (by : Option (List ℕ)) (what : What) → Accepts s by what → first_of (refusals s by what) ≡ None
none-holds s by what is = no_refusal (changes what) (accepted s by what) (first_of (refusals s by what)) is

pub is-change : (s : State) (by : Option (List ℕ)) (what : What) → Accepts s by what → changes what ≡ true
is-change s by what is = (and_parts (changes what) (not (is_refusal (refused_or (accepted s by what) (first_of (refusals s by what))))) is).0

row_passes : (b : Bool) (refusal : Refusal) (o : Option Refusal) → cond b (Some refusal) o ≡ None → (b ≡ false) × (o ≡ None)
row_passes true refusal o e = cc
row_passes false refusal o e = (refl, e)

-- no condition of the rows holds where the first one that holds is none
tail-passes : (row : Bool × Refusal) (rows : List (Bool × Refusal)) → first_of (row ∷ rows) ≡ None → first_of rows ≡ None
tail-passes row rows e = (row_passes row.0 row.1 (first_of rows) e).1

row-passes : (rows : List (Bool × Refusal)) (k : ℕ) (row : Bool × Refusal) → slice_get rows k ≡ Some row → first_of rows ≡ None → row.0 ≡ false
row-passes [] k row is e = cc
row-passes (r ∷ rows) zero row is e = (let same : r ≡ row = cc in ap (λ v. v.0) (sym same) ∙ (row_passes r.0 r.1 (first_of rows) e).0)
row-passes (r ∷ rows) (suc k) row is e = row-passes rows k row is (tail-passes r rows e)

holds : (b : Bool) → not b ≡ false → b ≡ true
holds true e = refl
holds false e = cc

-- the refusals of a party's command stand behind that it has not greeted
abbrev pub WantsParty : What → Type 0
WantsParty what = (s : State) (by : Option (List ℕ)) → refusals s by what ≡ (not (is_party s.roster by), NotGreeted) ∷ command_refusals s (unwrap_or by []) what

command-passes : (s : State) (by : Option (List ℕ)) (what : What) → WantsParty what → first_of (refusals s by what) ≡ None → first_of (command_refusals s (unwrap_or by []) what) ≡ None
command-passes s by what wants e =
    tail-passes (not (is_party s.roster by), NotGreeted) (command_refusals s (unwrap_or by []) what) (sym (ap first_of (wants s by)) ∙ e)

pub freeze-legal : (s : State) (by : Option (List ℕ)) (day : DayParts) → first_of (refusals s by (Freeze day)) ≡ None → is_open s.cycle.phase ≡ false
freeze-legal s by day e =
    row-passes (freeze_refusals s (unwrap_or by [])) 1 (is_open s.cycle.phase, CycleOpen s.cycle.number) refl (command-passes s by (Freeze day) (λ t b. refl) e)

pub begin-legal : (s : State) (by : Option (List ℕ)) (c : ℕ) (mode : Mode) → first_of (refusals s by (Begin c mode)) ≡ None → (may_begin s.cycle.phase ≡ true) × ((c == s.cycle.number) ≡ true)
begin-legal s by c mode e =
    let rows = command-passes s by (Begin c mode) (λ t b. refl) e in (
      holds (may_begin s.cycle.phase) (row-passes (begin_refusals s (unwrap_or by []) c) 3 (unless_phase may_begin s) refl rows),
      holds (c == s.cycle.number) (row-passes (begin_refusals s (unwrap_or by []) c) 1 (unless_cycle s c) refl rows),
    )

pub post-legal : (s : State) (by : Option (List ℕ)) (c v : ℕ) (solutions : List SolutionData) → first_of (refusals s by (Post c v solutions)) ≡ None →
    (is_solving s.cycle.phase ≡ true) × ((c == s.cycle.number) ≡ true) × ((v == s.cycle.version) ≡ true)
post-legal s by c v solutions e =
    let rows = command-passes s by (Post c v solutions) (λ t b. refl) e in (
      holds (is_solving s.cycle.phase) (row-passes (post_refusals s (unwrap_or by []) c v solutions) 3 (unless_phase is_solving s) refl rows),
      holds (c == s.cycle.number) (row-passes (post_refusals s (unwrap_or by []) c v solutions) 1 (unless_cycle s c) refl rows),
      holds (v == s.cycle.version) (row-passes (post_refusals s (unwrap_or by []) c v solutions) 4 (unless_version s v) refl rows),
    )

pub accept-legal : (s : State) (by : Option (List ℕ)) (c v : ℕ) → first_of (refusals s by (Accept c v)) ≡ None →
    (is_proposed s.cycle.phase ≡ true) × ((c == s.cycle.number) ≡ true) × ((v == s.cycle.version) ≡ true) × (is_touched_at s (member_place s.roster (unwrap_or by [])) ≡ true)
accept-legal s by c v e =
    let rows = command-passes s by (Accept c v) (λ t b. refl) e in (
      holds (is_proposed s.cycle.phase) (row-passes (accept_refusals s (unwrap_or by []) c v) 2 (unless_phase is_proposed s) refl rows),
      holds (c == s.cycle.number) (row-passes (accept_refusals s (unwrap_or by []) c v) 0 (unless_cycle s c) refl rows),
      holds (v == s.cycle.version) (row-passes (accept_refusals s (unwrap_or by []) c v) 3 (unless_version s v) refl rows),
      holds (is_touched_at s (member_place s.roster (unwrap_or by []))) (row-passes (accept_refusals s (unwrap_or by []) c v) 4 (unless_touched s (unwrap_or by [])) refl rows),
    )

pub decline-legal : (s : State) (by : Option (List ℕ)) (c v : ℕ) → first_of (refusals s by (Decline c v)) ≡ None → is_proposed s.cycle.phase ≡ true
decline-legal s by c v e =
    holds (is_proposed s.cycle.phase)
    (row-passes (decline_refusals s (unwrap_or by []) c v) 2 (unless_phase is_proposed s) refl (command-passes s by (Decline c v) (λ t b. refl) e))
