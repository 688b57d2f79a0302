-- What holds of a PROPOSE in every history.
use Rattle.std.specs.Prelude.{◌≡◌, ◌≢◌, ℕ, ◌+◌, ◌<◌, ◌≤◌, Bool, true, false, All, List, [], ◌∷◌, ◌++◌, length, Option, Some}
use Rattle.command_types.specs.declared.ask.Entry.{Entry}
use Rattle.command_types.specs.declared.answer.Answer.TheVariants.{Begun, No}
use Rattle.command_types.specs.declared.answer.Reply.{Reply}
use Rattle.command_types.specs.declared.cycle.Mode.{Mode}
use Rattle.command_types.specs.declared.figures.Figures.{Figures}
use Rattle.command_types.specs.declared.refusal.BadPost.{BadPost}
use Rattle.command_types.specs.declared.refusal.Refusal.{Refusal}
use Rattle.command_types.specs.declared.refusal.Refusal.TheVariants.{WrongCycle, CycleBroken, WrongPhase, WrongVersion, BadCertificate}
use Rattle.command_types.specs.History.{History, IsLegal, end_of}
use Rattle.command_types.specs.Session.{Standing, Mark, IsProposed, IsTalk, IsSession}
use Rattle.proposal_laws.specs.Turns.{Turn, turns, begun_in}

-- its cycle, or its version, is no longer being solved
abbrev pub is_overtaken : Refusal → Bool
is_overtaken (WrongCycle cycle) = true
is_overtaken (CycleBroken trade) = true
is_overtaken (WrongPhase phase) = true
is_overtaken (WrongVersion version) = true
is_overtaken refusal = false

-- The BEGIN of a PROPOSE was accepted, and then the PROPOSE was refused because its version is no longer being solved.
pub record IsOvertaken (begun reply : Reply) : Type 0 where
  pub number : ℕ
  pub version : ℕ
  pub accepted : begun.answer ≡ Begun number version
  pub refusal : Refusal
  pub overtaken : is_overtaken refusal ≡ true
  pub refused : reply.answer ≡ No refusal

-- After the one position and not after the other, the history has a change of another seat. A change's position is that of the history's end just after it.
pub record HasOther (h : History) (seat low high : ℕ) : Type 0 where
  pub before : List Entry
  pub other : Entry
  pub behind : List Entry
  pub split : h.entries ≡ before ++ other ∷ behind
  pub above : low < h.base.position + length (before ++ other ∷ [])
  pub within : h.base.position + length (before ++ other ∷ []) ≤ high
  pub of_other : other.seat ≢ seat

-- a PROPOSE is never refused for a bad certificate
abbrev pub ProposalsAreNeverBad : Type 0
ProposalsAreNeverBad =
    (clock : ℕ → Bool) (figures : Figures) (h : History) → IsLegal h → (seat : ℕ) (from : Mark) (by : Option (List ℕ)) (cycle : ℕ) (mode : Mode) (reply : Reply) (made : List Entry) (to : Mark) →
    IsProposed clock figures h seat from by cycle mode reply made to → (post : BadPost) → reply.answer ≡ No (BadCertificate post) → ⊥

-- a PROPOSE that was overtaken is told so at a later position than its BEGIN
abbrev pub ProposalsAreOvertaken : Type 0
ProposalsAreOvertaken =
    (clock : ℕ → Bool) (figures : Figures) (h : History) (seat : ℕ) (from : Mark) (by : Option (List ℕ)) (cycle : ℕ) (mode : Mode) (reply : Reply) (made : List Entry) (to : Mark) →
    (proposed : IsProposed clock figures h seat from by cycle mode reply made to) → IsOvertaken proposed.begun reply → proposed.begun.at < reply.at

-- a PROPOSE whose reply stands at the position before it and its own changes was not overtaken
abbrev pub ProposalsAloneStand : Type 0
ProposalsAloneStand =
    (clock : ℕ → Bool) (figures : Figures) (h : History) (seat : ℕ) (from : Mark) (by : Option (List ℕ)) (cycle : ℕ) (mode : Mode) (reply : Reply) (made : List Entry) (to : Mark) →
    (proposed : IsProposed clock figures h seat from by cycle mode reply made to) → reply.at ≡ from.position + length made → IsOvertaken proposed.begun reply → ⊥

-- the reply stands at the position before the line and the line's own changes
abbrev pub IsAlone : {clock : ℕ → Bool} {figures : Figures} {h : History} {seat : ℕ} → Turn clock figures h seat → Type 0
IsAlone turn = turn.answered.reply.at ≡ turn.from.position + length turn.made

-- the line is no PROPOSE that was overtaken
abbrev pub IsNotOvertaken : {clock : ℕ → Bool} {figures : Figures} {h : History} {seat : ℕ} → Turn clock figures h seat → Type 0
IsNotOvertaken turn = (begun : Reply) → begun_in turn ≡ Some begun → IsOvertaken begun turn.answered.reply → ⊥

-- if the line is a PROPOSE that was overtaken, another seat's change stands between the reply to its BEGIN and its own
abbrev pub IsOvertakenByOther : {clock : ℕ → Bool} {figures : Figures} {h : History} {seat : ℕ} → Turn clock figures h seat → Type 0
IsOvertakenByOther {clock} {figures} {h} {seat} turn =
    (begun : Reply) → begun_in turn ≡ Some begun → IsOvertaken begun turn.answered.reply → HasOther h seat begun.at turn.answered.reply.at

-- where a history has, from the position before a talk on, no changes but the talk's, each line is alone, and no PROPOSE is overtaken
abbrev pub ScriptsStandAlone : Type 0
ScriptsStandAlone =
    (clock : ℕ → Bool) (figures : Figures) (h : History) (seat : ℕ) (from : Standing) (lines : List (List ℕ)) (text : List ℕ) (made : List Entry) (to : Standing) →
    (talk : IsTalk clock figures h seat from lines text made to) → end_of h ≡ from.position + length made →
    All IsAlone (turns clock figures h seat from lines text made to talk) × All IsNotOvertaken (turns clock figures h seat from lines text made to talk)

-- in a session each PROPOSE that is overtaken is so by a change of another seat
abbrev pub OthersOvertake : Type 0
OthersOvertake =
    (clock : ℕ → Bool) (figures : Figures) (h : History) (seat : ℕ) (from : Standing) (lines : List (List ℕ)) (text : List ℕ) →
    (session : IsSession clock figures h seat from lines text) → All IsOvertakenByOther (turns clock figures h seat from lines text session.made session.to session.talk)
