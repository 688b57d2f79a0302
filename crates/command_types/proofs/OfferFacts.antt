-- Answers that are the machine's, and where the last version began.
use Rattle.std.proofs.Common.{◌≡◌, ℕ, ◌+◌, Bool, true, List, [], ◌∷◌, ◌++◌, length, refl, ap, ◌∙◌, arith}
use Rattle.std.specs.Prelude.{if◌then◌else◌}
use Rattle.std.proofs.lemmas.Bool.{false≢true}
use Rattle.command_types.specs.declared.ask.Entry.{Entry}
use Rattle.command_types.specs.declared.ask.What.{What}
use Rattle.command_types.specs.declared.ask.What.TheVariants.{Next, Proof}
use Rattle.command_types.specs.declared.answer.Answer.{Answer}
use Rattle.command_types.specs.declared.figures.Start.{Start}
use Rattle.command_types.specs.Machine.{changes}
use Rattle.command_types.specs.Offers.{is_begin, begin_from, last_begin, with_entries}

-- what is answered to a change is the machine's
pub changes_stay : (base : Start) (entries : List Entry) (what : What) (answer : Answer) → changes what ≡ true → with_entries base entries what answer ≡ answer
changes_stay base entries (Next position) answer is = absurd (false≢true is)
changes_stay base entries (Proof cycle) answer is = absurd (false≢true is)
changes_stay base entries what answer is = refl

begin_on : (found place : ℕ) (entries : List Entry) (entry : Entry) →
    begin_from found place (entries ++ entry ∷ []) ≡ (if is_begin entry.ask.what then place + length entries + 1 else begin_from found place entries)
begin_on found place [] entry = ap (λ (n : ℕ). if is_begin entry.ask.what then n else found) (omega arith)
begin_on found place (first ∷ entries) entry =
    begin_on (if is_begin first.ask.what then place + 1 else found) (place + 1) entries entry
    ∙ ap (λ (n : ℕ). if is_begin entry.ask.what then n else begin_from found place (first ∷ entries)) (omega arith)

-- one more change is the last that begins a version, or leaves it
pub last_begin_on : (entries : List Entry) (entry : Entry) → last_begin (entries ++ entry ∷ []) ≡ (if is_begin entry.ask.what then length entries + 1 else last_begin entries)
last_begin_on entries entry =
    let place : 0 + length entries + 1 ≡ length entries + 1 = omega arith in
    begin_on 0 0 entries entry ∙ ap (λ (n : ℕ). if is_begin entry.ask.what then n else last_begin entries) place
