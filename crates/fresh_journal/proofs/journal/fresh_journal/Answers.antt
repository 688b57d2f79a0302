use Rattle.std.proofs.Common.{◌≡◌, ◌+◌, ◌<◌, ◌∙◌, List, ℕ, length, ap, subst, sym, arith}
use Rattle.journal_core.specs.Holds.{limit}
use Rattle.recovery.specs.StandsFor.{StandsFor}
use Rattle.fresh_journal.specs.Journals.{begun_history, journal_of}
use Rattle.fresh_journal.proofs.Begun.{begun_stands}
use Rattle.fresh_journal.proofs.journal.fresh_journal.Goals as goal

pub returns-clause-stands : goal.returns-clause-stands
returns-clause-stands c roster in_roster =
    let written : List ℕ = c.in_ok-written.written.items in
    let fits : 29 + length written < limit = omega arith in
    let same : c.in_ok-bytes.bytes.items ≡ journal_of written = c.in_ok-bytes.ensures ∙ ap journal_of c.deref.ensures.value in
    subst (λ (file : List ℕ). StandsFor file (begun_history roster c.args.base.now)) (sym same)
    (begun_stands c.args.base.now written c.in_ok-written.ensures.exact c.in_ok-written.ensures.spells.fields fits roster in_roster)
