use Rattle.std.proofs.Common.{◌≡◌, [], ap, sym, ◌∙◌, rules}
use Rattle.journal_core.specs.Frame.{framed}
use Rattle.journal_core.proofs.FrameFacts.{first_open}
use Rattle.journal_core.proofs.JournalFacts.{none_moments}
use Rattle.journal_core.proofs.journal.Journal.append_all.Goals as goal

pub returns-then-is_empty-clause-any_moment : goal.returns-then-is_empty-clause-any_moment
returns-then-is_empty-clause-any_moment g c = λ base records rest. none_moments _ c.args.self.now.form c.args.self.now.end base records c.args.frames.now rest

pub put_behind-requires-clause-framed : goal.put_behind-requires-clause-framed
put_behind-requires-clause-framed g c =
    let some : c.args.frames.now ≡ [] → ⊥ = search rules in
    first_open c.args.frames.now c.bytes.result.now c.bytes.ensures some ∙ ap framed (sym c.log.ensures)
