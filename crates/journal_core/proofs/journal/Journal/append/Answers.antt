use Rattle.std.proofs.Common.{List, ℕ, ◌∷◌, ap, sym, ◌∙◌}
use Rattle.journal_core.specs.Frame.{framed}
use Rattle.journal_core.proofs.FrameFacts.{staged_is}
use Rattle.journal_core.proofs.journal.Journal.append.Goals as goal

pub put_behind-requires-clause-framed : goal.put_behind-requires-clause-framed
put_behind-requires-clause-framed g c = ap (λ (l : List ℕ). 1 ∷ l) c.behind_gate.ensures ∙ staged_is c.args.frame.now ∙ ap framed (sym c.one.ensures)
