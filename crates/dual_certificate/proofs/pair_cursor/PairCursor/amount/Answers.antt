use Rattle.std.proofs.Common.{sym, ◌∙◌}
use Rattle.dual_certificate.proofs.PairFacts.{no_row}
use Rattle.dual_certificate.proofs.CursorFacts.{amount_of_row, amount_elsewhere}
use Rattle.dual_certificate.proofs.pair_cursor.PairCursor.amount.Goals as goal

pub returns-then-self : goal.returns-then-self
returns-then-self c =
    let pairs = c.requires.pairs in
    let row = c.requires.pair.cursors.row in
    sym (amount_of_row c.args.pairs.now.rows.now c.args.self.row.at c.args.self.place pairs.rows.rising row.first c.args.pairs.now.members no_row pairs.few pairs.rows (sym row.knows ∙ c.if-self.true) c.requires.within)

pub returns-else-self : goal.returns-else-self
returns-else-self c =
    let row = c.requires.pair.cursors.row in
    sym (amount_elsewhere c.args.pairs.now.rows.now c.args.self.row.at c.args.self.place c.requires.pairs.rows.rising row.first (λ e. c.if-self.false (row.knows ∙ e)))
