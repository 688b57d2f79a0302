use Rattle.std.proofs.Common.{sym, ◌∙◌}
use Rattle.dual_certificate.proofs.PairFacts.{no_limit}
use Rattle.dual_certificate.proofs.CursorFacts.{bounds_of_row, bounds_elsewhere}
use Rattle.dual_certificate.proofs.pair_cursor.PairCursor.bounds.Goals as goal

pub returns-then-self-clause-lower : goal.returns-then-self-clause-lower
returns-then-self-clause-lower c =
    let pairs = c.requires.pairs in
    let limit = c.requires.pair.cursors.limit in
    sym (bounds_of_row c.args.pairs.now.limits.now c.args.self.limit.at c.args.self.place pairs.limits.rising limit.first c.args.pairs.now.members no_limit pairs.few pairs.limits (sym limit.knows ∙ c.if-self.true) c.requires.within).0

pub returns-then-self-clause-upper : goal.returns-then-self-clause-upper
returns-then-self-clause-upper c =
    let pairs = c.requires.pairs in
    let limit = c.requires.pair.cursors.limit in
    sym (bounds_of_row c.args.pairs.now.limits.now c.args.self.limit.at c.args.self.place pairs.limits.rising limit.first c.args.pairs.now.members no_limit pairs.few pairs.limits (sym limit.knows ∙ c.if-self.true) c.requires.within).1

pub returns-else-self-clause-lower : goal.returns-else-self-clause-lower
returns-else-self-clause-lower c =
    let limit = c.requires.pair.cursors.limit in
    sym (bounds_elsewhere c.args.pairs.now.limits.now c.args.self.limit.at c.args.self.place c.requires.pairs.limits.rising limit.first (λ e. c.if-self.false (limit.knows ∙ e))).0

pub returns-else-self-clause-upper : goal.returns-else-self-clause-upper
returns-else-self-clause-upper c =
    let limit = c.requires.pair.cursors.limit in
    sym (bounds_elsewhere c.args.pairs.now.limits.now c.args.self.limit.at c.args.self.place c.requires.pairs.limits.rising limit.first (λ e. c.if-self.false (limit.knows ∙ e))).1
