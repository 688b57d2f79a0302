use Rattle.std.proofs.Common.{◌≡◌, ◌∙◌, sym, arith}
use Rattle.session.specs.Drafts.{row_of}
use Rattle.session.specs.Kept.{kept_rows}
use Rattle.session.proofs.DraftRowFacts.{earlier, earlier_found, own_sum}
use Rattle.session.proofs.draft_rows.DraftRows.sum_with.Goals as goal

pub overflow_sub-result : goal.overflow_sub-result
overflow_sub-result c =
    let key = c.args.key.now in
    let had : earlier (row_of (key, c.args.amount)) (kept_rows c.args.self.now) ≡ c.amount.result =
    earlier_found key c.args.amount c.args.self.now.rows.entries ∙ sym (c.args.self.now.found key) ∙ sym c.amount.ensures in
    omega (arith, had, own_sum (row_of (key, c.args.amount)) (kept_rows c.args.self.now), c.sum.ensures.sum, c.get.ensures.value)

pub returns : goal.returns
returns c =
    let key = c.args.key.now in
    let had : earlier (row_of (key, c.args.amount)) (kept_rows c.args.self.now) ≡ c.amount.result =
    earlier_found key c.args.amount c.args.self.now.rows.entries ∙ sym (c.args.self.now.found key) ∙ sym c.amount.ensures in
    omega (arith, had, own_sum (row_of (key, c.args.amount)) (kept_rows c.args.self.now), c.sum.ensures.sum, c.get.ensures.value)
