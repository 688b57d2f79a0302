use Rattle.std.proofs.Common.{◌∙◌, sym, ap, unwrap_or}
use Rattle.std.specs.Map.{lookup}
use Rattle.session.proofs.KeyFacts.{pair_test}
use Rattle.session.proofs.draft_rows.DraftRows.amount.Goals as goal

pub returns : goal.returns
returns c =
    c.unwrap_or.ensures ∙ ap (λ o. unwrap_or o 0) (c.copied.ensures ∙ c.get.ensures.value ∙ ap (λ test. lookup (test c.args.key.now) c.args.self.now.rows.entries) pair_test)
    ∙ sym (c.args.self.now.found c.args.key.now)
