use Rattle.std.proofs.Common.{◌≡◌, ◌≤◌, ◌∙◌, sym, ap, subst, unwrap_or, ℕ}
use Rattle.std.specs.Map.{lookup}
use Rattle.command_types.specs.Session.{draft_sum}
use Rattle.session.specs.Kept.{kept_rows}
use Rattle.units_core.proofs.NameTests.{same_test}
use Rattle.session.proofs.draft_rows.DraftRows.sum.Goals as goal

pub returns : goal.returns
returns c =
    let is : c.unwrap_or.result ≡ draft_sum c.args.product.now (kept_rows c.args.self.now) =
    c.unwrap_or.ensures ∙ ap (λ o. unwrap_or o 0) (c.copied.ensures ∙ c.get.ensures.value ∙ ap (λ test. lookup test c.args.self.now.sums.entries) (same_test c.args.product.now))
    ∙ sym (c.args.self.now.summed c.args.product.now) in
    let P : ℕ → Type 0 = λ n. n ≤ 1000000000000000000 in
    record { sum = is; within = subst P (sym is) (c.args.self.now.within c.args.product.now) }
