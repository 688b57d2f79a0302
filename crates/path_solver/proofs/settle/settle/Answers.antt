use Rattle.std.proofs.Common.{◌≡◌, ℕ, length, replicate, ap, ◌∙◌}
use Rattle.std.proofs.lemmas.List.{length-replicate}
use Rattle.path_solver.proofs.Phased.{phase_none, none_left, settled}
use Rattle.path_solver.proofs.settle.settle.Goals as goal

pub returns-then-is_empty-clause-settled : goal.returns-then-is_empty-clause-settled
returns-then-is_empty-clause-settled g c =
    let r = c.args.residual in
    let s = c.args.balance.surplus.items in
    let l = c.args.balance.lack.items in
    let p = c.in_ok-prices.prices.items in
    let is : c.in_ok-prices.prices.items ≡ replicate c.args.residual.members 0 = c.in_ok-prices.ensures ∙ ap (λ n. replicate {A = ℕ} n 0) c.members-members.ensures.value in
    settled c.members-members.ensures.residual c.requires.feasible
    (ap length is ∙ length-replicate {A = ℕ} c.args.residual.members 0)
    (none_left s c.senders.result c.senders.ensures (c.is_empty.ensures.none.0 c.if-is_empty.true))
    (phase_none r s l p is c.requires.lowest c.requires.apart)
