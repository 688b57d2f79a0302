use Rattle.std.proofs.Common.{◌≡◌, ◌+◌, List, map, All, ℤ, neg_ℤ, arith, sym, ap, ◌∙◌, subst}
use Rattle.network_laws.specs.Networks.{gross}
use Rattle.network_laws.specs.Solutions.{IsPotential, Solves}
use Rattle.residual_graph.specs.Residual.{ResidualData, residual_of}
use Rattle.cycle_cancel.specs.Cancels.{IsSettled, answer_of}
use Rattle.cycle_cancel.proofs.Certify.{amount_le, in_range, few, solves, solution, same_solution}
use Rattle.cycle_cancel.proofs.solver.solution_of.Goals as goal

pub of-requires-clause-capped : goal.of-requires-clause-capped
of-requires-clause-capped c i j li lj e = omega (arith, amount_le c.args.network.now.rows i j, c.positions_of-cap.ensures.gross)

pub answer_of-requires : goal.answer_of-requires
answer_of-requires c =
    let is : c.in_ok-residual.residual ≡ residual_of (gross c.args.network.now + 1) c.args.limits.now c.args.network.now = c.in_ok-residual.ensures.value ∙ ap (λ g. residual_of (g + 1) c.args.limits.now c.args.network.now) c.positions_of-cap.ensures.gross in
    let settled : IsSettled (residual_of (gross c.args.network.now + 1) c.args.limits.now c.args.network.now) c.settle.new.residual c.in_ok-settled.settled = subst (λ (x : ResidualData). IsSettled x c.settle.new.residual c.in_ok-settled.settled) is c.in_ok-settled.ensures in
    few c.args.limits.now c.args.network.now c.settle.new.residual c.in_ok-settled.settled.labels.items c.in_ok-residual.ensures.limits c.positions_of-cap.ensures.network c.requires.same_members c.requires.within c.in_ok-settled.settled.cancelled settled.kept

pub new-requires-clause-in_range : goal.new-requires-clause-in_range
new-requires-clause-in_range c =
    let is : c.in_ok-residual.residual ≡ residual_of (gross c.args.network.now + 1) c.args.limits.now c.args.network.now = c.in_ok-residual.ensures.value ∙ ap (λ g. residual_of (g + 1) c.args.limits.now c.args.network.now) c.positions_of-cap.ensures.gross in
    let settled : IsSettled (residual_of (gross c.args.network.now + 1) c.args.limits.now c.args.network.now) c.settle.new.residual c.in_ok-settled.settled = subst (λ (x : ResidualData). IsSettled x c.settle.new.residual c.in_ok-settled.settled) is c.in_ok-settled.ensures in
    let potentials : c.in_ok-potentials.potentials.items ≡ map neg_ℤ c.in_ok-settled.settled.labels.items = c.in_ok-potentials.ensures ∙ ap (map neg_ℤ) c.deref.ensures.value in
    subst (λ (ps : List ℤ). All IsPotential ps) (sym potentials) (in_range c.settle.new.residual.members c.in_ok-settled.settled.labels.items (omega (arith, settled.kept.members, c.positions_of-cap.ensures.network.few)) settled.settled.low)

pub returns : goal.returns
returns c =
    let is : c.in_ok-residual.residual ≡ residual_of (gross c.args.network.now + 1) c.args.limits.now c.args.network.now = c.in_ok-residual.ensures.value ∙ ap (λ g. residual_of (g + 1) c.args.limits.now c.args.network.now) c.positions_of-cap.ensures.gross in
    let settled : IsSettled (residual_of (gross c.args.network.now + 1) c.args.limits.now c.args.network.now) c.settle.new.residual c.in_ok-settled.settled = subst (λ (x : ResidualData). IsSettled x c.settle.new.residual c.in_ok-settled.settled) is c.in_ok-settled.ensures in
    let potentials : c.in_ok-potentials.potentials.items ≡ map neg_ℤ c.in_ok-settled.settled.labels.items = c.in_ok-potentials.ensures ∙ ap (map neg_ℤ) c.deref.ensures.value in
    let whole : c.new.result ≡ solution (answer_of c.in_ok-settled.settled.cancelled c.settle.new.residual c.args.network.now) (map neg_ℤ c.in_ok-settled.settled.labels.items) =
    c.new.ensures ∙ same_solution c.in_ok-least.least (answer_of c.in_ok-settled.settled.cancelled c.settle.new.residual c.args.network.now) c.in_ok-potentials.potentials.items (map neg_ℤ c.in_ok-settled.settled.labels.items) c.in_ok-least.ensures potentials in
    subst (Solves c.args.limits.now c.args.network.now) (sym whole)
    (solves c.args.limits.now c.args.network.now c.settle.new.residual c.in_ok-settled.settled.labels.items c.in_ok-residual.ensures.limits c.positions_of-cap.ensures.network c.requires.same_members c.requires.within c.in_ok-settled.settled.cancelled settled.kept settled.settled)
