use Rattle.std.proofs.Common.{◌≡◌, ℕ, ◌+◌, ◌<◌, ◌≤◌, List, All, ℤ, get_or, sym, ap, ◌∙◌, subst, arith}
use Rattle.network_laws.specs.Limits.{LimitsData}
use Rattle.network_laws.specs.Networks.{NetworkData, gross, total}
use Rattle.network_laws.specs.Solutions.{SolutionData, IsPotential, Solves}
use Rattle.residual_graph.specs.Residual.{ResidualData, residual_of, network_of, flow_rows}
use Rattle.path_solver.specs.Prices.{potentials}
use Rattle.path_solver.specs.Phases.{IsPricedAnew}
use Rattle.path_solver.proofs.Certifying.{amount_le, in_range, few_rows, start_gross, solves_new, solves_old}
use Rattle.path_solver.proofs.solver.solution_of.Goals as goal

abbrev solution : NetworkData → List ℤ → SolutionData
solution y p = record { network = y; potentials = p }

same_solution : (y z : NetworkData) (p q : List ℤ) → y ≡ z → p ≡ q → solution y p ≡ solution z q
same_solution y z p q e f = ap (λ (x : NetworkData). solution x p) e ∙ ap (solution z) f

pub of-requires-clause-capped : goal.of-requires-clause-capped
of-requires-clause-capped g c i j li lj e = omega (arith, amount_le c.args.network.now.rows i j, c.gross-before.ensures)

pub find_prices-requires : goal.find_prices-requires
find_prices-requires g c =
    let is : c.in_ok-residual.residual ≡ residual_of (gross c.args.network.now + 1) c.args.limits.now c.args.network.now = c.in_ok-residual.ensures.value ∙ ap (λ g. residual_of (g + 1) c.args.limits.now c.args.network.now) c.gross-before.ensures in
    let same = ap (λ (r : ResidualData). total (flow_rows r.flows)) is in
    omega (arith, same, start_gross c.args.limits.now c.args.network.now c.in_ok-residual.ensures.limits c.members-members.ensures.network c.requires.same_members c.requires.within, c.members-members.ensures.network.rows.within)

-- what is found, for the residual graph of the network
found_anew : (limits : LimitsData) (network : NetworkData) (before : ℕ) {r new : ResidualData} {p : List ℕ} → r ≡ residual_of (before + 1) limits network → before ≡ gross network → IsPricedAnew r new p → IsPricedAnew (residual_of (gross network + 1) limits network) new p
found_anew limits network before {r} {new} {p} is same h =
    subst (λ (x : ResidualData). IsPricedAnew x new p) (is ∙ ap (λ g. residual_of (g + 1) limits network) same) h

pub network-requires : goal.network-requires
network-requires g c =
    let found = found_anew c.args.limits.now c.args.network.now c.gross-before.result c.in_ok-residual.ensures.value c.gross-before.ensures c.in_ok-settled.ensures.priced in
    few_rows c.args.limits.now c.args.network.now c.in_ok-settled.settled.residual c.in_ok-settled.settled.prices.items c.in_ok-residual.ensures.limits c.members-members.ensures.network c.requires.same_members c.requires.within found

range_at : (n : ℕ) (xs : List ℤ) (ps qs : List ℕ) → n ≤ 256 → xs ≡ potentials qs → qs ≡ ps → ((v : ℕ) → get_or ps v 0 ≤ n) → All IsPotential xs
range_at n xs ps qs few e f most = subst (λ (ys : List ℤ). All IsPotential ys) (sym (e ∙ ap potentials f)) (in_range n ps few most)

pub new-requires-clause-in_range : goal.new-requires-clause-in_range
new-requires-clause-in_range g c =
    let members = ap (λ (r : ResidualData). r.members) c.in_ok-residual.ensures.value in
    range_at c.in_ok-residual.residual.members c.in_ok-potentials.potentials.items c.in_ok-settled.settled.prices.items c.deref.result.now (omega (arith, members, c.members-members.ensures.network.few)) c.in_ok-potentials.ensures c.deref.ensures.value c.in_ok-settled.ensures.priced.most

pub returns-then-gross-before-clause-solves : goal.returns-then-gross-before-clause-solves
returns-then-gross-before-clause-solves g c =
    let found = found_anew c.args.limits.now c.args.network.now c.gross-before.result c.in_ok-residual.ensures.value c.gross-before.ensures c.in_ok-settled.ensures.priced in
    let p : c.in_ok-potentials.potentials.items ≡ potentials c.in_ok-settled.settled.prices.items = c.in_ok-potentials.ensures ∙ ap potentials c.deref.ensures.value in
    let y : c.in_ok-found.found ≡ network_of c.in_ok-settled.settled.residual = c.in_ok-found.ensures in
    let less : gross (network_of c.in_ok-settled.settled.residual) < gross c.args.network.now = omega (arith, c.if-gross-before.true, c.gross.ensures, c.gross-before.ensures, ap gross y) in
    subst (Solves c.args.limits.now c.args.network.now) (sym (c.new.ensures ∙ same_solution c.in_ok-found.found (network_of c.in_ok-settled.settled.residual) c.in_ok-potentials.potentials.items (potentials c.in_ok-settled.settled.prices.items) y p))
    (solves_new c.args.limits.now c.args.network.now c.in_ok-settled.settled.residual c.in_ok-settled.settled.prices.items c.in_ok-residual.ensures.limits c.members-members.ensures.network c.requires.same_members c.requires.within found less)

pub new-requires-else-gross-before-clause-in_range : goal.new-requires-else-gross-before-clause-in_range
new-requires-else-gross-before-clause-in_range g c =
    let members = ap (λ (r : ResidualData). r.members) c.in_ok-residual.ensures.value in
    range_at c.in_ok-residual.residual.members c.in_ok-potentials.potentials.items c.in_ok-settled.settled.prices.items c.deref.result.now (omega (arith, members, c.members-members.ensures.network.few)) c.in_ok-potentials.ensures c.deref.ensures.value c.in_ok-settled.ensures.priced.most

pub returns-clause-solves : goal.returns-clause-solves
returns-clause-solves g c =
    let found = found_anew c.args.limits.now c.args.network.now c.gross-before.result c.in_ok-residual.ensures.value c.gross-before.ensures c.in_ok-settled.ensures.priced in
    let p : c.in_ok-potentials.potentials.items ≡ potentials c.in_ok-settled.settled.prices.items = c.in_ok-potentials.ensures ∙ ap potentials c.deref.ensures.value in
    let least : gross c.args.network.now ≤ gross (network_of c.in_ok-settled.settled.residual) = omega (arith, c.if-gross-before.false, c.gross.ensures, c.gross-before.ensures, ap gross c.in_ok-found.ensures) in
    subst (Solves c.args.limits.now c.args.network.now) (sym (c.new-else-gross-before.ensures ∙ same_solution c.in_ok-copy.field-0 c.args.network.now c.in_ok-potentials.potentials.items (potentials c.in_ok-settled.settled.prices.items) c.in_ok-copy.ensures p))
    (solves_old c.args.limits.now c.args.network.now c.in_ok-settled.settled.residual c.in_ok-settled.settled.prices.items c.in_ok-residual.ensures.limits c.members-members.ensures.network c.requires.same_members c.requires.within found least)
