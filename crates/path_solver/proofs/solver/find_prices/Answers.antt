use Rattle.std.proofs.Common.{◌≡◌, ℕ, List, sym, ◌∙◌, arith}
use Rattle.residual_graph.specs.Residual.{ResidualData, IsResidual}
use Rattle.path_solver.specs.Rests.{AreSamePairs, net_of, owed}
use Rattle.path_solver.specs.Phases.{IsSettled, IsPricedAnew}
use Rattle.path_solver.proofs.Same.{same_sym, same_trans}
use Rattle.path_solver.proofs.solver.find_prices.Goals as goal

pub settle-requires : goal.settle-requires
settle-requires g c = record {
  surplus = c.lower_all.ensures.owed.members ∙ c.lower_all.ensures.owed.surplus;
  lack = c.lower_all.ensures.owed.members ∙ c.lower_all.ensures.owed.lack;
  lowest = c.lower_all.ensures.owed.lowest;
  apart = c.lower_all.ensures.apart;
  feasible = (c.args.residual.flows, same_sym c.args.residual.flows c.lower_all.new.residual.flows c.lower_all.ensures.owed.pairs, λ i. sym (c.lower_all.ensures.owed.owed i));
}

anew : (old mid new : ResidualData) (s l p : List ℕ) → IsResidual old → mid.members ≡ old.members → AreSamePairs old.flows mid.flows → ((i : ℕ) → owed mid.flows s l i ≡ net_of old.flows i) → IsSettled mid new s l p → IsPricedAnew old new p
anew old mid new s l p residual members pairs nets h = record {
  residual = residual;
  members = h.members ∙ members;
  pairs = same_trans old.flows mid.flows new.flows pairs h.pairs;
  nets = λ i li. h.nets i (omega (arith, members)) ∙ nets i;
  priced = h.priced;
  one_each = h.one_each ∙ members;
  most = λ v. omega (arith, h.most v, members);
}

pub returns-clause-priced : goal.returns-clause-priced
returns-clause-priced g c =
    anew c.args.residual c.lower_all.new.residual c.in_ok-settled.settled.residual c.lower_all.new.balance.surplus.items c.lower_all.new.balance.lack.items c.in_ok-settled.settled.prices.items c.members.ensures.residual c.lower_all.ensures.owed.members c.lower_all.ensures.owed.pairs
    c.lower_all.ensures.owed.owed
    c.in_ok-settled.ensures.settled
