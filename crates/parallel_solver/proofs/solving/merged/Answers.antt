use Rattle.std.proofs.Common.{◌≡◌, ◌<◌, ◌∙◌, ◌+◌, ◌++◌, List, drop, length, ap, sym, subst, arith}
use Rattle.network_laws.specs.Solutions.{ProblemData}
use Rattle.network_laws.specs.Solved.{AreSolved}
use Rattle.parallel_solver.specs.Cuts.{pieces_in, pieces_of}
use Rattle.network_laws.proofs.SolvedFacts.{solved_step}
use Rattle.parallel_solver.proofs.Pieced.{cuts_length, cut_at, left_in, enough, pieces_length, solved_front, solved_back}
use Rattle.parallel_solver.proofs.solving.merged.Goals as goal

pub bounds-cuts-at : goal.bounds-cuts-at
bounds-cuts-at c = omega (arith, c.loop-at-test.true, cuts_length c.args.problems.now c.args.cuts.now c.requires.cuts)

pub taken-requires : goal.taken-requires
taken-requires c =
    let there : c.loop-at.at < length c.args.cuts.now = omega (arith, c.loop-at-test.true, cuts_length c.args.problems.now c.args.cuts.now c.requires.cuts) in
    let left = left_in c.args.problems.now c.args.cuts.now c.loop-at.at c.index-problems-at.result c.index-cuts-at.result c.loop-at.solutions.rest.items c.loop-at-test.true there (sym c.index-problems-at.is) (sym c.index-cuts-at.is) c.loop-at.invariant.left in
    let own = pieces_in c.index-problems-at.result c.index-cuts-at.result in
    omega (arith, ap length c.parts.ensures, pieces_length c.index-problems-at.result c.index-cuts-at.result.parts, enough own _ c.loop-at.solutions.rest.items left)

pub solution_of-requires-clause-cut : goal.solution_of-requires-clause-cut
solution_of-requires-clause-cut c =
    cut_at c.args.problems.now c.args.cuts.now c.loop-at.at c.index-problems-at.result c.index-cuts-at.result c.requires.cuts c.loop-at-test.true (sym c.index-problems-at.is) (sym c.index-cuts-at.is)

pub solution_of-requires-clause-solved : goal.solution_of-requires-clause-solved
solution_of-requires-clause-solved c =
    let k = c.loop-at.at in
    let own = pieces_in c.index-problems-at.result c.index-cuts-at.result in
    let more : List ProblemData = pieces_of (drop (k + 1) c.args.problems.now) (drop (k + 1) c.args.cuts.now) in
    let there : k < length c.args.cuts.now = omega (arith, c.loop-at-test.true, cuts_length c.args.problems.now c.args.cuts.now c.requires.cuts) in
    let left = left_in c.args.problems.now c.args.cuts.now c.loop-at.at c.index-problems-at.result c.index-cuts-at.result c.loop-at.solutions.rest.items c.loop-at-test.true there (sym c.index-problems-at.is) (sym c.index-cuts-at.is) c.loop-at.invariant.left in
    let size : length c.in_ok-own.own.items ≡ length own = c.in_ok-own.ensures.size ∙ ap length c.parts.ensures ∙ sym (pieces_length c.index-problems-at.result c.index-cuts-at.result.parts) in
    solved_front own more c.in_ok-own.own.items c.taken.new.solutions.rest.items size (subst (λ ss. AreSolved (own ++ more) ss) (sym c.in_ok-own.ensures.rest) left)

pub loop-at-preserved : goal.loop-at-preserved
loop-at-preserved c =
    let problems = c.args.problems.now in
    let k = c.loop-at.at in
    let own = pieces_in c.index-problems-at.result c.index-cuts-at.result in
    let more : List ProblemData = pieces_of (drop (k + 1) problems) (drop (k + 1) c.args.cuts.now) in
    let there : k < length c.args.cuts.now = omega (arith, c.loop-at-test.true, cuts_length problems c.args.cuts.now c.requires.cuts) in
    let left = left_in c.args.problems.now c.args.cuts.now c.loop-at.at c.index-problems-at.result c.index-cuts-at.result c.loop-at.solutions.rest.items c.loop-at-test.true there (sym c.index-problems-at.is) (sym c.index-cuts-at.is) c.loop-at.invariant.left in
    let size : length c.in_ok-own.own.items ≡ length own = c.in_ok-own.ensures.size ∙ ap length c.parts.ensures ∙ sym (pieces_length c.index-problems-at.result c.index-cuts-at.result.parts) in
    record {
      merged = solved_step k problems c.index-problems-at.result c.index-problems-at.result c.loop-at.merged.items c.push.new.self.items c.in_ok-solution.solution c.loop-at-test.true (sym c.index-problems-at.is) c.in_ok-push.ensures.items c.in_ok-solution.ensures
          c.loop-at.invariant.merged;
      left = solved_back own more c.in_ok-own.own.items c.taken.new.solutions.rest.items size (subst (λ ss. AreSolved (own ++ more) ss) (sym c.in_ok-own.ensures.rest) left);
    }
