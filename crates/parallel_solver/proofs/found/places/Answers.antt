use Rattle.std.proofs.Common.{List, Option, sym, subst, arith}
use Rattle.network_laws.specs.Solutions.{SolutionData}
use Rattle.parallel_solver.proofs.Rights.{AreEmpty, empty_none, empty_more, empty_right}
use Rattle.parallel_solver.proofs.found.places.Goals as goal

pub loop-init : goal.loop-init
loop-init c = let P : List (Option SolutionData) → Type 0 = λ xs. AreEmpty xs 0 in subst P (sym c.in_ok-found.ensures.items) empty_none

pub loop-preserved : goal.loop-preserved
loop-preserved c = empty_more c.loop.found.items c.push.new.self.items c.loop.counter c.in_ok-push.ensures.items c.loop.invariant

pub returns : goal.returns
returns c = empty_right c.args.pieces.now c.loop.found.items c.loop.counter c.loop.invariant (omega (arith, c.loop-test.false, c.loop.auto))
