use Rattle.std.proofs.Common.{◌≡◌, List, Option, length, drop, subst, sym, arith}
use Rattle.network_laws.specs.Solutions.{SolutionData}
use Rattle.parallel_solver.specs.Jobs.{AreFound}
use Rattle.parallel_solver.proofs.Rights.{whole_front}
use Rattle.parallel_solver.proofs.workers.Workers.solve_pieces.Goals as goal

pub collected-requires-clause-all : goal.collected-requires-clause-all
collected-requires-clause-all g c =
    let P : List (Option SolutionData) → Type 0 = λ l. AreFound c.args.pieces.now l in
    let new = c.put_jobs.new.found in
    let size : length new ≡ c.in_ok-found.found.len = omega (arith, c.put_jobs.auto.found, c.deref_mut-2.ensures.len) in
    subst P (sym (whole_front c.in_ok-found.found.len new (drop (length new) c.in_ok-found.found.items) size)) c.in_ok-put_jobs.ensures.found
