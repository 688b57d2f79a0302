use Rattle.std.proofs.Common.{◌≡◌, ◌∙◌, length, drop, arith}
use Rattle.parallel_solver.proofs.Rights.{whole_front}
use Rattle.parallel_solver.proofs.MadeFacts.{all_made}
use Rattle.parallel_solver.proofs.made.made_by.Goals as goal

pub returns-clause-made : goal.returns-clause-made
returns-clause-made g c =
    let new = c.fill.new.found in
    let size : length new ≡ c.in_ok-found.found.len = omega (arith, c.fill.auto.found, c.deref_mut.ensures.len) in
    let whole = whole_front c.in_ok-found.found.len new (drop (length new) c.in_ok-found.found.items) size in
    all_made g.F.Fn c.args.make.now new c.in_ok-made.made.items (c.in_ok-made.ensures ∙ whole) (λ place d within. c.fill.ensures place d (omega (arith, within, c.fill.auto.found)))
