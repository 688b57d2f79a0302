use Rattle.std.proofs.Common.{◌≡◌, length, sym, ◌∙◌, arith}
use Rattle.std.proofs.lemmas.Bool.Decides.{nat_tests}
use Rattle.cycle_lock.proofs.Ahead.{ready_front}
use Rattle.cycle_lock.proofs.home.Home.ready.Goals as goal

pub returns-then-is_empty-clause-ahead : goal.returns-then-is_empty-clause-ahead
returns-then-is_empty-clause-ahead g c = λ m commands passes alike a.
    let none : length c.args.self.now.batch.replies.items ≡ 0 = let e = sym c.is_empty.ensures ∙ c.if-is_empty.true in grind (arith, nat_tests) in
    let r = ready_front g.T.Desk.history g.T.Desk.figures g.T.Desk.stopped m c.args.self.now commands passes a none alike in
    c.refill.ensures.ahead m a.rest.0 commands passes (omega (arith, r.1, c.len.ensures, c.len-then-is_empty.ensures)) r.0 a
