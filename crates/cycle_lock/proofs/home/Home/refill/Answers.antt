use Rattle.std.proofs.Common.{vec_len, arith}
use Rattle.cycle_lock.proofs.Ahead.{refilled}
use Rattle.cycle_lock.proofs.home.Home.refill.Goals as goal

pub returns-clause-ahead : goal.returns-clause-ahead
returns-clause-ahead g c = λ m front commands passes len is a.
    refilled g.T.Desk.history g.T.Desk.figures g.T.Desk.stopped m c.args.self.now record { desk = c.ask.new.desk; batch = c.ask.new.self } front commands passes c.args.from (vec_len c.ask.new.self.replies) len is (let n = c.requires.none in omega arith) (omega arith)
    c.ask.ensures.passes c.ask.ensures.at c.ask.ensures.rest c.ask.ensures.told c.ask.ensures.sound a
