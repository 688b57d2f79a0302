use Rattle.std.proofs.Common.{◌≡◌, arith, map, refl}
use Rattle.cycle_lock.specs.declared.errands.Errand.{Errand}
use Rattle.cycle_lock.specs.Passes.{lock_of}
use Rattle.cycle_lock.specs.declared.home.Home.{Home}
use Rattle.cycle_lock.specs.Errands.{command_of, pass_of}
use Rattle.publication_list.specs.Tokens.{claims}
use Rattle.cycle_lock.proofs.Ahead.{alike, enough, guests_on, same_ahead}
use Rattle.cycle_lock.proofs.turns.Turns.serve_one.Goals as goal

pub ready-requires-clause-left : goal.ready-requires-clause-left
ready-requires-clause-left g c =
    let t = c.to_ring.ensures in let home : Home g.row.T.Denot = record { desk = c.args.home.now.desk; batch = c.to_ring.new.self } in
    let a = same_ahead g.T.Desk.history g.T.Desk.figures g.T.Desk.stopped c.args.seat.now.me c.args.home.now home _ _ refl t.passes t.commands t.replies t.at c.requires.ahead in
    let e = enough g.T.Desk.history g.T.Desk.figures g.T.Desk.stopped c.args.seat.now.me home (claims c.args.clerk.now) a in omega arith

pub serve_next-requires-clause-ahead : goal.serve_next-requires-clause-ahead
serve_next-requires-clause-ahead g c κs within =
    let t = c.to_ring.ensures in let home : Home g.row.T.Denot = record { desk = c.args.home.now.desk; batch = c.to_ring.new.self } in
    let a = same_ahead g.T.Desk.history g.T.Desk.figures g.T.Desk.stopped c.args.seat.now.me c.args.home.now home _ _ refl t.passes t.commands t.replies t.at c.requires.ahead in
    c.ready.ensures.ahead c.args.seat.now.me (map command_of (claims c.args.clerk.now)) (map pass_of (claims c.args.clerk.now)) (alike g.T.Desk.history g.T.Desk.figures g.T.Desk.stopped (claims c.args.clerk.now)) a

pub returns-clause-guests : goal.returns-clause-guests
returns-clause-guests g c = guests_on (λ (e : Errand). lock_of e.pass ≡ c.args.self.now.table.shared.table_id) (claims c.args.clerk.now) (claims c.serve_next.new.clerk) c.serve_next.ensures.rest c.requires.guests
