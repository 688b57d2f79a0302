use Rattle.std.proofs.Common.{◌-◌, ap, map, refl}
use Rattle.cycle_lock.specs.declared.home.Home.{Home}
use Rattle.cycle_lock.specs.Errands.{command_of, pass_of}
use Rattle.publication_list.specs.Tokens.{claims}
use Rattle.cycle_lock.proofs.Own.{own_next, own_noted, own_ahead}
use Rattle.cycle_lock.proofs.turns.Turns.note_own.Goals as goal

pub keep-requires-clause-next : goal.keep-requires-clause-next
keep-requires-clause-next g c κs within =
    let r = c.next_reply-reply in let home : Home g.row.T.Denot = c.args.home.now in let left : Home g.row.T.Denot = record { desk = home.desk; batch = r.new.self } in
    own_next g.T.Desk.history g.T.Desk.figures g.T.Desk.stopped c.args.seat.now.me home left c.args.own.now.value (map command_of (claims c.args.clerk.now)) (map pass_of (claims c.args.clerk.now)) r.result c.requires.ahead r.ensures.replies g.M.Next.next _
    (ap (λ n. r.result.at - n) r.ensures.at) c.requires.mine.0 c.requires.mine.1 c.requires.to

pub returns-clause-noted : goal.returns-clause-noted
returns-clause-noted g c =
    let r = c.next_reply-reply in let home : Home g.row.T.Denot = c.args.home.now in let left : Home g.row.T.Denot = record { desk = home.desk; batch = r.new.self } in
    own_noted g.T.Desk.history g.T.Desk.figures g.T.Desk.stopped c.args.seat.now.me home left c.args.own.now.value (map command_of (claims c.args.clerk.now)) (map pass_of (claims c.args.clerk.now)) r.result c.requires.ahead r.ensures.replies g.M.Next.next c.keep.new.seat.me
    c.requires.from c.keep.ensures.kept

pub returns-clause-ahead : goal.returns-clause-ahead
returns-clause-ahead g c =
    let r = c.next_reply-reply in let home : Home g.row.T.Denot = c.args.home.now in let left : Home g.row.T.Denot = record { desk = home.desk; batch = r.new.self } in
    own_ahead g.T.Desk.history g.T.Desk.figures g.T.Desk.stopped c.args.seat.now.me home left c.args.own.now.value (map command_of (claims c.args.clerk.now)) (map pass_of (claims c.args.clerk.now)) r.result c.requires.ahead r.ensures.replies g.M.Next.next c.keep.new.seat.me _
    c.requires.from c.keep.ensures.kept refl refl r.ensures.passes refl r.ensures.commands
