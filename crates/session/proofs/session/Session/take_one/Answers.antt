use Rattle.std.proofs.Common.{Ok, ap}
use Rattle.session.specs.Standing.{stand_of, IsCut}
use Rattle.session.proofs.PieceFacts.{byte_goes, byte_left, byte_cut}
use Rattle.session.proofs.ServedFacts.{at_error}
use Rattle.session.proofs.session.Session.take_one.Goals as goal

pub returns-in-On-clause-on : goal.returns-in-On-clause-on
returns-in-On-clause-on g c =
    byte_goes (g.C.Clock.tells c.args.clock.now) (stand_of c.args.self.now) (stand_of c.take_byte.new.self) c.args.line.now c.take_byte.new.line (g.K.Sink.taken c.args.sink.now) (g.K.Sink.taken c.take_byte.new.sink) c.args.piece.now c.requires.some (c.in_ok-take_byte.ensures.on (ap Ok c.in-On.is))

pub returns-in-Over-clause-over : goal.returns-in-Over-clause-over
returns-in-Over-clause-over g c = λ over.
    byte_left (g.C.Clock.tells c.args.clock.now) (stand_of c.args.self.now) (stand_of c.take_byte.new.self) c.args.line.now (g.K.Sink.taken c.args.sink.now) (g.K.Sink.taken c.take_byte.new.sink) c.args.piece.now c.requires.some (c.in_ok-take_byte.ensures.over (ap Ok c.in-Over.is))

pub returns-in_err-take_byte-clause-cut_off : goal.returns-in_err-take_byte-clause-cut_off
returns-in_err-take_byte-clause-cut_off g c =
    let clock = g.C.Clock.tells c.args.clock.now in
    let new = stand_of c.take_byte.new.self in
    let cut : IsCut clock (stand_of c.args.self.now) new c.args.line.now (g.K.Sink.taken c.args.sink.now) (g.K.Sink.taken c.take_byte.new.sink) c.args.piece.now =
    byte_cut clock (stand_of c.args.self.now) new c.args.line.now (g.K.Sink.taken c.args.sink.now) (g.K.Sink.taken c.take_byte.new.sink) c.args.piece.now c.requires.some c.in_err-take_byte.ensures.cut_off in
    at_error _ cut
