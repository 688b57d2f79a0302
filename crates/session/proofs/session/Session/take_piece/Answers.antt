use Rattle.std.proofs.Common.{ℕ, ◌-◌, ◌<◌, ◌≤◌, take, drop, length, Ok, ap, arith}
use Rattle.session.specs.Standing.{stand_of, GoesOn, IsCut}
use Rattle.session.proofs.PieceFacts.{piece_goes, piece_left, piece_cut, some_holds}
use Rattle.session.proofs.CommandFacts.{part_size}
use Rattle.session.proofs.ServedFacts.{at_error, cut_off_piece, served_piece}
use Rattle.session.proofs.session.Session.take_piece.Goals as goal

pub loop-at-preserved : goal.loop-at-preserved
loop-at-preserved g c =
    let clock = g.C.Clock.tells c.args.clock.now in
    let piece = c.args.piece.now in
    let at = c.loop-at.at in
    let size = c.in-Some.size in
    let within = some_holds (λ (n : ℕ). (0 < n) × (n ≤ length (take (length piece - at) (drop at piece)))) _ size c.in-Some.is c.in_ok-size.ensures.within in
    let goes = some_holds (λ (n : ℕ). GoesOn clock (stand_of c.loop-at.self) (stand_of c.take_front.new.self) c.loop-at.line c.take_front.new.line (g.K.Sink.taken c.loop-at.sink) (g.K.Sink.taken c.take_front.new.sink) (take n (take (length piece - at) (drop at piece)))) _ size c.in-Some.is c.in_ok-size.ensures.on in
    record {
      within = omega (arith, c.loop-at-test.true, within.1, part_size piece at);
      served = piece_goes clock (stand_of c.args.self.now) (stand_of c.loop-at.self) (stand_of c.take_front.new.self) c.args.line.now c.loop-at.line c.take_front.new.line (g.K.Sink.taken c.args.sink.now) (g.K.Sink.taken c.loop-at.sink) (g.K.Sink.taken c.take_front.new.sink)
          piece at size c.loop-at.invariant.within c.loop-at.invariant.served goes;
      never_falls = omega (arith, c.loop-at.invariant.never_falls, c.in_ok-size.ensures.counts.0);
    }

pub returns-in-None-clause-over : goal.returns-in-None-clause-over
returns-in-None-clause-over g c = λ over.
    piece_left (g.C.Clock.tells c.args.clock.now) (stand_of c.args.self.now) (stand_of c.loop-at.self) (stand_of c.take_front.new.self) c.args.line.now c.loop-at.line (g.K.Sink.taken c.args.sink.now) (g.K.Sink.taken c.loop-at.sink) (g.K.Sink.taken c.take_front.new.sink)
    c.args.piece.now c.loop-at.at c.loop-at.invariant.served (c.in_ok-size.ensures.over (ap Ok c.in-None.is))

pub returns-in_err-size-clause-cut_off : goal.returns-in_err-size-clause-cut_off
returns-in_err-size-clause-cut_off g c =
    let clock = g.C.Clock.tells c.args.clock.now in
    let new = stand_of c.take_front.new.self in
    let cut : IsCut clock (stand_of c.args.self.now) new c.args.line.now (g.K.Sink.taken c.args.sink.now) (g.K.Sink.taken c.take_front.new.sink) c.args.piece.now =
    piece_cut clock (stand_of c.args.self.now) (stand_of c.loop-at.self) new c.args.line.now c.loop-at.line (g.K.Sink.taken c.args.sink.now) (g.K.Sink.taken c.loop-at.sink) (g.K.Sink.taken c.take_front.new.sink)
    c.args.piece.now c.loop-at.at c.loop-at.invariant.served c.in_err-size.ensures.cut_off in
    at_error _ cut

pub returns-clause-on : goal.returns-clause-on
returns-clause-on g c = λ ok start ahead begun bytes v.
    served_piece start ahead begun _ _ _ _ _ bytes c.args.piece.now c.loop-at.at (omega arith) c.in_ok-flush.ensures.takes c.in_ok-flush.ensures.empty (c.loop-at.invariant.served start ahead begun bytes v)

pub returns-in_err-flush-clause-cut_off : goal.returns-in_err-flush-clause-cut_off
returns-in_err-flush-clause-cut_off g c =
    let stand = stand_of c.loop-at.self in
    let cut : IsCut (g.C.Clock.tells c.args.clock.now) (stand_of c.args.self.now) stand c.args.line.now (g.K.Sink.taken c.args.sink.now) (g.K.Sink.taken c.flush.new.sink) c.args.piece.now =
    λ start ahead begun bytes v. cut_off_piece start ahead begun _ _ _ _ bytes c.args.piece.now c.loop-at.at (omega arith) c.in_err-flush.ensures.front (c.loop-at.invariant.served start ahead begun bytes v) in
    at_error _ cut
