use Rattle.std.proofs.Common.{◌≤◌, [], ◌++◌, take, drop, length, Ok, arith, ap, sym, inl, inr, refl}
use Rattle.std.proofs.lemmas.List.{append-nil, length-take}
use Rattle.outside.proofs.FlowFacts.{gives_both}
use Rattle.command_types.specs.Lines.{cut_of}
use Rattle.session.specs.Serving.{of_pass}
use Rattle.session.specs.Standing.{stand_of}
use Rattle.session.proofs.StreamFacts.{gives_none, gives_end, gives_same}
use Rattle.session.proofs.ServedFacts.{served_none, whole_all, whole_open, front_read, length_read}
use Rattle.session.proofs.session.Session.serve.Goals as goal

pub loop-taken-init : goal.loop-taken-init
loop-taken-init g c =
    record {
      within = omega arith;
      served = ([], refl, gives_none (g.S.Source.flow c.args.source.now), served_none (g.K.Sink.taken c.args.sink.now) (stand_of c.args.self.now) c.args.line.now c.requires.speaker c.requires.waits c.requires.line);
      none_waits = c.requires.waits;
      source_faults = omega arith;
      sink_faults = omega arith;
    }

pub returns-in-Ok-take_end-clause-ends : goal.returns-in-Ok-take_end-clause-ends
returns-in-Ok-take_end-clause-ends g c =
    let before = c.loop-taken.invariant.served in (
      before.0,
      gives_end _ _ _ before.0 c.read.new.into c.in-Ok.n c.if-n-eq0.true before.2 c.in-Ok.ensures.gives,
      inl (
        c.in-Ok.ensures.end (ap Ok c.if-n-eq0.true) (omega (arith, c.min-room.ensures, length-take c.min-room.result c.loop-taken.piece, c.loop-taken-test.true, c.loop-taken.auto.piece, c.requires.piece)),
        omega (arith, before.1, c.loop-taken-test.true),
        c.in-Ok-take_end.ensures.written (of_pass c.args.self.now.asker.pass) [] (g.K.Sink.taken c.args.sink.now) before.0 before.3,
      ),
    )

pub returns-in-Err-take_end-clause-ends : goal.returns-in-Err-take_end-clause-ends
returns-in-Err-take_end-clause-ends g c =
    let before = c.loop-taken.invariant.served in
    let whole = whole_all _ _ _ _ _ _ before.0 before.3 c.loop-taken.invariant.none_waits in (
      before.0,
      gives_end _ _ _ before.0 c.read.new.into c.in-Ok.n c.if-n-eq0.true before.2 c.in-Ok.ensures.gives,
      inr (
        c.in-Ok.ensures.end (ap Ok c.if-n-eq0.true) (omega (arith, c.min-room.ensures, length-take c.min-room.result c.loop-taken.piece, c.loop-taken-test.true, c.loop-taken.auto.piece, c.requires.piece)),
        omega (arith, before.1, c.loop-taken-test.true),
        record {
          early = before.0;
          late = [];
          split = sym (append-nil before.0);
          few = omega arith;
          cut = c.in-Err-take_end.ensures.cut_off (of_pass c.args.self.now.asker.pass) (cut_of before.0).whole (g.K.Sink.taken c.args.sink.now) before.0 whole;
        },
      ),
    )

pub returns-in-Err-clause-ends : goal.returns-in-Err-clause-ends
returns-in-Err-clause-ends g c =
    let before = c.loop-taken.invariant.served in (
      before.0,
      gives_same _ _ _ before.0 c.in-Err.ensures.nothing before.2,
      omega (arith, before.1, c.loop-taken-test.true),
      whole_open _ _ _ _ _ _ before.0 before.3 c.loop-taken.invariant.none_waits,
    )

pub returns-clause-ends : goal.returns-clause-ends
returns-clause-ends g c =
    let before = c.loop-taken.invariant.served in (
      before.0,
      before.2,
      omega (arith, before.1, c.loop-taken.invariant.within, c.loop-taken-test.false),
      whole_open _ _ _ _ _ _ before.0 before.3 c.loop-taken.invariant.none_waits,
    )

pub returns-in-Ok-Over-clause-ends : goal.returns-in-Ok-Over-clause-ends
returns-in-Ok-Over-clause-ends g c =
    let before = c.loop-taken.invariant.served in
    let fits : c.in-Ok.n ≤ length c.read.new.into = omega (arith, c.in-Ok.ensures.count, c.read.auto.into) in
    let same = front_read c.read.new.into (drop c.min-room.result c.loop-taken.piece) c.in-Ok.n fits in
    let left = rw same at (c.in-Ok-Over.ensures.over (ap Ok c.in-Ok-Over.field-0-is) (of_pass c.args.self.now.asker.pass) [] (g.K.Sink.taken c.args.sink.now) before.0 before.3) in
    let size = length_read before.0 c.read.new.into c.in-Ok.n c.loop-taken.taken before.1 fits in (
      before.0 ++ take c.in-Ok.n c.read.new.into,
      gives_both _ _ _ _ _ before.2 c.in-Ok.ensures.gives,
      inr (omega (arith, size, c.in-Ok.ensures.count, length-take c.min-room.result c.loop-taken.piece, c.min-room.ensures), left),
    )

pub returns-in-Err-take_piece-clause-ends : goal.returns-in-Err-take_piece-clause-ends
returns-in-Err-take_piece-clause-ends g c =
    let before = c.loop-taken.invariant.served in
    let fits : c.in-Ok.n ≤ length c.read.new.into = omega (arith, c.in-Ok.ensures.count, c.read.auto.into) in
    let same = front_read c.read.new.into (drop c.min-room.result c.loop-taken.piece) c.in-Ok.n fits in
    let whole = whole_all _ _ _ _ _ _ before.0 before.3 c.loop-taken.invariant.none_waits in
    let cut = rw same at (c.in-Err-take_piece.ensures.cut_off (of_pass c.args.self.now.asker.pass) (cut_of before.0).whole (g.K.Sink.taken c.args.sink.now) before.0 whole) in
    let size = length_read before.0 c.read.new.into c.in-Ok.n c.loop-taken.taken before.1 fits in (
      before.0 ++ take c.in-Ok.n c.read.new.into,
      gives_both _ _ _ _ _ before.2 c.in-Ok.ensures.gives,
      inl (
        omega (arith, size, c.in-Ok.ensures.count, length-take c.min-room.result c.loop-taken.piece, c.min-room.ensures),
        record {
          early = before.0;
          late = take c.in-Ok.n c.read.new.into;
          split = refl;
          few = omega (arith, length-take c.in-Ok.n c.read.new.into, c.in-Ok.ensures.count, length-take c.min-room.result c.loop-taken.piece, c.min-room.ensures, c.loop-taken.auto.piece, c.requires.piece);
          cut = cut;
        },
      ),
    )

pub loop-taken-preserved : goal.loop-taken-preserved
loop-taken-preserved g c =
    let before = c.loop-taken.invariant.served in
    let fits : c.in-Ok.n ≤ length c.read.new.into = omega (arith, c.in-Ok.ensures.count, c.read.auto.into) in
    let same = front_read c.read.new.into (drop c.min-room.result c.loop-taken.piece) c.in-Ok.n fits in
    let served = rw same at (c.in-Ok-On.ensures.on (ap Ok c.in-Ok-On.field-0-is) (of_pass c.args.self.now.asker.pass) [] (g.K.Sink.taken c.args.sink.now) before.0 before.3) in
    record {
      within = omega (arith, c.in-Ok.ensures.count, length-take c.min-room.result c.loop-taken.piece, c.min-room.ensures);
      served = (before.0 ++ take c.in-Ok.n c.read.new.into, length_read before.0 c.read.new.into c.in-Ok.n c.loop-taken.taken before.1 fits, gives_both _ _ _ _ _ before.2 c.in-Ok.ensures.gives, served);
      none_waits = c.in-Ok-On.ensures.none_waits (ap Ok c.in-Ok-On.field-0-is);
      source_faults = omega (arith, c.in-Ok.ensures.counts.0);
      sink_faults = omega (arith, c.in-Ok-On.ensures.counts.0);
    }
