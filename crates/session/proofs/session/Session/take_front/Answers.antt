use Rattle.std.proofs.Common.{◌≡◌, [], sym, ◌∙◌}
use Rattle.session.specs.Standing.{stand_of}
use Rattle.session.proofs.PieceFacts.{goes_zero, left_behind, cut_behind}
use Rattle.session.proofs.ServedFacts.{is_empty}
use Rattle.session.proofs.session.Session.take_front.Goals as goal

pub returns-then-size-eq0-clause-over : goal.returns-then-size-eq0-clause-over
returns-then-size-eq0-clause-over g c = λ over.
    let clock = g.C.Clock.tells c.args.clock.now in
    let old = stand_of c.args.self.now in
    let mid = stand_of c.take_run.new.self in
    let taken = g.K.Sink.taken c.args.sink.now in
    let between = g.K.Sink.taken c.take_run.new.sink in
    let piece = c.args.piece.now in
    let line : c.args.line.now ≡ [] = sym c.bytes.ensures ∙ is_empty c.bytes.result.now (sym c.is_empty.ensures ∙ c.if-not-is_empty.false) in
    let none = goes_zero clock old mid c.args.line.now taken between piece c.in_ok-size.size line c.if-size-eq0.true c.in_ok-size.ensures.on in
    left_behind clock old mid (stand_of c.take_one-then-size-eq0.new.self) c.args.line.now taken between (g.K.Sink.taken c.take_one-then-size-eq0.new.sink) piece none (c.take_one-then-size-eq0.ensures.over over)

pub returns-then-size-eq0-clause-cut_off : goal.returns-then-size-eq0-clause-cut_off
returns-then-size-eq0-clause-cut_off g c =
    let clock = g.C.Clock.tells c.args.clock.now in
    let old = stand_of c.args.self.now in
    let mid = stand_of c.take_run.new.self in
    let taken = g.K.Sink.taken c.args.sink.now in
    let between = g.K.Sink.taken c.take_run.new.sink in
    let piece = c.args.piece.now in
    let line : c.args.line.now ≡ [] = sym c.bytes.ensures ∙ is_empty c.bytes.result.now (sym c.is_empty.ensures ∙ c.if-not-is_empty.false) in
    let none = goes_zero clock old mid c.args.line.now taken between piece c.in_ok-size.size line c.if-size-eq0.true c.in_ok-size.ensures.on in
    cut_behind clock old mid (stand_of c.take_one-then-size-eq0.new.self) c.args.line.now taken between (g.K.Sink.taken c.take_one-then-size-eq0.new.sink) piece c.take_one-then-size-eq0.result none c.take_one-then-size-eq0.ensures.cut_off
