use Rattle.std.proofs.Common.{◌≡◌, ◌∙◌, List, [], ◌∷◌, ◌++◌, map, true, refl, sym, subst, rules, arith}
use Rattle.std.proofs.lemmas.Bool.{false≢true}
use Rattle.outside.specs.Faults.{Rose}
use Rattle.outside.specs.Flow.{Takes, TakesFront}
use Rattle.standby.specs.Log.{sent_of}
use Rattle.standby.specs.Sent.{Sent}
use Rattle.standby_link.specs.Written.{line_text, Writes}
use Rattle.standby_link.specs.Wire.{WireStart, WireParts, WireView, IsWire, start_of, wire_over}
use Rattle.standby_link.specs.Wired.{parts_of}
use Rattle.standby_link.proofs.WireFacts.{writes_whole, writes_front, writes_no_more, rose_from, said_wire}
use Rattle.standby_link.proofs.wire.Wire.tell.Goals as goal

pub returns-then-self-clause-holds : goal.returns-then-self-clause-holds
returns-then-self-clause-holds g c source h =
    let flow = g.S.Source.flow in
    let faults_in = g.S.Source.faults in
    let taken = g.K.Sink.taken in
    let faults_out = g.K.Sink.faults in
    let i = c.self.inside in
    let first = i.first.value in
    let from = i.first_source.value in
    let to = i.first_sink.value in
    let start : WireStart = start_of i.login first (flow from) (faults_in from) (taken to) (faults_out to) in
    let parts : WireParts = parts_of i.login first (flow from) (faults_in from) (taken to) (faults_out to) i.said.items i.cut i.hearing i.last in
    let old : WireView = wire_over parts (flow source) (faults_in source) (taken c.args.sink.now) (faults_out c.args.sink.now) in
    let held : IsWire old = subst (λ (p : WireParts). IsWire (wire_over p (flow source) (faults_in source) (taken c.args.sink.now) (faults_out c.args.sink.now))) (sym c.self.view_is) h in
    let sent : Sent = record { house = c.args.house.now; line = c.args.line } in
    let more : map sent_of c.note_said.new.log.items ≡ map sent_of i.said.items ++ sent ∷ [] = search rules in
    let new : WireView = wire_over (parts_of i.login first (flow from) (faults_in from) (taken to) (faults_out to) c.note_said.new.log.items i.cut i.hearing i.last)
    (flow source) (faults_in source) (taken c.args.sink.now) (faults_out c.args.sink.now) in
    said_wire old new held refl refl refl (omega arith)
    (subst (λ (ss : List Sent). Writes i.login ss i.cut start.taken (taken c.args.sink.now)) (sym more)
    (writes_no_more i.login (map sent_of i.said.items) sent i.cut start.taken (taken c.args.sink.now) c.if-self.true held.writes))
    held.cuts

pub returns-then-is_err-2-clause-holds : goal.returns-then-is_err-2-clause-holds
returns-then-is_err-2-clause-holds g c source h =
    let flow = g.S.Source.flow in
    let faults_in = g.S.Source.faults in
    let taken = g.K.Sink.taken in
    let faults_out = g.K.Sink.faults in
    let i = c.self.inside in
    let first = i.first.value in
    let from = i.first_source.value in
    let to = i.first_sink.value in
    let start : WireStart = start_of i.login first (flow from) (faults_in from) (taken to) (faults_out to) in
    let parts : WireParts = parts_of i.login first (flow from) (faults_in from) (taken to) (faults_out to) i.said.items i.cut i.hearing i.last in
    let old : WireView = wire_over parts (flow source) (faults_in source) (taken c.args.sink.now) (faults_out c.args.sink.now) in
    let held : IsWire old = subst (λ (p : WireParts). IsWire (wire_over p (flow source) (faults_in source) (taken c.args.sink.now) (faults_out c.args.sink.now))) (sym c.self.view_is) h in
    let sent : Sent = record { house = c.args.house.now; line = c.args.line } in
    let more : map sent_of c.note_said.new.log.items ≡ map sent_of i.said.items ++ sent ∷ [] = search rules in
    let front : TakesFront (taken c.args.sink.now) (taken c.write.new.sink) (line_text i.login c.args.line) = search rules in
    let rose : Rose (faults_out c.args.sink.now) (faults_out c.write.new.sink) = search rules in
    let new : WireView = wire_over (parts_of i.login first (flow from) (faults_in from) (taken to) (faults_out to) c.note_said.new.log.items true i.hearing i.last)
    (flow source) (faults_in source) (taken c.write.new.sink) (faults_out c.write.new.sink) in
    said_wire old new held refl refl refl c.write.ensures.counts.0
    (subst (λ (ss : List Sent). Writes i.login ss true start.taken (taken c.write.new.sink)) (sym more)
    (writes_front i.login (map sent_of i.said.items) sent i.cut start.taken (taken c.args.sink.now) (taken c.write.new.sink) c.if-self.false held.writes front))
    (λ is. rose_from start.sink_faults (faults_out c.args.sink.now) (faults_out c.write.new.sink) held.falls rose)

pub returns-clause-holds : goal.returns-clause-holds
returns-clause-holds g c source h =
    let flow = g.S.Source.flow in
    let faults_in = g.S.Source.faults in
    let taken = g.K.Sink.taken in
    let faults_out = g.K.Sink.faults in
    let i = c.self.inside in
    let first = i.first.value in
    let from = i.first_source.value in
    let to = i.first_sink.value in
    let start : WireStart = start_of i.login first (flow from) (faults_in from) (taken to) (faults_out to) in
    let parts : WireParts = parts_of i.login first (flow from) (faults_in from) (taken to) (faults_out to) i.said.items i.cut i.hearing i.last in
    let old : WireView = wire_over parts (flow source) (faults_in source) (taken c.args.sink.now) (faults_out c.args.sink.now) in
    let held : IsWire old = subst (λ (p : WireParts). IsWire (wire_over p (flow source) (faults_in source) (taken c.args.sink.now) (faults_out c.args.sink.now))) (sym c.self.view_is) h in
    let sent : Sent = record { house = c.args.house.now; line = c.args.line } in
    let more : map sent_of c.note_said.new.log.items ≡ map sent_of i.said.items ++ sent ∷ [] = search rules in
    let whole : Takes (taken c.args.sink.now) (taken c.write.new.sink) (line_text i.login c.args.line) = search rules in
    let new : WireView = wire_over (parts_of i.login first (flow from) (faults_in from) (taken to) (faults_out to) c.note_said.new.log.items i.cut i.hearing i.last)
    (flow source) (faults_in source) (taken c.write.new.sink) (faults_out c.write.new.sink) in
    said_wire old new held refl refl refl c.write.ensures.counts.0
    (subst (λ (ss : List Sent). Writes i.login ss i.cut start.taken (taken c.write.new.sink)) (sym more)
    (writes_whole i.login (map sent_of i.said.items) sent i.cut start.taken (taken c.args.sink.now) (taken c.write.new.sink) c.if-self.false held.writes whole))
    (λ is. absurd (false≢true (sym c.if-self.false ∙ is)))
