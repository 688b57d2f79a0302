use Rattle.std.proofs.Common.{◌∙◌, ◌++◌, Some, refl, sym, ap, subst}
use Rattle.standby.specs.Ending.{Came}
use Rattle.standby.specs.Sent.{offers_in}
use Rattle.standby_wire.specs.Replied.{HearingView, hearing_over}
use Rattle.standby_wire.specs.declared.reply.Question.TheVariants.{Next}
use Rattle.standby_link.specs.Read.{offers_of, IsCause}
use Rattle.standby_link.specs.Wire.{WireParts, WireView, IsWire, wire_over}
use Rattle.standby_link.specs.Wired.{parts_of}
use Rattle.standby_link.proofs.WireFacts.{offers_heard, hears_on, cause_of, heard_wire}
use Rattle.standby_link.proofs.wire.WirePeer.hear.Goals as goal

pub returns-clause-hears : goal.returns-clause-hears
returns-clause-hears g c =
    let flow = g.S.Source.flow in
    let faults = g.S.Source.faults in
    let old : HearingView = hearing_over c.self.inside.hearing (flow c.args.source.now) (faults c.args.source.now) in
    let new : HearingView = hearing_over c.ask-answer.new.self (flow c.ask-answer.new.source) (faults c.ask-answer.new.source) in
    offers_heard c.args.position c.due-due.result old new c.due-due.ensures c.ask-answer.ensures.same c.ask-answer.result c.told-came.result c.ask-answer.ensures.hears c.told-came.ensures.tells
    ∙ ap (λ (p : WireParts). offers_of p.heard.replied ++ offers_in c.told-came.result) c.self.view_is

pub returns-clause-holds : goal.returns-clause-holds
returns-clause-holds g c sink h =
    let flow = g.S.Source.flow in
    let faults_in = g.S.Source.faults in
    let taken = g.K.Sink.taken in
    let faults_out = g.K.Sink.faults in
    let i = c.self.inside in
    let first = i.first.value in
    let from = i.first_source.value in
    let to = i.first_sink.value in
    let before = c.args.source.now in
    let after = c.ask-answer.new.source in
    let parts : WireParts = parts_of i.login first (flow from) (faults_in from) (taken to) (faults_out to) i.said.items i.cut i.hearing i.last in
    let old : WireView = wire_over parts (flow before) (faults_in before) (taken sink) (faults_out sink) in
    let held : IsWire old = subst (λ (p : WireParts). IsWire (wire_over p (flow before) (faults_in before) (taken sink) (faults_out sink))) (sym c.self.view_is) h in
    let new : WireView = wire_over (parts_of i.login first (flow from) (faults_in from) (taken to) (faults_out to) i.said.items i.cut c.ask-answer.new.self (Some c.of.result))
    (flow after) (faults_in after) (taken sink) (faults_out sink) in
    let asked = c.ask-answer.ensures in
    heard_wire old new held refl refl refl refl refl (asked.heard held.hearing)
    (hears_on old.hearing new.hearing asked.same (Next c.args.position) old.start.hearing held.hears c.ask-answer.result asked.hears)
    (subst (λ (x : Came). IsCause new.hearing x.position x.heard) (sym c.of.ensures)
    (cause_of c.args.position c.due-due.result old.hearing new.hearing c.due-due.ensures asked.same held.hearing.never_falls c.ask-answer.result c.told-came.result asked.hears c.told-came.ensures.tells))
