use Rattle.std.proofs.Common.{◌∙◌, map, refl, sym, ap, subst}
use Rattle.standby_wire.specs.Noted.{replied_of}
use Rattle.standby_wire.specs.Replied.{HearingView, hearing_over, IsHearing}
use Rattle.standby_wire.proofs.HearingFacts.{view_of, noted_on, hears_reply, hears_none}
use Rattle.standby_wire.proofs.hearing.Hearing.ask.Goals as goal

pub returns-in_err-reply-clause-heard : goal.returns-in_err-reply-clause-heard
returns-in_err-reply-clause-heard g c h =
    let flow = g.S.Source.flow in
    let faults = g.S.Source.faults in
    let i = c.self.inside in
    let old : HearingView = view_of (map replied_of i.replied.items) i.inbox (flow i.first.value) (flow c.args.source.now) (faults i.first.value) (faults c.args.source.now) in
    let new : HearingView = view_of (map replied_of c.reserve.new.self.items) c.wait.new.self (flow i.first.value) (flow c.wait.new.source) (faults i.first.value) (faults c.wait.new.source) in
    hears_none c.args.question.now old new (subst (λ v. IsHearing (hearing_over v (flow c.args.source.now) (faults c.args.source.now))) (sym c.self.view_is) h) refl refl c.wait.ensures.counts.0 c.in_err-reply.field-0.0 c.in_err-reply.ensures.waits (ap (map replied_of) c.reserve.ensures.items)

pub returns-clause-heard : goal.returns-clause-heard
returns-clause-heard g c h =
    let flow = g.S.Source.flow in
    let faults = g.S.Source.faults in
    let i = c.self.inside in
    let old : HearingView = view_of (map replied_of i.replied.items) i.inbox (flow i.first.value) (flow c.args.source.now) (faults i.first.value) (faults c.args.source.now) in
    let new : HearingView = view_of (map replied_of c.push_reserved.new.self.items) c.wait.new.self (flow i.first.value) (flow c.wait.new.source) (faults i.first.value) (faults c.wait.new.source) in
    hears_reply c.args.question.now old new (subst (λ v. IsHearing (hearing_over v (flow c.args.source.now) (faults c.args.source.now))) (sym c.self.view_is) h) refl refl c.wait.ensures.counts.0 c.in_ok-reply.reply c.in_ok-reply.ensures.waits
    (noted_on i.replied.items c.reserve.new.self.items c.push_reserved.new.self.items _ c.args.question.now i.inbox.due c.in_ok-reply.reply c.reserve.ensures.items c.push_reserved.ensures.items c.of.ensures (c.of-2.ensures ∙ c.due-due.ensures) c.of-3.ensures)
