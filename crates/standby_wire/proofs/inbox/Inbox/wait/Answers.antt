use Rattle.std.proofs.Common.{◌≡◌, ◌∙◌, true, Result, Err, sym, ap, subst, rules, arith, inl}
use Rattle.standby_wire.specs.Replies.{reply_to}
use Rattle.standby_wire.specs.Taking.{Pending, Waits}
use Rattle.standby_wire.specs.declared.inbox.WaitFault.{WaitFault}
use Rattle.standby_wire.specs.declared.reply.Reply.{Reply}
use Rattle.standby_wire.proofs.InboxFacts.{waits_first, waits_on, waits_failed, why_stopped}
use Rattle.standby_wire.proofs.inbox.Inbox.wait.Goals as goal

pub loop-reply-init : goal.loop-reply-init
loop-reply-init g c = record {
  waits = waits_first c.args.question.now c.args.self.now (g.S.Source.flow c.args.source.now);
  never_falls = omega arith;
}

pub returns-in-Ok-clause-waits : goal.returns-in-Ok-clause-waits
returns-in-Ok-clause-waits g c = record { there = c.loop-reply.self; waits = c.loop-reply.invariant.waits; answers = (c.in-Ok.ensures.gives, c.read.ensures.due) }

pub returns-in-Err-Stopped-Bad-clause-waits : goal.returns-in-Err-Stopped-Bad-clause-waits
returns-in-Err-Stopped-Bad-clause-waits g c =
    let bad = c.in-Err-Stopped-Bad in
    let same = bad.ensures.stays in
    record {
      there = c.loop-reply.self;
      waits = c.loop-reply.invariant.waits;
      answers = (
        same,
        ap (λ (p : Pending). p.due) (c.self.view_is ∙ same),
        inl (why_stopped _ _ _ c.read.new.self.bytes (reply_to c.args.question.now c.loop-reply.self.bytes) bad.field-0-is bad.field-0-0-is bad.ensures.gives),
      );
    }

pub returns-in-Err-Memory-clause-waits : goal.returns-in-Err-Memory-clause-waits
returns-in-Err-Memory-clause-waits g c = record { there = c.loop-reply.self; waits = c.loop-reply.invariant.waits; answers = c.in-Err-Memory.ensures.stays }

pub returns-in_err-is_more-clause-waits : goal.returns-in_err-is_more-clause-waits
returns-in_err-is_more-clause-waits g c =
    let flow = g.S.Source.flow in
    let more = c.in-Err-Stopped-More in
    let fault = c.in_err-is_more.field-0.0 in
    let is : c.from_residual.result ≡ Err fault = search rules in
    subst (λ (r : Result Reply WaitFault). Waits c.args.question.now c.args.self.now c.fill.new.self (flow c.args.source.now) (flow c.fill.new.source) r) (sym is)
    (waits_failed c.args.question.now c.args.self.now c.loop-reply.self (flow c.args.source.now) (flow c.loop-reply.source) (flow c.fill.new.source) c.loop-reply.invariant.waits
    c.read.new.self c.fill.new.self fault more.ensures.stays
    (why_stopped _ _ _ c.read.new.self.bytes (reply_to c.args.question.now c.loop-reply.self.bytes) more.field-0-is more.field-0-0-is more.ensures.gives) c.in_err-is_more.ensures.fills)

pub loop-reply-preserved : goal.loop-reply-preserved
loop-reply-preserved g c =
    let flow = g.S.Source.flow in
    let more = c.in-Err-Stopped-More in
    let is : c.in_ok-is_more.is_more ≡ true = search rules in
    record {
      waits = waits_on c.args.question.now c.args.self.now c.loop-reply.self (flow c.args.source.now) (flow c.loop-reply.source) (flow c.fill.new.source) c.loop-reply.invariant.waits
          c.read.new.self c.fill.new.self c.in_ok-is_more.is_more more.ensures.stays
          (why_stopped _ _ _ c.read.new.self.bytes (reply_to c.args.question.now c.loop-reply.self.bytes) more.field-0-is more.field-0-0-is more.ensures.gives) is c.in_ok-is_more.ensures.fills;
      never_falls = omega (arith, c.loop-reply.invariant.never_falls, c.fill.ensures.counts.0);
    }
