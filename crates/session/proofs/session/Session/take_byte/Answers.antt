use Rattle.std.proofs.Common.{◌∙◌, ◌∷◌, [], ap}
use Rattle.std.proofs.lemmas.Result.{on_err_weaker}
use Rattle.command_types.specs.Lines.{ended_line}
use Rattle.session.specs.Standing.{stand_of, IsCut}
use Rattle.session.proofs.ServedFacts.{at_error, served_byte, served_flushed, cut_off_waiting, cut_off_more, is_feed, not_feed}
use Rattle.session.proofs.WholeFacts.{whole_on, whole_over, part_cut}
use Rattle.session.proofs.session.Session.take_byte.Goals as goal

pub returns-then-byte-ne10-clause-on : goal.returns-then-byte-ne10-clause-on
returns-then-byte-ne10-clause-on g c = λ step start ahead begun bytes v.
    served_byte start ahead begun _ _ _ _ bytes c.args.byte v (not_feed c.args.byte c.if-byte-ne10.true) c.push.ensures

pub returns-in_err-flush_before-clause-cut_off : goal.returns-in_err-flush_before-clause-cut_off
returns-in_err-flush_before-clause-cut_off g c =
    let stand = stand_of c.args.self.now in
    let cut : IsCut (g.C.Clock.tells c.args.clock.now) stand stand c.args.line.now (g.K.Sink.taken c.args.sink.now) (g.K.Sink.taken c.flush_before.new.sink) (c.args.byte ∷ []) =
    λ start ahead begun bytes v. cut_off_more start ahead begun _ _ bytes (c.args.byte ∷ []) (cut_off_waiting start ahead begun _ _ _ _ bytes v c.in_err-flush_before.ensures.front) in
    at_error _ cut

pub returns-clause-on : goal.returns-clause-on
returns-clause-on g c = λ ok start ahead begun bytes v.
    let w = served_flushed start ahead begun _ _ _ _ _ bytes c.in_ok-flush_before.ensures.said v in
    whole_on start ahead begun _ _ _ _ _ _ bytes _ c.args.byte c.answer-step.result w (is_feed c.args.byte c.if-byte-ne10.false) c.clear.ensures (c.ended.ensures ∙ ap ended_line c.bytes-2.ensures) ok c.answer-step.ensures.whole

pub returns-clause-over : goal.returns-clause-over
returns-clause-over g c = λ ok start ahead begun bytes v.
    let w = served_flushed start ahead begun _ _ _ _ _ bytes c.in_ok-flush_before.ensures.said v in
    whole_over start ahead begun _ _ _ _ _ bytes _ c.args.byte c.answer-step.result w (is_feed c.args.byte c.if-byte-ne10.false) (c.ended.ensures ∙ ap ended_line c.bytes-2.ensures) ok c.answer-step.ensures.whole

pub returns-clause-cut_off : goal.returns-clause-cut_off
returns-clause-cut_off g c =
    on_err_weaker c.answer-step.result
    (λ t start ahead begun bytes v.
    let w = served_flushed start ahead begun _ _ _ _ _ bytes c.in_ok-flush_before.ensures.said v in
    part_cut start ahead begun _ _ _ _ _ bytes _ c.args.byte w (is_feed c.args.byte c.if-byte-ne10.false) (c.ended.ensures ∙ ap ended_line c.bytes-2.ensures) t)
    c.answer-step.ensures.in_part
