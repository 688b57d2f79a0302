use Rattle.std.proofs.Common.{◌∙◌, sym}
use Rattle.std.proofs.lemmas.Result.{on_ok_weaker, on_err_weaker}
use Rattle.session.specs.Standing.{stand_of, EndsCut}
use Rattle.session.proofs.ServedFacts.{at_error, written_none, written_last, cut_off_last, part_of_whole, is_empty, not_empty}
use Rattle.session.proofs.session.Session.take_end.Goals as goal

pub returns-then-is_empty-clause-written : goal.returns-then-is_empty-clause-written
returns-then-is_empty-clause-written g c = λ start ahead begun bytes v.
    written_none start ahead begun _ _ _ bytes v c.requires.waits (sym c.bytes.ensures ∙ is_empty c.bytes.result.now (sym c.is_empty.ensures ∙ c.if-is_empty.true))

pub returns-clause-written : goal.returns-clause-written
returns-clause-written g c =
    on_ok_weaker c.flush.result
    (λ took start ahead begun bytes v.
    let some = not_empty c.bytes.result.now (sym c.is_empty.ensures ∙ c.if-is_empty.false) in
    let whole = rw c.bytes-2.ensures at c.in_ok-answer.ensures.whole in
    written_last start ahead begun _ _ _ _ _ _ bytes _ v (λ e. some (c.bytes.ensures ∙ e)) whole took)
    c.flush.ensures.takes

pub returns-clause-cut_off : goal.returns-clause-cut_off
returns-clause-cut_off g c =
    on_err_weaker c.flush.result
    (λ front start ahead begun bytes v.
    let some = not_empty c.bytes.result.now (sym c.is_empty.ensures ∙ c.if-is_empty.false) in
    let whole = rw c.bytes-2.ensures at c.in_ok-answer.ensures.whole in
    cut_off_last start ahead begun _ _ _ _ _ bytes v (λ e. some (c.bytes.ensures ∙ e)) (part_of_whole _ _ _ _ _ _ _ whole front))
    c.flush.ensures.front

pub returns-in_err-answer-clause-cut_off : goal.returns-in_err-answer-clause-cut_off
returns-in_err-answer-clause-cut_off g c =
    let some = not_empty c.bytes.result.now (sym c.is_empty.ensures ∙ c.if-is_empty.false) in
    let part = rw c.bytes-2.ensures at c.in_err-answer.ensures.in_part in
    let cut : EndsCut (g.C.Clock.tells c.args.clock.now) (stand_of c.args.self.now) (stand_of c.answer.new.self) c.args.line.now (g.K.Sink.taken c.args.sink.now) (g.K.Sink.taken c.answer.new.sink) =
    λ start ahead begun bytes v. cut_off_last start ahead begun _ _ _ _ _ bytes v (λ e. some (c.bytes.ensures ∙ e)) part in
    at_error _ cut
