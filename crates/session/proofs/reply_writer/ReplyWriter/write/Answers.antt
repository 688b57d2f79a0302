use Rattle.std.proofs.Common.{◌≤◌, length, arith}
use Rattle.std.proofs.lemmas.Result.{on_ok_weaker, on_err_weaker}
use Rattle.statements.specs.Details.{details_of}
use Rattle.session.proofs.PendingFacts.{says_as, says_both, front_waiting, front_both}
use Rattle.session.proofs.ServedFacts.{at_error}
use Rattle.session.proofs.TextFacts.{text_more, text_whole, front_of_reply}
use Rattle.session.proofs.reply_writer.ReplyWriter.write.Goals as goal

pub returns-in_err-put-2-clause-front : goal.returns-in_err-put-2-clause-front
returns-in_err-put-2-clause-front g c =
    at_error _ (front_of_reply _ _ _ c.args.roster.now c.args.given.now.reply.now c.loop-index.index (front_waiting _ _ _ _ _ _ c.loop-index.invariant.said c.in_err-put-2.ensures.front))

pub loop-index-preserved : goal.loop-index-preserved
loop-index-preserved g c = record {
  said = says_as _ _ _ _ _ _ (text_more c.args.roster.now c.args.given.now.reply.now c.loop-index.index c.detail_row-row.result c.detail_row-row.ensures)
      (says_both _ _ _ _ _ _ _ _ c.loop-index.invariant.said (says_as _ _ _ _ _ _ c.write_row-end.ensures.text c.in_ok-put-2.ensures.said));
  never_falls = omega (arith, c.loop-index.invariant.never_falls, c.in_ok-put-2.ensures.counts.0);
}

pub returns-clause-said : goal.returns-clause-said
returns-clause-said g c =
    let past : length (details_of c.args.given.now.reply.now.answer) ≤ c.loop-index.index = omega (arith, c.detail_count-index-end.ensures, c.loop-index-test.false) in
    let whole = says_as _ _ _ _ _ _ (text_whole c.args.roster.now c.args.given.now.reply.now c.loop-index.index past) c.loop-index.invariant.said in
    on_ok_weaker c.write_raw.result (λ said. says_both _ _ _ _ _ _ _ _ whole said) c.write_raw.ensures.said

pub returns-clause-front : goal.returns-clause-front
returns-clause-front g c =
    let past : length (details_of c.args.given.now.reply.now.answer) ≤ c.loop-index.index = omega (arith, c.detail_count-index-end.ensures, c.loop-index-test.false) in
    let whole = says_as _ _ _ _ _ _ (text_whole c.args.roster.now c.args.given.now.reply.now c.loop-index.index past) c.loop-index.invariant.said in
    on_err_weaker c.write_raw.result (λ front. front_both _ _ _ _ _ _ _ whole front) c.write_raw.ensures.front
