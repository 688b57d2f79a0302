use Rattle.std.proofs.Common.{◌≡◌, ◌++◌, sym, ap, ◌∙◌}
use Rattle.std.specs.Prelude.{codes}
use Rattle.std.proofs.lemmas.Result.{on_ok_weaker, on_err_weaker}
use Rattle.command_types.specs.Details.{raw_text}
use Rattle.session.proofs.PendingFacts.{says_end, front_piece}
use Rattle.session.proofs.reply_writer.ReplyWriter.write_raw.Goals as goal

pub returns-clause-said : goal.returns-clause-said
returns-clause-said g c =
    let whole : raw_text c.args.answer.now ≡ c.rows.result.now ++ codes "\n" = ap raw_text c.in-EntryBytes.is ∙ ap (λ bytes. bytes ++ codes "\n") (sym c.rows.ensures) in
    on_ok_weaker c.put.result (λ said. says_end _ _ _ _ _ _ c.rows.result.now (codes "\n") _ whole c.in_ok-put_long.ensures.said said) c.put.ensures.said

pub returns-clause-front : goal.returns-clause-front
returns-clause-front g c =
    let whole : raw_text c.args.answer.now ≡ c.rows.result.now ++ codes "\n" = ap raw_text c.in-EntryBytes.is ∙ ap (λ bytes. bytes ++ codes "\n") (sym c.rows.ensures) in
    on_err_weaker c.put.result (λ front. front_piece _ _ _ _ _ c.rows.result.now (codes "\n") _ whole c.in_ok-put_long.ensures.said front) c.put.ensures.front
