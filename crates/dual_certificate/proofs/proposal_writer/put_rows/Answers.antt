use Rattle.std.proofs.Common.{◌≡◌, ◌∙◌, ◌<◌, ◌+◌, ◌++◌, List, ℕ, [], ◌∷◌, length, take, get_or, sym, ap, arith}
use Rattle.std.proofs.lemmas.List.{take_more}
use Rattle.network_laws.specs.declared.rows.Row.{Row}
use Rattle.dual_certificate.specs.ProposalText.{rows_text}
use Rattle.dual_certificate.proofs.TextFacts.{behind, rows_push}
use Rattle.dual_certificate.proofs.proposal_writer.put_rows.Goals as goal

pub loop-row-preserved : goal.loop-row-preserved
loop-row-preserved c =
    let rows : List Row = c.rows-rows.result.now in
    let n : ℕ = c.loop-row.row-index in
    let none : Row = record { seller = 0; buyer = 0; amount = 0 } in
    let l : n < length rows = omega arith in
    let front : take (n + 1) rows ≡ take n rows ++ (get_or rows n none ∷ []) = take_more rows n none l in
    behind _ _ _ _ _ c.loop-row.invariant c.in_ok-put_row.ensures
    ∙ ap (λ t. c.args.out.now.items ++ t) (sym (ap (rows_text c.args.roster.now) front ∙ rows_push c.args.roster.now (take n rows) (get_or rows n none)))
