use Rattle.std.proofs.Common.{◌+◌, ◌≤◌, length, get_or, take, sum_by, arith, ap, ◌∙◌, sym}
use Rattle.std.proofs.lemmas.List.{take_all, get_or_default}
use Rattle.std.proofs.lemmas.List.Sums.{sum_by_more, sum_by_more_le_part}
use Rattle.network_laws.specs.declared.rows.Row.{Row}
use Rattle.network_laws.specs.Networks.{amount_in, place}
use Rattle.net_positions.specs.Tables.{unmatched_part}
use Rattle.net_positions.proofs.PairsByRows.{bilateral_by_rows}
use Rattle.net_positions.proofs.CursorFacts.{for_later}
use Rattle.net_positions.proofs.bilateral.bilateral_gross.Goals as goal

abbrev no_row : Row
no_row = record { seller = 0; buyer = 0; amount = 0 }

pub overflow_add-sum : goal.overflow_add-sum
overflow_add-sum c =
    let y = c.args.network.now in
    let rows = c.rows-rows.result.now in
    let k = c.loop-row.row-index in
    omega (arith, c.loop-row.invariant.sum, c.saturating_sub-sum.ensures, sum_by_more_le_part (unmatched_part y) (λ (r : Row). r.amount) rows k no_row c.loop-row-test.true (λ r. omega arith), c.rows-rows.ensures.rows.within, c.amount_back.ensures.amount, ap (λ xs. amount_in xs (get_or rows k no_row).buyer (get_or rows k no_row).seller) c.rows-rows.ensures.value, ap (λ xs. sum_by (unmatched_part y) (take k xs)) c.rows-rows.ensures.value)

pub loop-row-preserved : goal.loop-row-preserved
loop-row-preserved c =
    let y = c.args.network.now in
    let rows = c.rows-rows.result.now in
    let k = c.loop-row.row-index in
    let row = get_or rows k no_row in
    let same = c.rows-rows.ensures.value in
    record {
      sum = omega (arith, c.loop-row.invariant.sum, c.saturating_sub-sum.ensures, sum_by_more (unmatched_part y) rows k no_row c.loop-row-test.true, c.amount_back.ensures.amount, ap (λ xs. amount_in xs row.buyer row.seller) same, ap (λ xs. sum_by (unmatched_part y) (take k xs)) same, ap (λ xs. sum_by (unmatched_part y) (take (k + 1) xs)) same);
      cursors = λ i d le l.
          let later : row.seller ≤ (get_or rows i d).seller = omega (arith, c.rows-rows.ensures.rows.rising k i d (omega arith) l, ap place (get_or_default rows k no_row d c.loop-row-test.true), (c.rows-rows.ensures.rows.good k no_row c.loop-row-test.true).buyer, (c.rows-rows.ensures.rows.good i d l).buyer, c.rows-rows.ensures.network.few) in
          for_later rows c.amount_back.new.cursors row.seller (get_or rows i d).seller later c.amount_back.ensures.cursors;
    }

pub returns : goal.returns
returns c =
    let y = c.args.network.now in
    c.loop-row.invariant.sum ∙ ap (sum_by (unmatched_part y)) (take_all c.loop-row.row-index y.rows (omega (arith, c.loop-row-test.false, ap length c.rows-rows.ensures.value))) ∙ sym (bilateral_by_rows y c.rows-rows.ensures.network)
