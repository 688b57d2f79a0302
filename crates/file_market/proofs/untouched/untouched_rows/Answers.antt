use Rattle.std.proofs.Common.{ℕ, ◌++◌, List, length, sym, ap, ◌∙◌}
use Rattle.network_laws.specs.declared.rows.LimitRow.{LimitRow}
use Rattle.command_types.specs.Books.{listed_below}
use Rattle.tolerance_sets.proofs.Walk.{listed_below-next}
use Rattle.file_market.specs.Untouched.{market_row, seller_row}
use Rattle.file_market.proofs.UntouchedLimits.{seller_rows}
use Rattle.file_market.proofs.untouched.untouched_rows.Goals as goal

pub loop-seller-preserved : goal.loop-seller-preserved
loop-seller-preserved c =
    let members = c.args.members.now in
    let network = c.args.network.now in
    let n : ℕ = length members in
    let i = c.loop-seller.seller in
    let buyers = c.buyers_of-buyers.result.now in
    let all : ℕ → List LimitRow = λ k. listed_below n (market_row c.args.mode members network k) in
    c.in_ok-add_seller.ensures ∙ ap (λ xs. xs ++ listed_below n (seller_row buyers network i)) c.loop-seller.invariant
    ∙ ap (λ xs. listed_below i all ++ xs) (seller_rows n buyers c.args.mode members network i c.buyers_of-buyers.ensures.grows) ∙ sym (listed_below-next i all)
