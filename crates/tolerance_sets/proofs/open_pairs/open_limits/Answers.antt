use Rattle.std.proofs.Common.{◌≡◌, ℕ, ◌+◌, ◌-◌, ◌++◌, List, [], Vec, Global, length, refl, ap, ◌∙◌}
use Rattle.network_laws.specs.declared.rows.LimitRow.{LimitRow}
use Rattle.command_types.specs.Books.{listed_below}
use Rattle.tolerance_sets.specs.Market.{market_limit}
use Rattle.tolerance_sets.specs.OpenPairs.{open_row, listed_from}
use Rattle.tolerance_sets.proofs.OpenPairs.{all_open, untouched_limit}
use Rattle.tolerance_sets.proofs.Walk.{one_more}
use Rattle.tolerance_sets.proofs.open_pairs.open_limits.Goals as goal
use Rattle.tolerance_sets.proofs.open_pairs.open_limits.Goals.{then-untouched+in_ok-add_to, else-untouched+in_ok-add_open_seller}

abbrev items_of : Vec LimitRow Global → List LimitRow
items_of v = v.items

pub loop-seller-preserved : goal.loop-seller-preserved
loop-seller-preserved c =
    let market = c.args.market.now in
    let n = length market.members.now in
    let i = c.loop-seller.seller in
    let before = c.loop-seller.rows.items in
    let after = c.if-untouched.rows.items in
    let f : ℕ → List LimitRow = λ k. listed_below n (market_limit market k) in
    let turned = c.turn_to.ensures.seller in
    let more : after ≡ before ++ f i → after ≡ listed_below (i + 1) f = λ e. one_more i f [] before after (f i) c.loop-seller.invariant.rows e refl in
    record {
      rows = elim c.if-untouched.branch [
        | then-untouched+in_ok-add_to w ↦
            let untouched = c.is_untouched-untouched.ensures w.if-untouched.true in
            let alike = all_open (market_limit market i) (open_row i) n (λ k l. untouched_limit market i k c.requires.unbounded untouched (c.requires.market.apart i)) in
            more (ap items_of w.rows-is ∙ w.in_ok-add_to.ensures ∙ ap (λ k. before ++ listed_from 0 (n - 0) (open_row k)) turned ∙ ap (λ xs. before ++ xs) alike)
        | else-untouched+in_ok-add_open_seller w ↦ more (ap items_of w.rows-is ∙ w.in_ok-add_open_seller.ensures ∙ ap (λ k. before ++ f k) turned)
      ];
      template = c.turn_to.ensures.rows;
      members = c.turn_to.ensures.members ∙ c.loop-seller.invariant.members;
    }
