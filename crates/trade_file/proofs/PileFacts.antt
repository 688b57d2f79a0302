-- The trades of a product's pile, and what their network is.
use Rattle.std.proofs.Common.{◌≡◌, ◌≢◌, ℕ, ◌+◌, ◌<◌, ◌++◌, ◌==◌, not, Bool, true, false, List, [], ◌∷◌, length, get_or, refl, sym, ap, ◌∙◌, subst, arith, ⊎_elim}
use Rattle.std.specs.Prelude.{filter, sum_by}
use Rattle.std.proofs.lemmas.Bool.{cases_eq}
use Rattle.std.proofs.lemmas.List.{get_or_append_left, get_or_push, length_push}
use Rattle.std.proofs.lemmas.List.Elements.{All-filter}
use Rattle.std.proofs.lemmas.List.Filters.{sum_by-filter_both}
use Rattle.std.proofs.lemmas.List.Sums.{sum_by-cons}
use Rattle.network_laws.specs.Networks.{NetworkData}
use Rattle.command_types.specs.Roster.{Rows}
use Rattle.trade_file.specs.declared.file_trade.FileTrade.{FileTrade}
use Rattle.trade_file.specs.TradeFile.{AreFileTrades, IsFileTrade, product_part}
use Rattle.trade_file.specs.Networks.{IsNetworkOf, trade_part, pair_total}
use Rattle.trade_file.specs.Piles.{is_of}

-- a product's trades are trades of the file, and have all sums of the product
pub pile_trades : (rows : Rows) (trades : List FileTrade) (product : ℕ) → AreFileTrades rows trades → AreFileTrades rows (filter (is_of product) trades)
pile_trades rows trades product h = record {
  each = All-filter (is_of product) (IsFileTrade rows) trades h.each;
  within = λ other. omega (arith, h.within other, sum_by-filter_both (is_of product) (λ trade. not (is_of product trade)) (λ trade. refl) (product_part other) trades);
}

pile_sum : (trades : List FileTrade) (product i j : ℕ) → pair_total (filter (is_of product) trades) product i j ≡ pair_total trades product i j
pile_sum [] product i j = refl
pile_sum (trade ∷ trades) product i j = by (trade.product == product) refl (pile_sum trades product i j)
  where
    by : (t : Bool) → (trade.product == product) ≡ t → pair_total (filter (is_of product) trades) product i j ≡ pair_total trades product i j → pair_total (filter (is_of product) (trade ∷ trades)) product i j ≡ pair_total (trade ∷ trades) product i j
    by true e rest =
        let kept : filter (is_of product) (trade ∷ trades) ≡ trade ∷ filter (is_of product) trades = rw e refl in
        omega (arith, rest, ap (sum_by (trade_part product i j)) kept, sum_by-cons (trade_part product i j) trade trades, sum_by-cons (trade_part product i j) trade (filter (is_of product) trades))
    by false e rest =
        let kept : filter (is_of product) (trade ∷ trades) ≡ filter (is_of product) trades = rw e refl in
        let nothing : trade_part product i j trade ≡ 0 = rw e refl in
        omega (arith, rest, ap (sum_by (trade_part product i j)) kept, sum_by-cons (trade_part product i j) trade trades, nothing)

pub network_whole : (rows : Rows) (trades pile : List FileTrade) (product : ℕ) (network : NetworkData) → pile ≡ filter (is_of product) trades → IsNetworkOf rows pile product network → IsNetworkOf rows trades product network
network_whole rows trades pile product network e h = record {
  members = h.members;
  good = h.good;
  amounts = λ i j in_i in_j. h.amounts i j in_i in_j ∙ ap (λ xs. pair_total xs product i j) e ∙ pile_sum trades product i j;
}

-- one network more
abbrev pub AreFirst : Rows → List FileTrade → ℕ → List NetworkData → Type 0
AreFirst rows trades n networks = (length networks ≡ n) × ((k : ℕ) (d : NetworkData) → k < length networks → IsNetworkOf rows trades k (get_or networks k d))

pub one_more_network : (rows : Rows) (trades : List FileTrade) (n : ℕ) (networks : List NetworkData) (network : NetworkData) → AreFirst rows trades n networks → IsNetworkOf rows trades n network → AreFirst rows trades (n + 1) (networks ++ network ∷ [])
one_more_network rows trades n networks network h new = (omega (arith, length_push networks network, h.0), each)
  where
    each : (k : ℕ) (d : NetworkData) → k < length (networks ++ network ∷ []) → IsNetworkOf rows trades k (get_or (networks ++ network ∷ []) k d)
    each k d l =
        ⊎_elim (λ (e : k ≡ n). subst (IsNetworkOf rows trades k) (sym (get_or_push networks network d k (omega (arith, e, h.0)))) (subst (λ m. IsNetworkOf rows trades m network) (sym e) new))
        (λ (ne : k ≢ n). let before : k < length networks = omega (arith, l, length_push networks network, h.0, ne) in subst (IsNetworkOf rows trades k) (sym (get_or_append_left networks (network ∷ []) d k before)) (h.1 k d before))
        (cases_eq k n)
