-- Whether trades are frozen is nothing to positions and grosses.
use Rattle.std.proofs.Common.{◌≡◌, ℕ, ◌==◌, ◌&&◌, Bool, List, [], ◌∷◌, if◌then◌else◌, refl, ap, ◌∙◌, arith}
use Rattle.std.specs.Prelude.{pos, ◌-ℤ◌}
use Rattle.std.proofs.lemmas.List.Sums.{sum_by-cons}
use Rattle.command_types.specs.declared.trade.TradeRow.{TradeRow}
use Rattle.command_types.specs.Trades.{total_where, counts, is_live, gross_of, sold_by, bought_by}
use Rattle.command_types.specs.Plans.{thawed_row, thawed}
use Rattle.acceptance.specs.Laws.{position}

total_thawed : (test : TradeRow → Bool) (rows : List TradeRow) → ((row : TradeRow) → test (thawed_row row) ≡ test row) → total_where test (thawed rows) ≡ total_where test rows
total_thawed test [] same = refl
total_thawed test (row ∷ rows) same =
    let part = λ (r : TradeRow). if test r then r.amount else 0 in
    let here : part (thawed_row row) ≡ part row = ap (λ (t : Bool). if t then row.amount else 0) (same row) in
    omega (arith, here, sum_by-cons part row rows, sum_by-cons part (thawed_row row) (thawed rows), total_thawed test rows same)

pub gross_thawed : (product : ℕ) (rows : List TradeRow) → gross_of product (thawed rows) ≡ gross_of product rows
gross_thawed product rows = total_thawed (λ row. (row.product == product) && counts row.state) rows (λ row. refl)

pub position_thawed : (product member : ℕ) (rows : List TradeRow) → position product member (thawed rows) ≡ position product member rows
position_thawed product member rows =
    let sold = total_thawed (λ row. (row.product == product) && is_live row.state && (row.seller == member)) rows (λ row. refl) in
    let bought = total_thawed (λ row. (row.product == product) && is_live row.state && (row.buyer == member)) rows (λ row. refl) in
    ap (λ n. pos n -ℤ pos (bought_by product member (thawed rows))) sold ∙ ap (λ n. pos (sold_by product member rows) -ℤ pos n) bought
