-- The networks of the frozen trades, product by product, and lists with one more element.
use Rattle.std.proofs.Common.{◌≡◌, ◌≢◌, ℕ, zero, suc, ◌<◌, ◌≤◌, ◌++◌, List, [], ◌∷◌, length, get_or, slice_get, Some, refl, sym, ap, ◌∙◌, arith, ⊎_elim}
use Rattle.std.specs.Prelude.{All}
use Rattle.std.proofs.lemmas.Bool.{cases_eq, cases_lt}
use Rattle.std.proofs.lemmas.List.{length_push}
use Rattle.std.proofs.lemmas.Option.{slice_get_within}
use Rattle.network_laws.specs.declared.rows.Row.{Row}
use Rattle.network_laws.specs.Networks.{NetworkData, IsGoodRow, amount_in, pair_part}
use Rattle.network_laws.proofs.RowOrder.{sum_by-none}
use Rattle.network_laws.proofs.RowSums.{pair_part-seller, pair_part-buyer}
use Rattle.command_types.specs.declared.trade.TradeRow.{TradeRow}
use Rattle.command_types.specs.Books.{listed_below, frozen_network}
use Rattle.acceptance.specs.Renewals.{frozen_networks}

-- no member owes itself
pub none_to_itself : (rows : List Row) (n i j : ℕ) → All (IsGoodRow n) rows → i ≡ j → amount_in rows i j ≡ 0
none_to_itself rows n i j good e = sum_by-none (pair_part i j) rows (λ k d l. none (get_or rows k d) (good k d l))
  where
    none : (row : Row) → IsGoodRow n row → pair_part i j row ≡ 0
    none row is =
        ⊎_elim (λ (s : i ≡ row.seller). pair_part-buyer i j row s (λ b. is.different (sym s ∙ e ∙ b)))
        (λ (s : i ≢ row.seller). pair_part-seller i j row s)
        (cases_eq i row.seller)

pub get_front : {T : Type 0} (xs ys : List T) (k : ℕ) → k < length xs → slice_get (xs ++ ys) k ≡ slice_get xs k
get_front [] ys k l = absurd (omega arith)
get_front (x ∷ xs) ys zero l = refl
get_front (x ∷ xs) ys (suc k) l = get_front xs ys k (omega arith)

get_last : {T : Type 0} (xs : List T) (y : T) (k : ℕ) → k ≡ length xs → slice_get (xs ++ y ∷ []) k ≡ Some y
get_last [] y zero e = refl
get_last [] y (suc k) e = absurd (omega arith)
get_last (x ∷ xs) y zero e = absurd (omega arith)
get_last (x ∷ xs) y (suc k) e = get_last xs y k (omega arith)

listed_size : {T : Type 0} (n : ℕ) (g : ℕ → T) → length (listed_below n (λ p. g p ∷ [])) ≡ n
listed_size zero g = refl
listed_size (suc n) g = omega (arith, length_push (listed_below n (λ p. g p ∷ [])) (g n), listed_size n g)

listed_get : {T : Type 0} (n p : ℕ) (g : ℕ → T) → p < n → slice_get (listed_below n (λ p. g p ∷ [])) p ≡ Some (g p)
listed_get zero p g l = absurd (omega arith)
listed_get (suc n) p g l =
    ⊎_elim (λ (lt : p < n). get_front (listed_below n (λ m. g m ∷ [])) (g n ∷ []) p (omega (arith, listed_size n g)) ∙ listed_get n p g lt)
    (λ (ge : n ≤ p). let e : n ≡ p = omega arith in get_last (listed_below n (λ m. g m ∷ [])) (g n) p (omega (arith, listed_size n g)) ∙ ap (λ m. Some (g m)) e)
    (cases_lt p n)

pub frozen_at : (members products product : ℕ) (rows : List TradeRow) → product < products → slice_get (frozen_networks members products rows) product ≡ Some (frozen_network members product rows)
frozen_at members products product rows l = listed_get products product (λ p. frozen_network members p rows) l

-- a network that stands among the frozen ones is its product's
pub frozen_is : (members products product : ℕ) (rows : List TradeRow) (old : NetworkData) → slice_get (frozen_networks members products rows) product ≡ Some old → (product < products) × (frozen_network members product rows ≡ old)
frozen_is members products product rows old is =
    let within = slice_get_within (frozen_networks members products rows) product old is in
    let l : product < products = omega (arith, listed_size products (λ p. frozen_network members p rows)) in
    let here = frozen_at members products product rows l in
    (l, cc)
