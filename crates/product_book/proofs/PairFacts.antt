-- The places of members and of ordered pairs of them, and what the live trades of a pair come to.
use Rattle.std.proofs.Common.{◌≡◌, ℕ, ◌+◌, ◌*◌, ◌≤◌, ◌<◌, ◌==◌, ◌&&◌, Bool, true, false, List, [], ◌∷◌, if◌then◌else◌, arith, refl, ap, sym, ◌∙◌, ⊎_elim, mul_comm}
use Rattle.std.proofs.lemmas.Bool.{cases_eq, cases_lt, eq-eqb, ne_eqb, and_parts}
use Rattle.std.proofs.lemmas.Bool.Decides.{Decides-eqb}
use Rattle.std.proofs.lemmas.Nat.{mul-add-lt}
use Rattle.std.proofs.lemmas.List.Sums.{sum_by-cons}
use Rattle.command_types.specs.declared.trade.TradeRow.{TradeRow}
use Rattle.command_types.specs.Books.{is_between}
use Rattle.command_types.specs.Trades.{is_live, total_where, pair_sum_of}
use Rattle.product_book.specs.Book.{AreTrades}
use Rattle.product_book.specs.Kept.{member_place, pair_place, trade_place}

-- two places of members are the same only for one member in one product
pub same_product : (members p s q t : ℕ) → s < members → t < members → member_place members p s ≡ member_place members q t → p ≡ q
same_product members p s q t small low e =
    ⊎_elim (λ (same : p ≡ q). same)
    (λ (ne : p ≡ q → ⊥).
    ⊎_elim (λ (less : p < q). absurd (omega (arith, mul-add-lt p members s q less small, mul_comm members q, e)))
    (λ (more : q ≤ p). absurd (let above : q < p = omega (arith, more, ne) in omega (arith, mul-add-lt q members t p above low, mul_comm members p, e)))
    (cases_lt p q))
    (cases_eq p q)

pub same_member : (members p s q t : ℕ) → p ≡ q → member_place members p s ≡ member_place members q t → s ≡ t
same_member members p s q t same e = omega (arith, e, ap (λ k. k * members) same)

-- the place of a pair is among all
pub place_low : (members products product seller buyer : ℕ) → product < products → seller < members → buyer < members → pair_place members product seller buyer < members * (members * products)
place_low members products product seller buyer low small less =
    mul-add-lt (member_place members product seller) members buyer (members * products) (mul-add-lt product members seller products low small) less

-- two places of pairs are the same only for one pair in one product
place_parts : (members p s b q t c : ℕ) → s < members → t < members → b < members → c < members → pair_place members p s b ≡ pair_place members q t c → (p ≡ q) × (s ≡ t) × (b ≡ c)
place_parts members p s b q t c ls lt lb lc e =
    let line = same_product members (member_place members p s) b (member_place members q t) c lb lc e in
    let product = same_product members p s q t ls lt line in
    (product, same_member members p s q t product line, same_member members (member_place members p s) b (member_place members q t) c line e)

-- the test by the place of a pair is that by its product and its members
pub same_test : (members product seller buyer : ℕ) (row : TradeRow) → row.seller < members → row.buyer < members → seller < members → buyer < members
    → (trade_place members row == pair_place members product seller buyer) ≡ is_between product seller buyer row
same_test members product seller buyer row ls lb ms mb =
    ⊎_elim (λ (e : trade_place members row ≡ pair_place members product seller buyer).
    let parts = place_parts members row.product row.seller row.buyer product seller buyer ls ms lb mb e in
    rw (eq-eqb (trade_place members row) (pair_place members product seller buyer) e, eq-eqb row.product product parts.0, eq-eqb row.seller seller parts.1, eq-eqb row.buyer buyer parts.2) refl)
    (λ (ne : trade_place members row ≡ pair_place members product seller buyer → ⊥).
    rw (ne_eqb (trade_place members row) (pair_place members product seller buyer) ne) (sym (not_between (is_between product seller buyer row) refl ne)))
    (cases_eq (trade_place members row) (pair_place members product seller buyer))
  where
    not_between : (b : Bool) → is_between product seller buyer row ≡ b → (trade_place members row ≡ pair_place members product seller buyer → ⊥) → is_between product seller buyer row ≡ false
    not_between false e ne = e
    not_between true e ne =
        let outer = and_parts ((row.product == product) && (row.seller == seller)) (row.buyer == buyer) e in
        let inner = and_parts (row.product == product) (row.seller == seller) outer.0 in
        let p : row.product ≡ product = (Decides-eqb row.product product).0 inner.0 in
        let s : row.seller ≡ seller = (Decides-eqb row.seller seller).0 inner.1 in
        let b : row.buyer ≡ buyer = (Decides-eqb row.buyer buyer).0 outer.1 in
        absurd (ne (ap (λ n. pair_place members n row.seller row.buyer) p ∙ ap (λ n. pair_place members product n row.buyer) s ∙ ap (λ n. pair_place members product seller n) b))

-- what a trade adds to the sum at the place of a pair
abbrev pair_part : ℕ → ℕ → ℕ → TradeRow → ℕ
pair_part product seller buyer row = if (row.product == product) && is_live row.state && (row.seller == seller) && (row.buyer == buyer) then row.amount else 0

moved_test : (p l s t : Bool) (amount : ℕ) → (if (p && s && t) && l then amount else 0) ≡ (if p && l && s && t then amount else 0)
moved_test false l s t amount = refl
moved_test true false false t amount = refl
moved_test true false true false amount = refl
moved_test true false true true amount = refl
moved_test true true false t amount = refl
moved_test true true true false amount = refl
moved_test true true true true amount = refl

-- the sum at a pair's place is what its live trades come to
pub pair_read : (members products n p s b : ℕ) (rows : List TradeRow) → AreTrades members products n rows → s < members → b < members → total_where (λ row. (trade_place members row == pair_place members p s b) && is_live row.state) rows ≡ pair_sum_of p s b rows
pair_read members products n p s b [] are ls lb = refl
pair_read members products n p s b (row ∷ rows) (here, later) ls lb =
    let test = same_test members p s b row here.seller here.buyer ls lb in
    let own : (if (trade_place members row == pair_place members p s b) && is_live row.state then row.amount else 0) ≡ pair_part p s b row =
    ap (λ (t : Bool). if t && is_live row.state then row.amount else 0) test ∙ moved_test (row.product == p) (is_live row.state) (row.seller == s) (row.buyer == b) row.amount in
    omega (
      arith,
      sum_by-cons (λ (row : TradeRow). if (trade_place members row == pair_place members p s b) && is_live row.state then row.amount else 0) row rows,
      sum_by-cons (pair_part p s b) row rows,
      own,
      pair_read members products (n + 1) p s b rows later ls lb,
    )

-- a pair that there is not owes nothing
pub no_pair : (members products n product seller buyer : ℕ) (rows : List TradeRow) → AreTrades members products n rows → (product < products → seller < members → buyer < members → ⊥) → pair_sum_of product seller buyer rows ≡ 0
no_pair members products n product seller buyer [] are out = refl
no_pair members products n product seller buyer (row ∷ rows) (here, later) out =
    omega (arith, sum_by-cons (pair_part product seller buyer) row rows, none ((row.product == product) && is_live row.state && (row.seller == seller) && (row.buyer == buyer)) refl, no_pair members products (n + 1) product seller buyer rows later out)
  where
    none : (b : Bool) → ((row.product == product) && is_live row.state && (row.seller == seller) && (row.buyer == buyer)) ≡ b → pair_part product seller buyer row ≡ 0
    none false e = ap (λ (b : Bool). if b then row.amount else 0) e
    none true e =
        let outer = and_parts ((row.product == product) && is_live row.state && (row.seller == seller)) (row.buyer == buyer) e in
        let middle = and_parts ((row.product == product) && is_live row.state) (row.seller == seller) outer.0 in
        let inner = and_parts (row.product == product) (is_live row.state) middle.0 in
        let p : row.product ≡ product = (Decides-eqb row.product product).0 inner.0 in
        let s : row.seller ≡ seller = (Decides-eqb row.seller seller).0 middle.1 in
        let b : row.buyer ≡ buyer = (Decides-eqb row.buyer buyer).0 outer.1 in
        absurd (out (omega (arith, here.product, p)) (omega (arith, here.seller, s)) (omega (arith, here.buyer, b)))
