-- Trades have one network for each product.
use Rattle.std.proofs.Common.{◌≡◌, ◌≢◌, ◌∙◌, sym, ap, refl, subst, ℕ, suc, ◌<◌, ◌≤◌, List, [], ◌∷◌, length, get_or, arith, ⊎_elim}
use Rattle.std.proofs.lemmas.Bool.{cases_eq, cases_order}
use Rattle.std.proofs.lemmas.List.Elements.{All-head, All-tail}
use Rattle.std.proofs.lemmas.List.Sums.{sum_by-cons}
use Rattle.std.specs.List.{All}
use Rattle.network_laws.specs.declared.rows.Row.{Row}
use Rattle.network_laws.specs.Networks.{NetworkData, IsGoodRow, IsRising, amount_in, pair_part, place}
use Rattle.network_laws.proofs.RowOrder.{amount_none}
use Rattle.network_laws.proofs.RowSums.{pair_part-same}
use Rattle.command_types.specs.Roster.{Rows}
use Rattle.trade_file.specs.declared.file_trade.FileTrade.{FileTrade}
use Rattle.trade_file.specs.Networks.{IsNetworkOf}

same_row : (x y : Row) → x.seller ≡ y.seller → x.buyer ≡ y.buyer → x.amount ≡ y.amount → x ≡ y
same_row x y s b a =
    let P : Row → Type 0 = λ r. x ≡ r in
    let one : P (record { seller = y.seller; buyer = x.buyer; amount = x.amount }) = ap (λ n. record { seller = n; buyer = x.buyer; amount = x.amount }) s in
    let two : P (record { seller = y.seller; buyer = y.buyer; amount = x.amount }) = subst (λ n. P (record { seller = y.seller; buyer = n; amount = x.amount })) b one in
    subst (λ n. P (record { seller = y.seller; buyer = y.buyer; amount = n })) a two

-- the amount of the first row's pair
head_amount : (x : Row) (xs : List Row) → IsRising (x ∷ xs) → amount_in (x ∷ xs) x.seller x.buyer ≡ x.amount
head_amount x xs rising =
    let none : amount_in xs x.seller x.buyer ≡ 0 = amount_none xs x.seller x.buyer (λ k d l e. omega (arith, rising 0 (suc k) d (omega arith) (omega arith), e)) in
    omega (arith, sum_by-cons (pair_part x.seller x.buyer) x xs, pair_part-same x, none)

-- a pair before the first row has no amount
none_before : (x y : Row) (ys : List Row) → IsRising (y ∷ ys) → place x < place y → amount_in (y ∷ ys) x.seller x.buyer ≡ 0
none_before x y ys rising before =
    amount_none (y ∷ ys) x.seller x.buyer (λ k d l e.
    ⊎_elim (λ (z : k ≡ 0). omega (arith, before, e, ap (λ n. place (get_or (y ∷ ys) n d)) z))
    (λ (nz : k ≢ 0). omega (arith, before, e, rising 0 k d (omega arith) l))
    (cases_eq k 0))

tail_rising : (x : Row) (xs : List Row) → IsRising (x ∷ xs) → IsRising xs
tail_rising x xs rising = λ i j d l l'. rising (suc i) (suc j) d (omega arith) (omega arith)

AreSame : ℕ → List Row → List Row → Type 0
AreSame n xs ys = (i j : ℕ) → i < n → j < n → amount_in xs i j ≡ amount_in ys i j

-- the first rows are one
same_head : (n : ℕ) (x y : Row) (xs ys : List Row) → n ≤ 256 → IsGoodRow n x → IsGoodRow n y → IsRising (x ∷ xs) → IsRising (y ∷ ys) → AreSame n (x ∷ xs) (y ∷ ys) → x ≡ y
unfolding AreSame
same_head n x y xs ys few good_x good_y rising_x rising_y same =
    let at_x = same x.seller x.buyer good_x.seller good_x.buyer in
    let at_y = same y.seller y.buyer good_y.seller good_y.buyer in
    let mine = head_amount x xs rising_x in
    let yours = head_amount y ys rising_y in
    ⊎_elim
    (λ (e : place x ≡ place y).
    let s : x.seller ≡ y.seller = omega (arith, e, good_x.buyer, good_y.buyer) in
    let b : x.buyer ≡ y.buyer = omega (arith, e, s) in
    let a : x.amount ≡ y.amount = sym mine ∙ at_x ∙ ap (λ k. amount_in (y ∷ ys) k x.buyer) s ∙ ap (amount_in (y ∷ ys) y.seller) b ∙ yours in
    same_row x y s b a)
    (⊎_elim
    (λ (l : place x < place y). absurd (omega (arith, good_x.positive, mine, at_x, none_before x y ys rising_y l)))
    (λ (l : place y < place x). absurd (omega (arith, good_y.positive, yours, at_y, none_before y x xs rising_x l))))
    (cases_order (place x) (place y))

one_rows : (n : ℕ) (xs ys : List Row) → n ≤ 256 → All (IsGoodRow n) xs → All (IsGoodRow n) ys → IsRising xs → IsRising ys → AreSame n xs ys → xs ≡ ys
unfolding AreSame
one_rows n [] [] few good_x good_y rising_x rising_y same = refl
one_rows n [] (y ∷ ys) few good_x good_y rising_x rising_y same =
    let good = All-head (IsGoodRow n) y ys good_y in
    absurd (omega (arith, good.positive, head_amount y ys rising_y, same y.seller y.buyer good.seller good.buyer))
one_rows n (x ∷ xs) [] few good_x good_y rising_x rising_y same =
    let good = All-head (IsGoodRow n) x xs good_x in
    absurd (omega (arith, good.positive, head_amount x xs rising_x, same x.seller x.buyer good.seller good.buyer))
one_rows n (x ∷ xs) (y ∷ ys) few good_x good_y rising_x rising_y same =
    let head : x ≡ y = same_head n x y xs ys few (All-head (IsGoodRow n) x xs good_x) (All-head (IsGoodRow n) y ys good_y) rising_x rising_y same in
    let tail : xs ≡ ys =
    one_rows n xs ys few (All-tail (IsGoodRow n) x xs good_x) (All-tail (IsGoodRow n) y ys good_y) (tail_rising x xs rising_x) (tail_rising y ys rising_y)
    (λ i j in_i in_j. omega (arith, same i j in_i in_j, ap (pair_part i j) head, sum_by-cons (pair_part i j) x xs, sum_by-cons (pair_part i j) y ys)) in
    ap (λ (r : Row). r ∷ xs) head ∙ ap (λ (rest : List Row). y ∷ rest) tail

pub one_network : (rows : Rows) (trades : List FileTrade) (product : ℕ) (y z : NetworkData) → IsNetworkOf rows trades product y → IsNetworkOf rows trades product z → y ≡ z
unfolding AreSame
one_network rows trades product y z of_y of_z =
    let members : y.members ≡ z.members = of_y.members ∙ sym of_z.members in
    let same : AreSame y.members y.rows z.rows = λ i j in_i in_j.
    (let i_in : i < length rows.members = omega (arith, of_y.members) in
    let j_in : j < length rows.members = omega (arith, of_y.members) in
    of_y.amounts i j i_in j_in ∙ sym (of_z.amounts i j i_in j_in)) in
    let good_z : All (IsGoodRow y.members) z.rows = subst (λ n. All (IsGoodRow n) z.rows) (sym members) of_z.good.rows.good in
    let all : y.rows ≡ z.rows = one_rows y.members y.rows z.rows of_y.good.few of_y.good.rows.good good_z of_y.good.rows.rising of_z.good.rows.rising same in
    let first : y ≡ record { members = y.members; rows = z.rows } = ap (λ (rs : List Row). record { members = y.members; rows = rs }) all in
    first ∙ ap (λ n. record { members = n; rows = z.rows }) members
