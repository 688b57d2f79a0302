-- The network of a table that has a draft's rows is the one that the draft has.
use Rattle.std.proofs.Common.{◌≡◌, ℕ, zero, suc, ◌+◌, ◌<◌, List, [], ◌∷◌, ◌++◌, length, sym, ap, ◌∙◌, append_assoc, arith}
use Rattle.std.proofs.lemmas.List.{append-nil, get_or_default}
use Rattle.network_laws.specs.declared.rows.Row.{Row}
use Rattle.command_types.specs.declared.roster.MemberRow.{MemberRow}
use Rattle.command_types.specs.Books.{listed_below, amount_row, network_by}
use Rattle.command_types.specs.Session.{DraftRow, draft_amount, positive_row, seller_rows, network_rows}
use Rattle.pair_table.specs.PairSums.{PairSums, sum_in}
use Rattle.session.specs.Places.{name_at, HasRows}

-- the rows of a seller to all buyers below a place, and to those behind it
buyers_listed : (amount_to : List ℕ → ℕ) (f : ℕ → ℕ) (i j : ℕ) (buyers : List MemberRow) → ((k : ℕ) (other : MemberRow) → k < length buyers → f (j + k) ≡ amount_to (name_at buyers k other)) →
    listed_below (j + length buyers) (λ b. amount_row i b (f b)) ≡ listed_below j (λ b. amount_row i b (f b)) ++ seller_rows amount_to i j buyers
buyers_listed amount_to f i j [] each =
    let end : j + 0 ≡ j = omega arith in
    ap (λ n. listed_below n (λ b. amount_row i b (f b))) end ∙ sym (append-nil (listed_below j (λ b. amount_row i b (f b))))
buyers_listed amount_to f i j (buyer ∷ buyers) each =
    let row : ℕ → List Row = λ b. amount_row i b (f b) in
    let first : j ≡ j + 0 = omega arith in
    let here : f j ≡ amount_to buyer.name = ap f first ∙ each zero buyer (omega arith) in
    let next : (k : ℕ) → 1 + j + k ≡ j + suc k = λ k. omega arith in
    let rest = buyers_listed amount_to f i (1 + j) buyers (λ k other lt. ap f (next k) ∙ each (suc k) other (omega (arith, lt))) in
    let step : 1 + j ≡ suc j = omega arith in
    let end : j + length (buyer ∷ buyers) ≡ 1 + j + length buyers = omega arith in
    ap (λ n. listed_below n row) end ∙ rest ∙ ap (λ n. listed_below n row ++ seller_rows amount_to i (1 + j) buyers) step
    ∙ append_assoc (listed_below j row) (row j) (seller_rows amount_to i (1 + j) buyers)
    ∙ ap (λ n. listed_below j row ++ (positive_row i j n ++ seller_rows amount_to i (1 + j) buyers)) here

-- the rows of all sellers below a place, and of those behind it
sellers_listed : (amount_of : List ℕ → List ℕ → ℕ) (f : ℕ → ℕ → ℕ) (members : List MemberRow) (i : ℕ) (sellers : List MemberRow) →
    ((k j : ℕ) (one other : MemberRow) → k < length sellers → j < length members → f (i + k) j ≡ amount_of (name_at sellers k one) (name_at members j other)) →
    listed_below (i + length sellers) (λ a. listed_below (length members) (λ b. amount_row a b (f a b))) ≡ listed_below i (λ a. listed_below (length members) (λ b. amount_row a b (f a b))) ++ network_rows amount_of members i sellers
sellers_listed amount_of f members i [] each =
    let rows : ℕ → List Row = λ a. listed_below (length members) (λ b. amount_row a b (f a b)) in
    let end : i + 0 ≡ i = omega arith in
    ap (λ n. listed_below n rows) end ∙ sym (append-nil (listed_below i rows))
sellers_listed amount_of f members i (seller ∷ sellers) each =
    let rows : ℕ → List Row = λ a. listed_below (length members) (λ b. amount_row a b (f a b)) in
    let first : i ≡ i + 0 = omega arith in
    let none : (k : ℕ) → 0 + k ≡ k = λ k. omega arith in
    let here : rows i ≡ seller_rows (amount_of seller.name) i 0 members =
    ap (λ n. listed_below n (λ b. amount_row i b (f i b))) (sym (none (length members)))
    ∙ buyers_listed (amount_of seller.name) (f i) i 0 members (λ k other lt. ap (f i) (none k) ∙ ap (λ n. f n k) first ∙ each zero k seller other (omega arith) lt) in
    let next : (k : ℕ) → 1 + i + k ≡ i + suc k = λ k. omega arith in
    let rest = sellers_listed amount_of f members (1 + i) sellers (λ k j one other lt within. ap (λ n. f n j) (next k) ∙ each (suc k) j one other (omega (arith, lt)) within) in
    let step : 1 + i ≡ suc i = omega arith in
    let end : i + length (seller ∷ sellers) ≡ 1 + i + length sellers = omega arith in
    ap (λ n. listed_below n rows) end ∙ rest ∙ ap (λ n. listed_below n rows ++ network_rows amount_of members (1 + i) sellers) step
    ∙ append_assoc (listed_below i rows) (rows i) (network_rows amount_of members (1 + i) sellers)
    ∙ ap (λ r. listed_below i rows ++ (r ++ network_rows amount_of members (1 + i) sellers)) here

-- what a table with a draft's rows gives
pub network_of : (members : List MemberRow) (product : List ℕ) (rows : List DraftRow) (table : PairSums) → HasRows members product rows table →
    network_by table.members (sum_in table) ≡ record { members = length members; rows = network_rows (λ seller buyer. draft_amount product seller buyer rows) members 0 members }
network_of members product rows table has =
    let row : ℕ → List Row = λ i. listed_below (length members) (λ j. amount_row i j (sum_in table i j)) in
    let none : (k : ℕ) → 0 + k ≡ k = λ k. omega arith in
    let all = sellers_listed (λ seller buyer. draft_amount product seller buyer rows) (sum_in table) members 0 members (λ k j one other lt within.
    ap (λ n. sum_in table n j) (none k) ∙ has.sums k j one lt within ∙ ap (λ (m : MemberRow). draft_amount product (name_at members k one) m.name rows) (get_or_default members j one other within)) in
    ap (λ n. network_by n (sum_in table)) has.count
    ∙ ap (λ (r : List Row). record { members = length members; rows = r }) (ap (λ n. listed_below n row) (sym (none (length members))) ∙ all)
