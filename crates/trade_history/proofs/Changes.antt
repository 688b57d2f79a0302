-- Changes of trade rows, one at a place or one behind the others, and what they leave as it was.
use Rattle.std.proofs.Common.{◌≡◌, ℕ, zero, suc, ◌+◌, ◌-◌, ◌<◌, ◌≤◌, Bool, true, false, cond, ◌&&◌, List, [], ◌∷◌, ◌++◌, length, Option, Some, None, slice_get, slice_set, fold, sum_by, refl, sym, ap, ◌∙◌, arith, ltb, lt-ltb}
use Rattle.std.proofs.lemmas.List.Sums.{fold-append}
use Rattle.command_types.specs.declared.trade.TradeRow.{TradeRow}
use Rattle.command_types.specs.Trades.{trade_numbered, with_row, changed_row, with_changed}
use Rattle.command_types.specs.Books.{network_by, is_between, frozen_network}
use Rattle.command_types.specs.Plans.{is_party_row}
use Rattle.trade_history.specs.Executes.{marked, marked_row}
use Rattle.trade_history.specs.Book.{AreNumbered}

-- the rows with the one at this place changed
abbrev pub change_at : (TradeRow → TradeRow) → List TradeRow → ℕ → List TradeRow
change_at f [] k = []
change_at f (row ∷ rows) zero = f row ∷ rows
change_at f (row ∷ rows) (suc k) = row ∷ change_at f rows k

less_one : (k : ℕ) → suc k - 1 ≡ k
less_one k = omega arith

numbered_by : (rows : List TradeRow) (k j : ℕ) (t : Bool) → t ≡ true → j ≡ k → cond t (slice_get rows j) None ≡ slice_get rows k
numbered_by rows k j true e same = ap (slice_get rows) same
numbered_by rows k j false e same = cc

-- the trade at a place
pub numbered-at : (rows : List TradeRow) (k : ℕ) → trade_numbered rows (suc k) ≡ slice_get rows k
numbered-at rows k = numbered_by rows k (suc k - 1) (ltb 0 (suc k)) (lt-ltb 0 (suc k) (omega arith)) (less_one k)

-- the rows with the one at this place replaced, if there is one
abbrev replaced : List TradeRow → ℕ → Option TradeRow → List TradeRow
replaced rows k None = rows
replaced rows k (Some row) = slice_set rows k row

replaced-by : (rows : List TradeRow) (k : ℕ) (o : Option TradeRow) → with_row rows (suc k) o ≡ replaced rows k o
replaced-by rows k None = refl
replaced-by rows k (Some row) = ap (λ j. slice_set rows j row) (less_one k)

replaced-more : (row : TradeRow) (rows : List TradeRow) (k : ℕ) (o : Option TradeRow) → replaced (row ∷ rows) (suc k) o ≡ row ∷ replaced rows k o
replaced-more row rows k None = refl
replaced-more row rows k (Some new) = refl

replaced-changed : (f : TradeRow → TradeRow) (rows : List TradeRow) (k : ℕ) → replaced rows k (changed_row f (slice_get rows k)) ≡ change_at f rows k
replaced-changed f [] k = refl
replaced-changed f (row ∷ rows) zero = refl
replaced-changed f (row ∷ rows) (suc k) = replaced-more row rows k (changed_row f (slice_get rows k)) ∙ ap (λ rest. row ∷ rest) (replaced-changed f rows k)

-- a change by number is one at a place
pub changed-at : (f : TradeRow → TradeRow) (rows : List TradeRow) (k : ℕ) → with_changed f rows (suc k) ≡ change_at f rows k
changed-at f rows k =
    ap (λ o. with_row rows (suc k) (changed_row f o)) (numbered-at rows k)
    ∙ replaced-by rows k (changed_row f (slice_get rows k))
    ∙ replaced-changed f rows k

-- a change that leaves a trade's number, and does not look at its being frozen
pub record KeepsNumber (f : TradeRow → TradeRow) : Type 0 where
  pub number : (row : TradeRow) → (f row).number ≡ row.number
  pub marks : (b : Bool) (row : TradeRow) → f (record row { frozen = b }) ≡ record (f row) { frozen = b }

-- a change that leaves a trade's terms
pub record KeepsTerms (f : TradeRow → TradeRow) : Type 0 where
  pub seller : (row : TradeRow) → (f row).seller ≡ row.seller
  pub buyer : (row : TradeRow) → (f row).buyer ≡ row.buyer
  pub product : (row : TradeRow) → (f row).product ≡ row.product
  pub amount : (row : TradeRow) → (f row).amount ≡ row.amount
  pub frozen : (row : TradeRow) → (f row).frozen ≡ row.frozen

marked-row : (f : TradeRow → TradeRow) → KeepsNumber f → (t : ℕ → Bool) (row : TradeRow) → f (marked_row t row) ≡ marked_row t (f row)
marked-row f keeps t row =
    keeps.marks (t row.number) row ∙ ap (λ n. record (f row) { frozen = t n }) (sym (keeps.number row))

change_at-marked : (f : TradeRow → TradeRow) → KeepsNumber f → (t : ℕ → Bool) (rows : List TradeRow) (k : ℕ) → change_at f (marked t rows) k ≡ marked t (change_at f rows k)
change_at-marked f keeps t [] k = refl
change_at-marked f keeps t (row ∷ rows) zero = ap (λ r. r ∷ marked t rows) (marked-row f keeps t row)
change_at-marked f keeps t (row ∷ rows) (suc k) = ap (λ rest. marked_row t row ∷ rest) (change_at-marked f keeps t rows k)

pub changed-marked : (f : TradeRow → TradeRow) → KeepsNumber f → (t : ℕ → Bool) (rows : List TradeRow) (n : ℕ) → with_changed f (marked t rows) n ≡ marked t (with_changed f rows n)
changed-marked f keeps t rows zero = refl
changed-marked f keeps t rows (suc k) = changed-at f (marked t rows) k ∙ change_at-marked f keeps t rows k ∙ ap (marked t) (sym (changed-at f rows k))

length-change_at : (f : TradeRow → TradeRow) (rows : List TradeRow) (k : ℕ) → length (change_at f rows k) ≡ length rows
length-change_at f [] k = refl
length-change_at f (row ∷ rows) zero = refl
length-change_at f (row ∷ rows) (suc k) = ap suc (length-change_at f rows k)

pub length-changed : (f : TradeRow → TradeRow) (rows : List TradeRow) (n : ℕ) → length (with_changed f rows n) ≡ length rows
length-changed f rows zero = refl
length-changed f rows (suc k) = ap length (changed-at f rows k) ∙ length-change_at f rows k

numbered-change_at : (f : TradeRow → TradeRow) → KeepsNumber f → (n : ℕ) (rows : List TradeRow) (k : ℕ) → AreNumbered n rows → AreNumbered n (change_at f rows k)
numbered-change_at f keeps n [] k are = tt
numbered-change_at f keeps n (row ∷ rows) zero (here, rest) = (keeps.number row ∙ here, rest)
numbered-change_at f keeps n (row ∷ rows) (suc k) (here, rest) = (here, numbered-change_at f keeps (suc n) rows k rest)

pub numbered-changed : (f : TradeRow → TradeRow) → KeepsNumber f → (rows : List TradeRow) (n : ℕ) → AreNumbered 0 rows → AreNumbered 0 (with_changed f rows n)
numbered-changed f keeps rows zero are = are
numbered-changed f keeps rows (suc k) are = rw (changed-at f rows k) (numbered-change_at f keeps 0 rows k are)

-- what a fold makes of the rows stays where it makes the same of a changed row
fold-change_at : {A : Type 0} (h : A → TradeRow → A) (f : TradeRow → TradeRow) → ((a : A) (row : TradeRow) → h a (f row) ≡ h a row) →
    (a : A) (rows : List TradeRow) (k : ℕ) → fold h a (change_at f rows k) ≡ fold h a rows
fold-change_at h f same a [] k = refl
fold-change_at h f same a (row ∷ rows) zero = ap (λ b. fold h b rows) (same a row)
fold-change_at h f same a (row ∷ rows) (suc k) = fold-change_at h f same (h a row) rows k

fold-changed : {A : Type 0} (h : A → TradeRow → A) (f : TradeRow → TradeRow) → ((a : A) (row : TradeRow) → h a (f row) ≡ h a row) →
    (a : A) (rows : List TradeRow) (n : ℕ) → fold h a (with_changed f rows n) ≡ fold h a rows
fold-changed h f same a rows zero = refl
fold-changed h f same a rows (suc k) = ap (fold h a) (changed-at f rows k) ∙ fold-change_at h f same a rows k

-- a pair's frozen amount in a row
abbrev pub frozen_part : ℕ → ℕ → ℕ → TradeRow → ℕ
frozen_part product seller buyer row = cond (is_between product seller buyer row && row.frozen) row.amount 0

part-kept : (f : TradeRow → TradeRow) → KeepsTerms f → (product seller buyer : ℕ) (row : TradeRow) → frozen_part product seller buyer (f row) ≡ frozen_part product seller buyer row
part-kept f keeps product seller buyer row = rw (keeps.product row, keeps.seller row, keeps.buyer row, keeps.frozen row, keeps.amount row)

pub networks-changed : (f : TradeRow → TradeRow) → KeepsTerms f → (members product : ℕ) (rows : List TradeRow) (n : ℕ) →
    frozen_network members product (with_changed f rows n) ≡ frozen_network members product rows
networks-changed f keeps members product rows n = λ i. network_by members (λ seller buyer.
    fold-changed (λ a row. a + frozen_part product seller buyer row) f (λ a row. ap (λ v. a + v) (part-kept f keeps product seller buyer row)) 0 rows n i)

pub networks-push : (members product : ℕ) (rows : List TradeRow) (new : TradeRow) → new.frozen ≡ false →
    frozen_network members product (rows ++ new ∷ []) ≡ frozen_network members product rows
networks-push members product rows new free = λ i. network_by members (λ seller buyer. push_same seller buyer i)
  where
    nothing : (b f : Bool) (n amount : ℕ) → f ≡ false → n + cond (b && f) amount 0 ≡ n
    nothing true f n amount e = rw e (omega arith)
    nothing false f n amount e = omega arith

    push_same : (seller buyer : ℕ) → sum_by (frozen_part product seller buyer) (rows ++ new ∷ []) ≡ sum_by (frozen_part product seller buyer) rows
    push_same seller buyer =
        fold-append (λ a row. a + frozen_part product seller buyer row) 0 rows (new ∷ [])
        ∙ nothing (is_between product seller buyer new) new.frozen (sum_by (frozen_part product seller buyer) rows) new.amount free

-- the parties of trades
get-change_at : (f : TradeRow → TradeRow) → KeepsTerms f → (rows : List TradeRow) (k j member : ℕ) →
    is_party_row (slice_get (change_at f rows k) j) member ≡ is_party_row (slice_get rows j) member
get-change_at f keeps [] k j member = refl
get-change_at f keeps (row ∷ rows) zero zero member = rw (keeps.seller row, keeps.buyer row)
get-change_at f keeps (row ∷ rows) zero (suc j) member = refl
get-change_at f keeps (row ∷ rows) (suc k) zero member = refl
get-change_at f keeps (row ∷ rows) (suc k) (suc j) member = get-change_at f keeps rows k j member

parties_at : (f : TradeRow → TradeRow) → KeepsTerms f → (rows : List TradeRow) (n j member : ℕ) →
    is_party_row (slice_get (with_changed f rows n) j) member ≡ is_party_row (slice_get rows j) member
parties_at f keeps rows zero j member = refl
parties_at f keeps rows (suc k) j member = ap (λ rs. is_party_row (slice_get rs j) member) (changed-at f rows k) ∙ get-change_at f keeps rows k j member

pub parties-changed : (f : TradeRow → TradeRow) → KeepsTerms f → (rows : List TradeRow) (n trade member : ℕ) →
    is_party_row (trade_numbered (with_changed f rows n) trade) member ≡ is_party_row (trade_numbered rows trade) member
parties-changed f keeps rows n zero member = refl
parties-changed f keeps rows n (suc j) member =
    ap (λ o. is_party_row o member) (numbered-at (with_changed f rows n) j) ∙ parties_at f keeps rows n j member ∙ sym (ap (λ o. is_party_row o member) (numbered-at rows j))

get-push : (rows : List TradeRow) (new : TradeRow) (j : ℕ) → j < length rows → slice_get (rows ++ new ∷ []) j ≡ slice_get rows j
get-push [] new j below = absurd (omega arith)
get-push (row ∷ rows) new zero below = refl
get-push (row ∷ rows) new (suc j) below = get-push rows new j (omega arith)

pub numbered-push : (rows : List TradeRow) (new : TradeRow) (trade : ℕ) → trade ≤ length rows → trade_numbered (rows ++ new ∷ []) trade ≡ trade_numbered rows trade
numbered-push rows new zero below = refl
numbered-push rows new (suc j) below = numbered-at (rows ++ new ∷ []) j ∙ get-push rows new j (omega arith) ∙ sym (numbered-at rows j)

-- a row behind the others
pub marked-push : (t : ℕ → Bool) (rows : List TradeRow) (new : TradeRow) → marked_row t new ≡ new → marked t (rows ++ new ∷ []) ≡ marked t rows ++ new ∷ []
marked-push t [] new same = ap (λ r. r ∷ []) same
marked-push t (row ∷ rows) new same = ap (λ rest. marked_row t row ∷ rest) (marked-push t rows new same)

are_numbered_push : (n : ℕ) (rows : List TradeRow) (new : TradeRow) → AreNumbered n rows → new.number ≡ suc (n + length rows) → AreNumbered n (rows ++ new ∷ [])
are_numbered_push n [] new are is = (omega arith, tt)
are_numbered_push n (row ∷ rows) new (here, rest) is = (here, are_numbered_push (suc n) rows new rest (omega arith))

pub are_numbered-push : (rows : List TradeRow) (new : TradeRow) → AreNumbered 0 rows → new.number ≡ length rows + 1 → AreNumbered 0 (rows ++ new ∷ [])
are_numbered-push rows new are is = are_numbered_push 0 rows new are (omega arith)
