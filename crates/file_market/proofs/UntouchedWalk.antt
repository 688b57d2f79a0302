-- The walk over a seller's rows: the cursor, and the rows so far.
use Rattle.std.proofs.Common.{◌≡◌, ◌≢◌, ℕ, zero, suc, ◌+◌, ◌-◌, ◌*◌, ◌<◌, ◌≤◌, ◌++◌, List, [], length, get_or, refl, sym, ap, ◌∙◌, subst, arith, ⊎_elim}
use Rattle.std.proofs.lemmas.Bool.{cases_eq}
use Rattle.std.proofs.lemmas.List.{append-nil, append_assoc, get_or_default}
use Rattle.network_laws.specs.declared.rows.LimitRow.{LimitRow}
use Rattle.network_laws.specs.declared.rows.Row.{Row}
use Rattle.network_laws.specs.Networks.{place, pair_part, amount_in, AreRows, IsCursor}
use Rattle.network_laws.proofs.RowOrder.{amount_here, cursor_past}
use Rattle.network_laws.proofs.RowSums.{pair_part-is}
use Rattle.command_types.specs.Books.{listed_below}
use Rattle.command_types.specs.declared.roster.MemberRow.{MemberRow}
use Rattle.tolerance_sets.specs.OpenPairs.{listed_from}
use Rattle.tolerance_sets.proofs.OpenPairs.{open_up_to}
use Rattle.tolerance_sets.proofs.Passed.{cursor_raised, none_between}
use Rattle.tolerance_sets.proofs.Walk.{one_more}
use Rattle.file_market.specs.Untouched.{row_with, seller_row}

-- numbers that give nothing add nothing
none_ahead : (f : ℕ → List LimitRow) (from n m : ℕ) → n ≤ m → ((k : ℕ) → from + n ≤ k → k < from + m → f k ≡ []) → listed_from from m f ≡ listed_from from n f
none_ahead f from n zero le none = let e : zero ≡ n = omega (arith, le) in ap (λ k. listed_from from k f) e
none_ahead f from n (suc m) le none =
    ⊎_elim (λ (e : n ≡ suc m). ap (λ k. listed_from from k f) (sym e))
    (λ (ne : n ≢ suc m).
    ap (λ xs. listed_from from m f ++ xs) (none (from + m) (omega (arith, le, ne)) (omega arith)) ∙ append-nil (listed_from from m f)
    ∙ none_ahead f from n m (omega (arith, le, ne)) (λ k lk l. none k lk (omega (arith, l))))
    (cases_eq n (suc m))

-- behind the last number that gives something
pub up_to : (start now : List LimitRow) (f : ℕ → List LimitRow) (from up to : ℕ) → from ≤ up → up ≤ to → ((k : ℕ) → up ≤ k → k < to → f k ≡ []) → now ≡ start ++ listed_from from (up - from) f → now ≡ start ++ listed_from from (to - from) f
up_to start now f from up to le le' none e =
    e ∙ ap (λ xs. start ++ xs) (sym (none_ahead f from (up - from) (to - from) (omega (arith, le, le')) (λ k lk l. none k (omega (arith, lk, le)) (omega (arith, l, le, le')))))

-- no number yet
pub start_from : (start : List LimitRow) (f : ℕ → List LimitRow) (from : ℕ) → start ≡ start ++ listed_from from (from - from) f
start_from start f from =
    let e : from - from ≡ 0 = omega arith in
    sym (ap (λ n. start ++ listed_from from n f) e ∙ append-nil start)

-- one number more
pub one_from : (start before after : List LimitRow) (f : ℕ → List LimitRow) (from b : ℕ) → from ≤ b → before ≡ start ++ listed_from from (b - from) f → after ≡ before ++ f b → after ≡ start ++ listed_from from (b + 1 - from) f
one_from start before after f from b le e e' =
    let size : b + 1 - from ≡ suc (b - from) = omega (arith, le) in
    let last : from + (b - from) ≡ b = omega (arith, le) in
    let more = listed_from from (b - from) f in
    e' ∙ ap (λ xs. xs ++ f b) e ∙ append_assoc start more (f b)
    ∙ ap (λ xs. start ++ xs) (sym (ap (λ n. listed_from from n f) size ∙ ap (λ k. more ++ f k) last))

module _ (n : ℕ) (network : List Row) (sales : AreRows n network) (i m : ℕ) where
  raised : (up to : ℕ) → IsCursor network m (i * 65536 + up) → up ≤ to → ((d : Row) → m < length network → i * 65536 + to ≤ place (get_or network m d)) → IsCursor network m (i * 65536 + to)
  raised up to cursor le here = cursor_raised network m (i * 65536 + up) (i * 65536 + to) sales.rising cursor (omega (arith, le)) here

  -- behind the seller's rows
  pub past_all : (up : ℕ) → n ≤ 256 → IsCursor network m (i * 65536 + up) → up ≤ n → ((d : Row) → m < length network → (get_or network m d).seller ≢ i) → IsCursor network m (i * 65536 + n)
  past_all up few cursor le other =
      raised up n cursor le (λ d l. omega (arith, few, other d l, cursor.behind m d (omega arith) l, (sales.good m d l).buyer))

  module _ (buyers : List MemberRow) where
    abbrev rows_of : ℕ → List LimitRow
    rows_of = seller_row buyers network i

    abbrev blanks : ℕ → List LimitRow
    blanks = seller_row buyers [] i

    -- between two pairs that have the same cursor nothing was sold
    pub unsold_up_to : (start before after : List LimitRow) (up to : ℕ) → IsCursor network m (i * 65536 + up) → IsCursor network m (i * 65536 + to) → up ≤ to → before ≡ start ++ listed_below up rows_of → after ≡ before ++ listed_from up (to - up) blanks → after ≡ start ++ listed_below to rows_of
    unsold_up_to start before after up to first last le e e' =
        open_up_to start before after rows_of blanks up to le (λ k lk l. ap (row_with buyers i k) (none_between network m i up to k first last lk l)) e e'

  module _ (row : Row) (within : m < length network) (is : row ≡ get_or network m row) (seller : row.seller ≡ i) where
    placed : (d : Row) → place (get_or network m d) ≡ i * 65536 + row.buyer
    placed d = ap place (get_or_default network m d row within) ∙ ap place (sym is) ∙ ap (λ s. s * 65536 + row.buyer) seller

    -- the cursor of the row
    pub at_row : (up : ℕ) → IsCursor network m (i * 65536 + up) → up ≤ row.buyer → IsCursor network m (i * 65536 + row.buyer)
    at_row up cursor le = raised up row.buyer cursor le (λ d l. omega (arith, placed d))

    -- it is not behind its pair
    pub not_behind : (up : ℕ) → IsCursor network m (i * 65536 + up) → up ≤ row.buyer
    not_behind up cursor = omega (arith, cursor.behind m row (omega arith) within, placed row)

    -- behind it
    pub past_row : IsCursor network m (i * 65536 + row.buyer) → IsCursor network (m + 1) (i * 65536 + (row.buyer + 1))
    past_row cursor =
        let e : i * 65536 + row.buyer + 1 ≡ i * 65536 + (row.buyer + 1) = omega arith in
        subst (IsCursor network (m + 1)) e (cursor_past network m (i * 65536 + row.buyer) row sales.rising cursor within (placed row))

    amount : IsCursor network m (i * 65536 + row.buyer) → amount_in network i row.buyer ≡ row.amount
    amount cursor = amount_here network i row.buyer m row within sales.rising cursor.before cursor.behind ∙ ap (pair_part i row.buyer) (sym is) ∙ pair_part-is i row.buyer row seller refl

    -- the rows with this one
    pub up_to_row : (buyers : List MemberRow) (start before between after : List LimitRow) (up : ℕ) → IsCursor network m (i * 65536 + up) → before ≡ start ++ listed_below up (seller_row buyers network i) → between ≡ before ++ listed_from up (row.buyer - up) (seller_row buyers [] i) → after ≡ between ++ row_with buyers row.seller row.buyer row.amount → after ≡ start ++ listed_below (row.buyer + 1) (seller_row buyers network i)
    up_to_row buyers start before between after up cursor e e' e'' =
        let here = at_row up cursor (not_behind up cursor) in
        one_more row.buyer (seller_row buyers network i) start between after (row_with buyers row.seller row.buyer row.amount)
        (unsold_up_to buyers start before between up row.buyer cursor here (not_behind up cursor) e e')
        e'' (ap (λ s. row_with buyers s row.buyer row.amount) seller ∙ sym (ap (row_with buyers i row.buyer) (amount here)))
