-- The fields of a trade have no mark of the format, nor have those of the header.
use Rattle.std.proofs.Common.{◌≡◌, ◌≢◌, ◌<◌, ◌≤◌, ◌∙◌, sym, ap, subst, refl, inl, inr, ℕ, List, [], ◌∷◌, ◌++◌, ◌+◌, length, take, get_or, IfSome, if◌then◌else◌, Bool, true, false, not, ◌&&◌, cond, eqb, ltb, position, Option, Some, None, Result, Ok, Err, arith, codes}
use Rattle.std.proofs.lemmas.Bool.{le-ltb, ltb-false, ne_eqb}
use Rattle.std.proofs.lemmas.List.{get_or-take, length-take-le, take_all}
use Rattle.units_core.proofs.AmountFacts.{amount_if}
use Rattle.std.proofs.lemmas.Slice.Eq.{bytes_eq-Decides}
use Rattle.std.specs.Prelude.{nat_le}
use Rattle.std.specs.List.{list_all, position_or_len}
use Rattle.std.specs.Str.{bytes_eq}
use Rattle.units_core.specs.Name.{is_name, is_name_byte}
use Rattle.units_core.specs.Number.{is_digit, value_of, of_first, is_amount, of_amount, amount_of}
use Rattle.units_core.specs.declared.number.NumberFault.{NumberFault}
use Rattle.units_core.specs.declared.number.NumberFault.TheVariants.{Empty}
use Rattle.units_core.specs.declared.limits.TheConstants.{MOST_FILE_TRADES, MOST_GROSS, MOST_NAME, MOST_TRADE_AMOUNT}
use Rattle.command_types.specs.Roster.{Rows, member_place, product_place}
use Rattle.command_types.specs.declared.file_fault.FileFault.{FileFault}
use Rattle.command_types.specs.declared.file_fault.FileFault.TheVariants.{SameParty}
use Rattle.trade_file.specs.declared.file_trade.FileTrade.{FileTrade}
use Rattle.trade_file.specs.TradeFile.{member_of, product_of, with_amount, between, trade_of, with_trade}
use Rattle.trade_file.specs.PlainRow.{IsLine, EndsInAmount, TakesRecord, TakesHeader, TakesTrade, ReadsTrade}
use Rattle.trade_file.specs.FoundNames.{IsNamed}
use Rattle.trade_file.proofs.PlainReadFacts.{behind, cut_at}
use Rattle.trade_file.proofs.PlainFacts.{IsPlain, plain_of, takes_row}

name_bytes : (few most all : Bool) → (few && most && all) ≡ true → all ≡ true
name_bytes true true true h = refl
name_bytes true true false h = absurd cc
name_bytes true false all h = absurd cc
name_bytes false most all h = absurd cc

plain_name : (text : List ℕ) → is_name text ≡ true → IsPlain text
plain_name text h = plain_of is_name_byte refl refl refl refl text (name_bytes (nat_le 1 (length text)) (nat_le (length text) MOST_NAME) (list_all is_name_byte text) h)

all_digits : (text : List ℕ) → length text ≤ position_or_len (λ c. not (is_digit c)) text → list_all is_digit text ≡ true
all_digits [] h = refl
all_digits (c ∷ text) h = by (is_digit c) (all_digits text) h
  where
    by : (t : Bool) → (length text ≤ position_or_len (λ c. not (is_digit c)) text → list_all is_digit text ≡ true)
        → length (c ∷ text) ≤ cond (not (not t)) (1 + position_or_len (λ c. not (is_digit c)) text) 0 → (t && list_all is_digit text) ≡ true
    by true more f = more (omega arith)
    by false more f = absurd (omega arith)

no_other : (text : List ℕ) → position (λ c. not (is_digit c)) text ≡ None → list_all is_digit text ≡ true
no_other text h = all_digits text (by (ltb (position_or_len (λ c. not (is_digit c)) text) (length text)) refl h)
  where
    by : (t : Bool) → ltb (position_or_len (λ c. not (is_digit c)) text) (length text) ≡ t → cond t (Some (position_or_len (λ c. not (is_digit c)) text)) None ≡ None
        → length text ≤ position_or_len (λ c. not (is_digit c)) text
    by true e f = absurd cc
    by false e f = ltb-false _ _ e

plain_amount : (text : List ℕ) (amount : ℕ) → amount_of text ≡ Ok amount → IsPlain text
plain_amount text amount h = by (eqb (length text) 0) (position (λ c. not (is_digit c)) text) refl h
  where
    by : (none : Bool) (other : Option ℕ) → position (λ c. not (is_digit c)) text ≡ other
        → of_amount (cond none (Err Empty) (of_first other text MOST_GROSS)) ≡ Ok amount → IsPlain text
    by true other e f = absurd cc
    by false (Some at) e f = absurd cc
    by false None e f = plain_of is_digit refl refl refl refl text (no_other text e)

-- what names places and an amount is spelled so
record IsSpelled (seller buyer product : Option ℕ) (last : List ℕ) : Type 0 where
  seller_place : ℕ
  buyer_place : ℕ
  product_place : ℕ
  amount : ℕ
  seller_is : seller ≡ Some seller_place
  buyer_is : buyer ≡ Some buyer_place
  product_is : product ≡ Some product_place
  amount_is : amount_of last ≡ Ok amount

between-spelled : (n : ℕ) (seller buyer product : Option ℕ) (last : List ℕ) (trade : FileTrade) → between n seller buyer product last ≡ Ok trade → IsSpelled seller buyer product last
between-spelled n None buyer product last trade h = absurd cc
between-spelled n (Some s) None product last trade h = absurd cc
between-spelled n (Some s) (Some b) None last trade h = absurd cc
between-spelled n (Some s) (Some b) (Some p) last trade h = by (eqb s b) (amount_of last) refl h
  where
    by : (same : Bool) (read : Result ℕ NumberFault) → amount_of last ≡ read
        → (let due : Result FileTrade FileFault = cond same (Err (SameParty n)) (with_amount n s b p read) in due) ≡ Ok trade → IsSpelled (Some s) (Some b) (Some p) last
    by true read e f = absurd cc
    by false (Err fault) e f = absurd cc
    by false (Ok amount) e f =
        record { seller_place = s; buyer_place = b; product_place = p; amount = amount; seller_is = refl; buyer_is = refl; product_is = refl; amount_is = e }

named : (t : Bool) (place : Option ℕ) (i : ℕ) → cond t place None ≡ Some i → t ≡ true
named true place i h = refl
named false place i h = absurd cc

-- the row of a trade is a record of the text
takes_trade_row : (rows : Rows) (n : ℕ) (text a b c line d rest : List ℕ) (trade : FileTrade) → text ≡ a ++ (44 ∷ (b ++ (44 ∷ (c ++ (44 ∷ line))))) → IsLine line d rest
    → trade_of rows n (a ∷ b ∷ c ∷ d ∷ []) ≡ Ok trade → TakesRecord text (a ∷ b ∷ c ∷ d ∷ []) rest
takes_trade_row rows n text a b c line d rest trade fields ended h =
    let spelled = between-spelled n _ _ _ d trade h in
    takes_row text a b c line d rest fields ended
    (plain_name a (named (is_name a) (member_place rows a) spelled.seller_place spelled.seller_is))
    (plain_name b (named (is_name b) (member_place rows b) spelled.buyer_place spelled.buyer_is))
    (plain_name c (named (is_name c) (product_place rows c) spelled.product_place spelled.product_is))
    (plain_amount d spelled.amount spelled.amount_is)

header_row : (text line rest : List ℕ) → text ≡ codes "seller" ++ (44 ∷ (codes "buyer" ++ (44 ∷ (codes "product" ++ (44 ∷ line))))) → IsLine line (codes "amount") rest
    → TakesHeader text rest
header_row text line rest fields ended = (
  (codes "seller" ∷ codes "buyer" ∷ codes "product" ∷ codes "amount" ∷ []),
  takes_row text (codes "seller") (codes "buyer") (codes "product") line (codes "amount") rest fields ended refl refl refl refl,
  refl,
)

-- the header is a record of the text
pub takes_header : (text line rest : List ℕ) → IsLine text line rest → bytes_eq line (codes "seller,buyer,product,amount") ≡ true → TakesHeader text rest
takes_header text line rest (inl whole) h =
    header_row text (codes "amount") rest (whole.0 ∙ (bytes_eq-Decides line (codes "seller,buyer,product,amount")).0 h) (inl (refl, whole.1))
takes_header text line rest (inr ended) h =
    let same = (bytes_eq-Decides line (codes "seller,buyer,product,amount")).0 h in
    header_row text (codes "amount" ++ (ended.0 ∷ rest)) rest (ended.2 ∙ ap (λ l. l ++ (ended.0 ∷ rest)) same) (inr (ended.0, ended.1, refl))

-- what three names and an amount write
written : (rows : Rows) (n : ℕ) (a b c d : List ℕ) (amount s p q : ℕ) → member_of rows a ≡ Some s → member_of rows b ≡ Some p → product_of rows c ≡ Some q
    → s ≢ p → amount_of d ≡ Ok amount → amount ≤ MOST_TRADE_AMOUNT → trade_of rows n (a ∷ b ∷ c ∷ d ∷ []) ≡ Ok (record { seller = s; buyer = p; product = q; amount = amount })
written rows n a b c d amount s p q seller buyer product apart read few =
    rw (seller, buyer, product, ne_eqb s p apart, read, le-ltb MOST_TRADE_AMOUNT amount few) refl

-- three names, each before a comma, and an amount up to the end of the line
pub reads_trade : (rows : Rows) (text : List ℕ) (a b c amount s p q : ℕ) (rest : List ℕ) → IsNamed (member_of rows) text s a → IsNamed (member_of rows) (behind text a) p b
    → IsNamed (product_of rows) (behind (behind text a) b) q c → EndsInAmount (behind (behind (behind text a) b) c) amount rest → s ≢ p → amount ≤ MOST_TRADE_AMOUNT
    → ReadsTrade rows text (record { seller = s; buyer = p; product = q; amount = amount }) rest
reads_trade rows text a b c amount s p q rest seller buyer product ended apart few = λ n.
    let second = behind text a in
    let third = behind second b in
    let line = behind third c in
    let from_third : third ≡ take c third ++ (44 ∷ line) = cut_at third c product.within product.ended in
    let from_second : second ≡ take b second ++ (44 ∷ (take c third ++ (44 ∷ line))) = cut_at second b buyer.within buyer.ended ∙ ap (λ t. take b second ++ (44 ∷ t)) from_third in
    let whole : text ≡ take a text ++ (44 ∷ (take b second ++ (44 ∷ (take c third ++ (44 ∷ line))))) = cut_at text a seller.within seller.ended ∙ ap (λ t. take a text ++ (44 ∷ t)) from_second in
    let trade : FileTrade = record { seller = s; buyer = p; product = q; amount = amount } in
    let h = written rows n (take a text) (take b second) (take c third) ended.0 amount s p q seller.named buyer.named product.named apart ended.1 few in
    ((take a text ∷ take b second ∷ take c third ∷ ended.0 ∷ []), takes_trade_row rows n text (take a text) (take b second) (take c third) line ended.0 rest trade whole ended.2 h, h)

-- the trade of a row goes to the trades
pub takes_trade : (rows : Rows) (n : ℕ) (trades more : List FileTrade) (text rest : List ℕ) (trade : FileTrade)
    → n ≢ 1 → nat_le MOST_FILE_TRADES (length trades) ≡ false → ReadsTrade rows text trade rest → with_trade n trades (Ok trade) ≡ Ok more → TakesTrade rows n trades text more rest
takes_trade rows n trades more text rest trade later room reads put =
    let read = reads n in
    (read.0, read.1, rw (ne_eqb n 1 later, room, read.2) put)

-- the amount of the digits at the front of a text
pub front_amount : (text : List ℕ) (size v amount : ℕ) → 0 < size → size ≤ length text → get_or text 0 0 ≢ 48 → ((k : ℕ) → k < size → is_digit (get_or text k 0) ≡ true)
    → v ≡ value_of (take size text) → Some amount ≡ (if is_amount v then Some v else None) → amount_of (take size text) ≡ Ok amount
front_amount text size v amount some within first digits value is =
    let front = take size text in
    let sized : length front ≡ size = length-take-le size text within in
    let same : (k : ℕ) → k < size → get_or front k 0 ≡ get_or text k 0 = λ k lt. get_or-take size text k 0 lt in
    let all : take size front ≡ front = take_all size front (omega (arith, sized)) in
    let read = amount_if front v size (omega (arith, sized, some)) (omega (arith, sized)) (λ e. first (sym (same 0 some) ∙ e))
    (λ k lt. ap is_digit (same k lt) ∙ digits k lt) (value ∙ ap value_of (sym all)) in
    subst (λ o. IfSome o (λ amount. amount_of front ≡ Ok amount)) (sym is) read
