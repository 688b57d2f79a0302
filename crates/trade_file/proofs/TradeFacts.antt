-- One more record of a trade file behind those that were read.
use Rattle.std.proofs.Common.{◌≡◌, ◌≢◌, ◌∙◌, sym, ap, refl, ℕ, ◌+◌, List, [], ◌∷◌, ◌++◌, length, Result, Ok, Err, ◌⊎◌, inl, inr, append_assoc, arith}
use Rattle.command_types.specs.Roster.{Rows}
use Rattle.command_types.specs.declared.file_fault.FileFault.{FileFault}
use Rattle.command_types.specs.declared.file_fault.FileFault.TheVariants.{Memory, Columns}
use Rattle.trade_file.specs.declared.file_trade.FileTrade.{FileTrade}
use Rattle.std.specs.Prelude.{IfOk, IfErr}
use Rattle.trade_file.specs.declared.trade_draft.TradeDraft.{TradeDraft}
use Rattle.trade_file.specs.TradeDraft.{trades_of_draft}
use Rattle.trade_file.specs.TradeFile.{with_trade_record, with_trade_records, then_trades, trades_of}

by_step : (o : Result (List FileTrade) FileFault) (f g : List FileTrade → Result (List FileTrade) FileFault) (next : List FileTrade) (end : Result (List FileTrade) FileFault)
    → then_trades f o ≡ Ok next → ((trades : List FileTrade) → f trades ≡ Ok next → g trades ≡ end) → then_trades g o ≡ end
by_step (Err fault) f g next end h more = absurd cc
by_step (Ok trades) f g next end h more = more trades h

same_ok : (a b : List FileTrade) → (let r : Result (List FileTrade) FileFault = Ok a in r) ≡ Ok b → a ≡ b
same_ok a b h = cc

-- records behind those that gave trades
pub trade_records-more : (rows : Rows) (n : ℕ) (trades : List FileTrade) (xs : List (List (List ℕ))) (r : List (List ℕ)) (ys : List (List (List ℕ))) (next : List FileTrade)
    → with_trade_records rows n trades xs ≡ Ok next
    → with_trade_records rows n trades (xs ++ r ∷ ys) ≡ then_trades (λ trades. with_trade_records rows (n + length xs + 1) trades ys) (with_trade_record rows (n + length xs) next r)
unfolding with_trade_records
trade_records-more rows n trades [] r ys next h =
    let e = same_ok trades next h in
    let z : n + 0 ≡ n = omega arith in
    rw (z, ← e) refl
trade_records-more rows n trades (x ∷ xs) r ys next h =
    let z : n + 1 + length xs ≡ n + length (x ∷ xs) = omega arith in
    by_step (with_trade_record rows n trades x) _ _ next _ h (λ m e. trade_records-more rows (n + 1) m xs r ys next e ∙ rw z refl)

-- a record that gives trades
pub read_on : (rows : Rows) (front : List (List (List ℕ))) (r : List (List ℕ)) (trades next : List FileTrade)
    → with_trade_records rows 1 [] front ≡ Ok trades → with_trade_record rows (length front + 1) trades r ≡ Ok next → with_trade_records rows 1 [] (front ++ r ∷ []) ≡ Ok next
unfolding with_trade_records
read_on rows front r trades next h e =
    let z : 1 + length front ≡ length front + 1 = omega arith in
    trade_records-more rows 1 [] front r [] trades h ∙ rw (z, e) refl

front_first : (rows : Rows) (front : List (List (List ℕ))) (r : List (List ℕ)) (rest : List (List (List ℕ)))
    → trades_of rows (front ++ r ∷ rest) ≡ with_trade_records rows 1 [] (front ++ r ∷ rest)
front_first rows [] r rest = refl
front_first rows (x ∷ front) r rest = refl

-- where a record ends the reading, the reading of all records ends so
pub ends : (rows : Rows) (all front rest : List (List (List ℕ))) (r : List (List ℕ)) (trades : List FileTrade) (fault : FileFault) → all ≡ (front ++ (r ∷ [])) ++ rest
    → with_trade_records rows 1 [] front ≡ Ok trades → (fault ≡ Memory) ⊎ (with_trade_record rows (length front + 1) trades r ≡ Err fault) → (fault ≡ Memory) ⊎ (trades_of rows all ≡ Err fault)
ends rows all front rest r trades fault a h (inl m) = inl m
ends rows all front rest r trades fault a h (inr f) =
    let z : 1 + length front ≡ length front + 1 = omega arith in
    inr (ap (trades_of rows) (a ∙ append_assoc front (r ∷ []) rest) ∙ front_first rows front r rest ∙ trade_records-more rows 1 [] front r rest trades h ∙ rw (z, f) refl)

-- all records were read
pub whole : (rows : Rows) (front : List (List (List ℕ))) (trades : List FileTrade) (n : ℕ) → n ≡ length front → (n ≡ 0 → ⊥) → with_trade_records rows 1 [] front ≡ Ok trades → trades_of rows front ≡ Ok trades
whole rows [] trades n e some h = absurd (some (omega arith))
whole rows (x ∷ front) trades n e some h = h

pub nothing : (rows : Rows) (front : List (List (List ℕ))) (n : ℕ) → n ≡ length front → n ≡ 0 → trades_of rows front ≡ Err (Columns 1)
nothing rows [] n e z = refl
nothing rows (x ∷ front) n e z = absurd (omega arith)

-- what the whole draft of the records answers
pub whole_answer : (rows : Rows) (all front : List (List (List ℕ))) (draft : TradeDraft) (n : ℕ) (r : Result TradeDraft FileFault) → all ≡ front → with_trade_records rows 1 [] front ≡ Ok (trades_of_draft draft) → n ≡ length front
    → IfOk r (λ d. (d ≡ draft) × (n ≢ 0)) → IfErr r (λ fault. (fault ≡ Columns 1) × (n ≡ 0))
    → IfOk r (λ d. trades_of rows all ≡ Ok (trades_of_draft d)) × IfErr r (λ fault. (fault ≡ Memory) ⊎ (trades_of rows all ≡ Err fault))
whole_answer rows all front draft n (Ok d) e h count ok err =
    (ap (trades_of rows) e ∙ whole rows front (trades_of_draft draft) n count ok.1 h ∙ ap (λ x. Ok (trades_of_draft x)) (sym ok.0), tt)
whole_answer rows all front draft n (Err fault) e h count ok err =
    (tt, inr (ap (trades_of rows) e ∙ nothing rows front n count err.1 ∙ ap Err (sym err.0)))
