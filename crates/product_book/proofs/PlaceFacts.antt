-- The trade with a number, and the element at a place of a list.
use Rattle.std.proofs.Common.{◌≡◌, ℕ, ◌<◌, ◌≤◌, nat_lt, Bool, true, false, List, ◌++◌, length, take, drop, get_or, slice_get, Option, Some, None, is_some, IfSome, IsTrue, option_copied, if◌then◌else◌, arith, refl, sym, ◌∙◌}
use Rattle.std.proofs.lemmas.Bool.Decides.{nat_tests}
use Rattle.std.proofs.lemmas.List.{take-append-le, take_all}
use Rattle.std.proofs.lemmas.Option.{slice_get_read, slice_get_past, slice_get_within}
use Rattle.std.specs.Borrow.{Bor}
use Rattle.command_types.specs.declared.trade.TradeRow.{TradeRow}

-- what `get` finds is the element
pub copied_get : {X : Type 0} (xs : List X) (i : ℕ) (o : Option (Bor X)) → is_some o ≡ nat_lt i (length xs) → IfSome o (λ x. x.now ≡ get_or xs i x.now) → option_copied o ≡ slice_get xs i
copied_get xs i None there is = let past : length xs ≤ i = grind (arith, nat_tests) in sym (slice_get_past xs i past)
copied_get xs i (Some x) there is = let within : i < length xs = grind (arith, nat_tests) in sym (slice_get_read xs (length xs) i x.now refl within is)

pub there_by : (t : Bool) (o : Option TradeRow) → IsTrue (is_some (if t then o else None)) → (t ≡ true) × IsTrue (is_some o)
there_by true o h = (refl, h)
there_by false o h = cc

pub within_by : (rows : List TradeRow) (i : ℕ) (o : Option TradeRow) → slice_get rows i ≡ o → IsTrue (is_some o) → i < length rows
within_by rows i (Some row) is h = slice_get_within rows i row is
within_by rows i None is h = cc

pub positive : (n : ℕ) → nat_lt 0 n ≡ true → 0 < n
positive n h = grind (arith, nat_tests)

-- what a Vec holds once a slice of all of it was written
pub written_back : (n : ℕ) (old new : List TradeRow) → length new ≡ n → take n (new ++ drop (length new) old) ≡ new
written_back n old new e = let le : n ≤ length new = omega arith in take-append-le n new (drop (length new) old) le ∙ take_all n new (omega arith)
