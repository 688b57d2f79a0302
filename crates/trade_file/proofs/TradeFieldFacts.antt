-- The fields of a record that has four.
use Rattle.std.proofs.Common.{◌≡◌, ◌≢◌, ◌<◌, refl, Err, false, ℕ, zero, suc, List, [], ◌∷◌, length, Some, None, arith}
use Rattle.csv.specs.Records.{field_at}
use Rattle.command_types.specs.Roster.{Rows}
use Rattle.command_types.specs.declared.file_fault.FileFault.TheVariants.{Columns}
use Rattle.trade_file.specs.TradeFile.{is_trade_header, trade_of}

pub none_at : (fs : List (List ℕ)) (k : ℕ) → None ≡ field_at fs k → k < length fs → ⊥
unfolding field_at
none_at [] k e h = omega arith
none_at (f ∷ fs) zero e h = cc
none_at (f ∷ fs) (suc k) e h = none_at fs k e (omega arith)

pub four : (fs : List (List ℕ)) (a b c d : List ℕ)
    → length fs ≡ 4 → Some a ≡ field_at fs 0 → Some b ≡ field_at fs 1 → Some c ≡ field_at fs 2 → Some d ≡ field_at fs 3 → fs ≡ a ∷ b ∷ c ∷ d ∷ []
unfolding field_at
four [] a b c d h e f g i = absurd (omega arith)
four (x ∷ []) a b c d h e f g i = absurd (omega arith)
four (x ∷ y ∷ []) a b c d h e f g i = absurd (omega arith)
four (x ∷ y ∷ z ∷ []) a b c d h e f g i = absurd (omega arith)
four (x ∷ y ∷ z ∷ w ∷ []) a b c d h e f g i = cc
four (x ∷ y ∷ z ∷ w ∷ v ∷ fs) a b c d h e f g i = absurd (omega arith)

pub no_trade_header : (fs : List (List ℕ)) → length fs ≢ 4 → is_trade_header fs ≡ false
no_trade_header [] h = refl
no_trade_header (a ∷ []) h = refl
no_trade_header (a ∷ b ∷ []) h = refl
no_trade_header (a ∷ b ∷ c ∷ []) h = refl
no_trade_header (a ∷ b ∷ c ∷ d ∷ []) h = absurd (h refl)
no_trade_header (a ∷ b ∷ c ∷ d ∷ e ∷ fs) h = refl

pub no_trade : (rows : Rows) (n : ℕ) (fs : List (List ℕ)) → length fs ≢ 4 → trade_of rows n fs ≡ Err (Columns n)
no_trade rows n [] h = refl
no_trade rows n (a ∷ []) h = refl
no_trade rows n (a ∷ b ∷ []) h = refl
no_trade rows n (a ∷ b ∷ c ∷ []) h = refl
no_trade rows n (a ∷ b ∷ c ∷ d ∷ []) h = absurd (h refl)
no_trade rows n (a ∷ b ∷ c ∷ d ∷ e ∷ fs) h = refl
