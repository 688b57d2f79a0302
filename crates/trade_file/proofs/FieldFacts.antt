-- The fields of a record that has three.
use Rattle.std.proofs.Common.{◌≡◌, ◌≢◌, refl, Err, false, ℕ, List, [], ◌∷◌, length, Some, None, arith}
use Rattle.csv.specs.Records.{field_at}
use Rattle.command_types.specs.declared.file_fault.FileFault.TheVariants.{Columns}
use Rattle.trade_file.specs.RosterRow.{is_header, row_of}

pub none_at_0 : (fs : List (List ℕ)) → None ≡ field_at fs 0 → length fs ≡ 3 → ⊥
unfolding field_at
none_at_0 [] e h = omega arith
none_at_0 (a ∷ fs) e h = cc

pub none_at_1 : (fs : List (List ℕ)) → None ≡ field_at fs 1 → length fs ≡ 3 → ⊥
unfolding field_at
none_at_1 [] e h = omega arith
none_at_1 (a ∷ []) e h = omega arith
none_at_1 (a ∷ b ∷ fs) e h = cc

pub none_at_2 : (fs : List (List ℕ)) → None ≡ field_at fs 2 → length fs ≡ 3 → ⊥
unfolding field_at
none_at_2 [] e h = omega arith
none_at_2 (a ∷ []) e h = omega arith
none_at_2 (a ∷ b ∷ []) e h = omega arith
none_at_2 (a ∷ b ∷ c ∷ fs) e h = cc

pub three : (fs : List (List ℕ)) (a b c : List ℕ)
    → length fs ≡ 3 → Some a ≡ field_at fs 0 → Some b ≡ field_at fs 1 → Some c ≡ field_at fs 2 → fs ≡ a ∷ b ∷ c ∷ []
unfolding field_at
three [] a b c h e f g = absurd (omega arith)
three (x ∷ []) a b c h e f g = absurd (omega arith)
three (x ∷ y ∷ []) a b c h e f g = absurd (omega arith)
three (x ∷ y ∷ z ∷ []) a b c h e f g = cc
three (x ∷ y ∷ z ∷ w ∷ fs) a b c h e f g = absurd (omega arith)

pub no_header : (fs : List (List ℕ)) → length fs ≢ 3 → is_header fs ≡ false
no_header [] h = refl
no_header (a ∷ []) h = refl
no_header (a ∷ b ∷ []) h = refl
no_header (a ∷ b ∷ c ∷ []) h = absurd (h refl)
no_header (a ∷ b ∷ c ∷ d ∷ fs) h = refl

pub no_row : (n : ℕ) (fs : List (List ℕ)) → length fs ≢ 3 → row_of n fs ≡ Err (Columns n)
no_row n [] h = refl
no_row n (a ∷ []) h = refl
no_row n (a ∷ b ∷ []) h = refl
no_row n (a ∷ b ∷ c ∷ []) h = absurd (h refl)
no_row n (a ∷ b ∷ c ∷ d ∷ fs) h = refl
