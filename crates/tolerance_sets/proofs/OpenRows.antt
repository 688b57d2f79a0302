-- Copies of a seller's rows without trades.
use Rattle.std.proofs.Common.{◌≡◌, ◌≢◌, ℕ, zero, suc, ◌+◌, ◌-◌, ◌<◌, ◌≤◌, ◌++◌, List, [], ◌∷◌, length, get_or, take, drop, refl, sym, ap, ◌∙◌, arith}
use Rattle.std.specs.Prelude.{slice_range}
use Rattle.std.proofs.Math.Seq.{take-suc}
use Rattle.std.proofs.lemmas.Bool.{eq-eqb, ne_eqb}
use Rattle.std.proofs.lemmas.List.{append_assoc, append-nil, get_or-drop, length-drop}
use Rattle.network_laws.specs.declared.rows.LimitRow.{LimitRow}
use Rattle.tolerance_sets.specs.OpenPairs.{boundless, open_row, listed_from}

listed_join : (from a b : ℕ) (f : ℕ → List LimitRow) → listed_from from (a + b) f ≡ listed_from from a f ++ listed_from (from + a) b f
listed_join from a zero f =
    let e : a + 0 ≡ a = omega arith in
    ap (λ k. listed_from from k f) e ∙ sym (append-nil (listed_from from a f))
listed_join from a (suc b) f =
    let e : a + suc b ≡ suc (a + b) = omega arith in
    let here : from + (a + b) ≡ from + a + b = omega arith in
    ap (λ k. listed_from from k f) e
    ∙ ap (λ xs. xs ++ f (from + (a + b))) (listed_join from a b f)
    ∙ ap (λ k. (listed_from from a f ++ listed_from (from + a) b f) ++ f k) here
    ∙ append_assoc (listed_from from a f) (listed_from (from + a) b f) (f (from + a + b))

module _ (seller : ℕ) (rows : List LimitRow) (each : (b : ℕ) (d : LimitRow) → b < length rows → get_or rows b d ≡ boundless seller b) where
  run : (from n : ℕ) → from + n ≤ length rows → ((k : ℕ) → from ≤ k → k < from + n → seller ≢ k) → take n (drop from rows) ≡ listed_from from n (open_row seller)
  run from zero le other = refl
  run from (suc n) le other =
      let d = boundless 0 0 in
      let here = get_or-drop from rows n d ∙ each (from + n) d (omega (arith, le)) in
      take-suc (drop from rows) n d (omega (arith, le, length-drop from rows))
      ∙ ap (λ xs. xs ++ get_or (drop from rows) n d ∷ []) (run from n (omega (arith, le)) (λ k lk l. other k lk (omega (arith, l))))
      ∙ ap (λ row. listed_from from n (open_row seller) ++ row ∷ []) here
      ∙ ap (λ xs. listed_from from n (open_row seller) ++ xs) (sym (rw (ne_eqb seller (from + n) (other (from + n) (omega arith) (omega arith))) refl))

  -- a run without the seller's own row
  pub others_run : (from to : ℕ) → from ≤ to → to ≤ length rows → ((k : ℕ) → from ≤ k → k < to → seller ≢ k) → slice_range rows from to ≡ listed_from from (to - from) (open_row seller)
  others_run from to le le' other =
      let up : from + (to - from) ≡ to = omega (arith, le) in
      run from (to - from) (omega (arith, le', up)) (λ k lk l. other k lk (omega (arith, l, up)))

  -- one with it, which is left out
  pub both_runs : (from to : ℕ) → from ≤ seller → seller < to → to ≤ length rows →
      slice_range rows from seller ++ slice_range rows (seller + 1) to ≡ listed_from from (to - from) (open_row seller)
  both_runs from to le l le' =
      let f = open_row seller in
      let n : to - from ≡ (seller - from) + suc (to - (seller + 1)) = omega (arith, le, l) in
      let up : from + (seller - from) ≡ seller = omega (arith, le) in
      let one : suc (to - (seller + 1)) ≡ 1 + (to - (seller + 1)) = omega arith in
      let own : listed_from seller 1 f ≡ [] = rw (eq-eqb seller (seller + 0) (omega arith)) refl in
      ap (λ xs. xs ++ slice_range rows (seller + 1) to) (others_run from seller le (omega (arith, l, le')) (λ k lk lk' e. omega (arith, lk', e)))
      ∙ ap (λ xs. listed_from from (seller - from) f ++ xs) (others_run (seller + 1) to (omega (arith, l)) le' (λ k lk lk' e. omega (arith, lk, e)) ∙ sym (ap (λ xs. xs ++ listed_from (seller + 1) (to - (seller + 1)) f) own) ∙ sym (listed_join seller 1 (to - (seller + 1)) f) ∙ sym (ap (λ k. listed_from seller k f) one))
      ∙ sym (ap (λ k. listed_from from k f) n ∙ listed_join from (seller - from) (suc (to - (seller + 1))) f ∙ ap (λ k. listed_from from (seller - from) f ++ listed_from k (suc (to - (seller + 1))) f) up)
