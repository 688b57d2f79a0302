-- The order of days is that of the calendar's day numbers.
use Rattle.std.proofs.Common.{◌≡◌, pos, ◌<◌, ◌<ℤ◌, ◌⊎◌, inl, inr, ◌↔◌, Bool, true, false, IsTrue, refl, sym, ◌∙◌, arith}
use Rattle.std.proofs.lemmas.Bool.Decides.{nat_tests}
use Rattle.std.proofs.lemmas.Grind.{common_steps}
use Rattle.jiff.specs.Types.{Date}
use Rattle.jiff.specs.Words.{epoch_day}
use Rattle.jiff.proofs.Family.{epoch_day-lt, epoch_day_same}
use Rattle.jiff.proofs.SpanFacts.{signed_arith}
use Rattle.jiff_core.proofs.DateLemmas.{IsEarlier, cases_date}
use Rattle.units_core.specs.Day.{DayParts, is_before}

-- a date of the calendar has the numbers of a day
pub record IsDateOf (d : DayParts) (a : Date) : Type 0 where
  pub year : a.year ≡ pos d.year
  pub month : a.month ≡ d.month
  pub day : a.day ≡ d.day

-- one day's numbers come before another's
EarlierParts : DayParts → DayParts → Type 0
EarlierParts x y = (x.year < y.year) ⊎ ((x.year ≡ y.year) × ((x.month < y.month) ⊎ ((x.month ≡ y.month) × (x.day < y.day))))

before_holds : (x y : DayParts) → EarlierParts x y → is_before x y ≡ true
unfolding EarlierParts
before_holds x y h = grind (arith, nat_tests, common_steps)

before_fails : (x y : DayParts) → (EarlierParts y x ⊎ ((x.year ≡ y.year) × (x.month ≡ y.month) × (x.day ≡ y.day))) → is_before x y ≡ false
unfolding EarlierParts
before_fails x y h = grind (arith, nat_tests, common_steps)

earlier_parts : (x y : DayParts) (a b : Date) → IsDateOf x a → IsDateOf y b → IsEarlier a b → EarlierParts x y
unfolding EarlierParts
earlier_parts x y a b dx dy (inl year) = let ex = dx.year in let ey = dy.year in inl (omega (arith, signed_arith))
earlier_parts x y a b dx dy (inr (year, inl month)) =
    let ex = dx.year in let ey = dy.year in let mx = dx.month in let my = dy.month in inr (omega (arith, signed_arith), inl (omega arith))
earlier_parts x y a b dx dy (inr (year, inr day)) =
    let ex = dx.year in let ey = dy.year in let mx = dx.month in let my = dy.month in let gx = dx.day in let gy = dy.day in
    inr (omega (arith, signed_arith), inr (omega (arith, day.0), omega (arith, day.1)))

is_false : (b : Bool) → (IsTrue b → ⊥) → b ≡ false
is_false true h = absurd (h refl)
is_false false h = refl

-- what compares the day numbers compares the days
pub before_by_day_number : (x y : DayParts) (a b : Date) (before : Bool) → IsDateOf x a → IsDateOf y b →
    (IsTrue before ↔ (epoch_day a <ℤ epoch_day b)) → before ≡ is_before x y
before_by_day_number x y a b before dx dy tells = elim (cases_date a b) [
  | inl lt ↦ tells.1 (epoch_day-lt a b lt) ∙ sym (before_holds x y (earlier_parts x y a b dx dy lt))
  | inr (inl gt) ↦ is_false before (λ h. let low = tells.0 h in let high = epoch_day-lt b a gt in omega (arith, signed_arith))
      ∙ sym (before_fails x y (inl (earlier_parts y x b a dy dx gt)))
  | inr (inr same) ↦ is_false before (λ h. let low = tells.0 h in let level = epoch_day_same a b same.0 same.1 same.2 in omega (arith, signed_arith))
      ∙ sym (before_fails x y (inr (let ex = dx.year in let ey = dy.year in let s = same.0 in omega (arith, signed_arith), sym dx.month ∙ same.1 ∙ dy.month, sym dx.day ∙ same.2 ∙ dy.day)))
]
