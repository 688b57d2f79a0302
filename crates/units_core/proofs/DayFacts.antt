use Rattle.std.proofs.Common.{◌≡◌, ℕ, ◌+◌, ◌*◌, ◌≤◌, ◌&&◌, arith, Bool, true, List, pos, Option, Some, None, sym, ap, ◌∙◌, cond}
use Rattle.std.proofs.lemmas.Bool.Decides.{nat_tests}
use Rattle.std.proofs.lemmas.Grind.{common_steps}
use Rattle.jiff_core.proofs.CalendarLemmas.{days_in_month_bounds}
use Rattle.units_core.specs.Day.{DayParts, digit_at, is_civil, is_day_form, day_parts, day_of, day_text}

-- the day that a text names, by its numbers
pub day_read : (text : List ℕ) (y m d : ℕ) (found : Bool) → is_day_form text ≡ true →
    y ≡ 1000 * digit_at text 0 + 100 * digit_at text 1 + 10 * digit_at text 2 + digit_at text 3 →
    m ≡ 10 * digit_at text 5 + digit_at text 6 → d ≡ 10 * digit_at text 8 + digit_at text 9 →
    found ≡ is_civil (record { year = y; month = m; day = d }) →
    day_of text ≡ cond {A = Option DayParts} found (Some (record { year = y; month = m; day = d })) None
day_read text y m d found form ey em ed is =
    let same : record { year = y; month = m; day = d } ≡ day_parts text = λ i. record { year = ey i; month = em i; day = ed i } in
    ap (λ b. cond {A = Option DayParts} (b && is_civil (day_parts text)) (Some (day_parts text)) None) form
    ∙ sym (ap (λ (p : DayParts). cond {A = Option DayParts} (is_civil p) (Some p) None) same)
    ∙ sym (ap (λ b. cond {A = Option DayParts} b (Some (record { year = y; month = m; day = d })) None) is)

-- a day's month and day have at most two digits
civil_bounds : (y m d : ℕ) → is_civil (record { year = y; month = m; day = d }) ≡ true → (m ≤ 12) × (d ≤ 31)
civil_bounds y m d civil = let most = days_in_month_bounds (pos y) m in grind (arith, nat_tests, common_steps)

-- a day's text names it
pub day_named : (y m d : ℕ) → y ≤ 9999 → is_civil (record { year = y; month = m; day = d }) ≡ true →
    day_of (day_text (record { year = y; month = m; day = d })) ≡ Some (record { year = y; month = m; day = d })
day_named y m d most civil =
    let small = civil_bounds y m d civil in
    day_read (day_text (record { year = y; month = m; day = d })) y m d true (grind (arith, nat_tests, common_steps)) (omega arith) (omega arith) (omega arith) (sym civil)
