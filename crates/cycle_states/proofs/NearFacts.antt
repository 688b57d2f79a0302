-- The marks of a member's pairs, and one row of limits more in front of those that they tell of.
use Rattle.std.proofs.Common.{◌≡◌, ◌≢◌, ℕ, suc, ◌+◌, ◌<◌, ◌==◌, ◌&&◌, Bool, true, false, not, List, [], ◌∷◌, length, get_or, set, drop, replicate, Option, if◌then◌else◌, refl, sym, ap, subst, ◌∙◌, arith, ⊎_elim}
use Rattle.std.proofs.lemmas.Bool.{cases_eq, eq-eqb, ne_eqb}
use Rattle.std.proofs.lemmas.List.{get_or-set_same, get_or-set_other, length-set, get_or-replicate, length-replicate}
use Rattle.std.proofs.Math.Seq.{drop-cons}
use Rattle.network_laws.specs.declared.rows.LimitRow.{LimitRow}
use Rattle.network_laws.specs.Limits.{upper_in}
use Rattle.command_types.specs.Tolerances.{is_zero_bound}
use Rattle.cycle_states.specs.NearMembers.{AreMarks}

-- whether a bound is above 0
abbrev owes_by : Option ℕ → Bool
owes_by high = not (is_zero_bound high)

pub none_marked : (member : ℕ) → AreMarks [] member (replicate 256 false) (replicate 256 false)
none_marked member = record {
  sold_full = length-replicate {A = Bool} 256 false;
  bought_full = length-replicate {A = Bool} 256 false;
  sold_each = λ other l. get_or-replicate 256 other false false l;
  bought_each = λ other l. get_or-replicate 256 other false false l;
}

-- a mark that may be set at a place
abbrev marked : Bool → List Bool → ℕ → Bool → List Bool
marked own marks place owes = if own then set marks place owes else marks

as_long : (own : Bool) (marks : List Bool) (place : ℕ) (owes : Bool) → length (marked own marks place owes) ≡ length marks
as_long true marks place owes = length-set marks place owes
as_long false marks place owes = refl

-- where it is set, it tells of the row in front, and else the marks tell what they told
sold_mark : (own : Bool) (marks : List Bool) (place other : ℕ) (owes : Bool) (first rest : Option ℕ) → place < length marks → owes ≡ owes_by first → get_or marks other false ≡ owes_by rest →
    get_or (marked own marks place owes) other false ≡ owes_by (if own && (place == other) then first else rest)
sold_mark false marks place other owes first rest within is before = before
sold_mark true marks place other owes first rest within is before =
    ⊎_elim (λ (e : place ≡ other).
    ap (λ m. get_or (set marks place owes) m false) (sym e) ∙ get_or-set_same marks place owes false within ∙ is
    ∙ ap (λ b. owes_by (if b then first else rest)) (sym (eq-eqb place other e)))
    (λ (ne : place ≢ other).
    get_or-set_other marks place other owes false (λ e. ne (sym e)) ∙ before ∙ ap (λ b. owes_by (if b then first else rest)) (sym (ne_eqb place other ne)))
    (cases_eq place other)

either_way : (a b : Bool) → (a && b) ≡ (b && a)
either_way true true = refl
either_way true false = refl
either_way false true = refl
either_way false false = refl

bought_mark : (own : Bool) (marks : List Bool) (place other : ℕ) (owes : Bool) (first rest : Option ℕ) → place < length marks → owes ≡ owes_by first → get_or marks other false ≡ owes_by rest →
    get_or (marked own marks place owes) other false ≡ owes_by (if (place == other) && own then first else rest)
bought_mark own marks place other owes first rest within is before =
    sold_mark own marks place other owes first rest within is before ∙ ap (λ b. owes_by (if b then first else rest)) (either_way own (place == other))

-- one row more in front
pub marks_more : (rows : List LimitRow) (k : ℕ) (d : LimitRow) (member : ℕ) (sold bought sold_now bought_now : List Bool) → k < length rows → (get_or rows k d).seller < 256 → (get_or rows k d).buyer < 256 →
    sold_now ≡ (if (get_or rows k d).seller == member then set sold (get_or rows k d).buyer (not (is_zero_bound (get_or rows k d).upper)) else sold) →
    bought_now ≡ (if (get_or rows k d).buyer == member then set bought (get_or rows k d).seller (not (is_zero_bound (get_or rows k d).upper)) else bought) →
    AreMarks (drop (k + 1) rows) member sold bought → AreMarks (drop k rows) member sold_now bought_now
marks_more rows k d member sold bought sold_now bought_now l in_s in_b sets buys h =
    let row = get_or rows k d in
    let owes = owes_by row.upper in
    let rest = drop (k + 1) rows in
    let one : suc k ≡ k + 1 = omega arith in
    let front : drop k rows ≡ row ∷ rest = drop-cons rows k d l ∙ ap (λ n. row ∷ drop n rows) one in
    let told : AreMarks (row ∷ rest) member (marked (row.seller == member) sold row.buyer owes) (marked (row.buyer == member) bought row.seller owes) = record {
      sold_full = as_long (row.seller == member) sold row.buyer owes ∙ h.sold_full;
      bought_full = as_long (row.buyer == member) bought row.seller owes ∙ h.bought_full;
      sold_each = λ other within. sold_mark (row.seller == member) sold row.buyer other owes row.upper (upper_in rest member other) (omega (arith, in_b, h.sold_full)) refl (h.sold_each other within);
      bought_each = λ other within. bought_mark (row.buyer == member) bought row.seller other owes row.upper (upper_in rest other member) (omega (arith, in_s, h.bought_full)) refl (h.bought_each other within);
    } in
    subst (λ list. AreMarks list member sold_now bought_now) (sym front)
    (subst (λ marks. AreMarks (row ∷ rest) member marks bought_now) (sym sets)
    (subst (λ marks. AreMarks (row ∷ rest) member (marked (row.seller == member) sold row.buyer owes) marks) (sym buys) told))

-- at the rows' end nothing is marked, and in front of all each row is told of
pub marks_of_none : (rows : List LimitRow) (n member : ℕ) (sold bought : List Bool) → drop n rows ≡ [] → AreMarks [] member sold bought → AreMarks (drop n rows) member sold bought
marks_of_none rows n member sold bought none h = subst (λ list. AreMarks list member sold bought) (sym none) h
