-- What is written over the new roster fits it.
use Rattle.std.proofs.Common.{◌≡◌, ℕ, suc, ◌+◌, ◌*◌, ◌≤◌, ◌<◌, ◌==◌, ◌&&◌, nat_lt, cond, Bool, true, false, List, [], ◌∷◌, length, filter, sum_by, slice_get, get_or, position, Option, Some, None, is_some, All, Ok, IsTrue, if◌then◌else◌, refl, sym, ap, ◌∙◌, subst, arith}
use Rattle.std.specs.Str.{bytes_eq}
use Rattle.std.proofs.lemmas.Bool.{ne_eqb}
use Rattle.std.proofs.lemmas.Bool.Decides.{nat_tests}
use Rattle.std.proofs.lemmas.List.Elements.{All-nil, All-cons, All-head, All-tail, All-filter, All-weaker}
use Rattle.std.proofs.lemmas.List.Sums.{length-filter, sum_by-le, sum_by-le-sum_by}
use Rattle.std.proofs.lemmas.Option.{slice_get_within, slice_get-get_or, get_or_from_slice_get}
use Rattle.std.proofs.lemmas.Slice.Eq.{bytes_eq-Decides}
use Rattle.units_core.specs.Day.{DayParts}
use Rattle.units_core.specs.Number.{is_amount}
use Rattle.units_core.specs.declared.limits.TheConstants.{MOST_GROSS, MOST_NUMBER}
use Rattle.command_types.specs.declared.base.Base.{Base}
use Rattle.command_types.specs.declared.roster.MemberRow.{MemberRow}
use Rattle.command_types.specs.declared.roster.ProductRow.{ProductRow}
use Rattle.command_types.specs.declared.tolerance.ToleranceRow.{ToleranceRow}
use Rattle.command_types.specs.declared.trade.TradeRow.{TradeRow}
use Rattle.command_types.specs.declared.trade.TradeState.{TradeState}
use Rattle.command_types.specs.declared.trade.TradeState.TheVariants.{Alleged, Live, Ended}
use Rattle.command_types.specs.Roster.{Rows, IsRoster, product_place}
use Rattle.command_types.specs.Tolerances.{setting_place, with_setting}
use Rattle.command_types.specs.Trades.{counts, gross_of, submitted_count}
use Rattle.command_types.specs.Bases.{Fits, IsFresh, IsSettingIn, IsTradeIn}
use Rattle.command_types.proofs.RosterFacts.{first_place, members_different, products_different}
use Rattle.period_roll.specs.Places.{new_member, new_product}
use Rattle.period_roll.specs.Trades.{is_kept, moved_trade, moved_trades, numbered_from}
use Rattle.period_roll.specs.Settings.{moved_beside, moved_setting, setting_at, with_some}
use Rattle.period_roll.specs.Rolls.{rolled_base}
use Rattle.period_roll.proofs.Found.{is_found, has_name, is_member_at, member_within, product_within, product_same}
use Rattle.period_roll.proofs.Moved.{IsMoved, is_moved, is_joined, is_made}
use Rattle.period_roll.proofs.Sums.{sums_none, sums_filtered, sums_moved, sums_numbered}

-- ---- parties

-- two members that are found at one place are the same
members_apart : (old new : Rows) (a b moved : ℕ) → IsRoster old → new_member old new a ≡ Some moved → new_member old new b ≡ Some moved → a ≡ b
members_apart old new a b moved roster ea eb =
    let name_of : MemberRow → List ℕ = λ row. row.name in
    let x = is_member_at old new a moved ea in
    let y = is_member_at old new b moved eb in
    let same : x.row.name ≡ y.row.name = sym (has_name name_of x.row.name new.members moved x.row x.found).1 ∙ (has_name name_of y.row.name new.members moved x.row y.found).1 in
    let first : Some a ≡ named_at x.row.name = first_place name_of old.members a x.row x.row.name (slice_get_within old.members a x.row x.there) (members_different old roster)
    ((bytes_eq-Decides (name_of (get_or old.members a x.row)) x.row.name).1 (ap name_of (get_or_from_slice_get old.members a x.row x.row x.there))) in
    let second : Some b ≡ named_at y.row.name = first_place name_of old.members b y.row y.row.name (slice_get_within old.members b y.row y.there) (members_different old roster)
    ((bytes_eq-Decides (name_of (get_or old.members b y.row)) y.row.name).1 (ap name_of (get_or_from_slice_get old.members b y.row y.row y.there))) in
    let both : Some a ≡ Some b = first ∙ ap named_at same ∙ sym second in
    cc
  where
    named_at : List ℕ → Option ℕ
    named_at name = position (λ (row : MemberRow). bytes_eq row.name name) old.members

-- ---- trades

fresh_kept : (state : TradeState) (row : TradeRow) (seller buyer product n : ℕ) → IsFresh state row → IsFresh state (record row { number = n; seller = seller; buyer = buyer; product = product })
fresh_kept Alleged row seller buyer product n fresh = fresh
fresh_kept Live row seller buyer product n fresh = tt
fresh_kept Ended row seller buyer product n fresh = tt

module _ (old new : Rows) (roster : IsRoster old) where
  abbrev IsBefore : TradeRow → Type 0
  IsBefore row = IsTradeIn (length old.members) (length old.products) row

  abbrev IsAfter : TradeRow → Type 0
  IsAfter row = IsTradeIn (length new.members) (length new.products) row

  one_in : (row moved : TradeRow) (n : ℕ) → IsMoved old new row moved → IsBefore row → IsAfter (record moved { number = n })
  one_in row moved n is good = record {
    seller = member_within old new row.seller moved.seller is.seller;
    buyer = member_within old new row.buyer moved.buyer is.buyer;
    product = product_within old new row.product moved.product is.product;
    different = λ same. good.different (members_apart old new row.seller row.buyer moved.seller roster is.seller (is.buyer ∙ ap (λ (p : ℕ). Some p) (sym same)));
    amount = subst (λ (r : TradeRow). IsTrue (is_amount r.amount)) (sym is.same) good.amount;
    fresh = subst (λ (r : TradeRow). IsFresh r.state (record r { number = n })) (sym is.same) (fresh_kept row.state row moved.seller moved.buyer moved.product n good.fresh);
  }

  all_in : (rows made : List TradeRow) (n : ℕ) → moved_trades old new rows ≡ Ok made → All IsBefore rows → All IsAfter (numbered_from n made)
  all_in [] made n e good = let none : [] ≡ made = cc in subst (λ (l : List TradeRow). All IsAfter (numbered_from n l)) none (All-nil IsAfter)
  all_in (row ∷ rows) made n e good =
      let is = is_joined (moved_trade old new row) (moved_trades old new rows) made e in
      subst (λ (l : List TradeRow). All IsAfter (numbered_from n l)) is.same
      (All-cons IsAfter (record is.moved { number = n }) (numbered_from (suc n) is.more) (one_in row is.moved n (is_moved old new row is.moved is.first_is) (All-head IsBefore row rows good))
      (all_in rows is.more (suc n) is.rest_is (All-tail IsBefore row rows good)))

  -- ---- settings

  abbrev IsSettingBefore : ToleranceRow → Type 0
  IsSettingBefore row = IsSettingIn (length old.members) (length old.products) row

  abbrev IsSettingAfter : ToleranceRow → Type 0
  IsSettingAfter row = IsSettingIn (length new.members) (length new.products) row

  setting_in : (row : ToleranceRow) (a b c : Option ℕ) → new_member old new row.member ≡ a → new_product old new row.product ≡ b → new_member old new row.other ≡ c → IsSettingBefore row →
      (rows : List ToleranceRow) → All IsSettingAfter rows → All IsSettingAfter (with_some (setting_at row a b c) rows)
  setting_in row None b c ea eb ec good rows all = all
  setting_in row (Some member) None c ea eb ec good rows all = all
  setting_in row (Some member) (Some product) None ea eb ec good rows all = all
  setting_in row (Some member) (Some product) (Some other) ea eb ec good rows all =
      set_all (record row { member = member; product = product; other = other }) (record {
        member = member_within old new row.member member ea;
        product = product_within old new row.product product eb;
        other = member_within old new row.other other ec;
        different = λ same. good.different (members_apart old new row.member row.other member roster ea (ec ∙ ap (λ (p : ℕ). Some p) (sym same)));
        level = good.level;
      }) rows all
    where
      set_by : (put : ToleranceRow) → IsSettingAfter put → (same less : Bool) (row : ToleranceRow) (rows more : List ToleranceRow) → IsSettingAfter row → All IsSettingAfter rows → All IsSettingAfter more →
          All IsSettingAfter (if same then put ∷ rows else (if less then put ∷ row ∷ rows else row ∷ more))
      set_by put is true less row rows more here rest later = All-cons IsSettingAfter put rows is rest
      set_by put is false true row rows more here rest later = All-cons IsSettingAfter put (row ∷ rows) is (All-cons IsSettingAfter row rows here rest)
      set_by put is false false row rows more here rest later = All-cons IsSettingAfter row more here later

      set_all : (put : ToleranceRow) → IsSettingAfter put → (rows : List ToleranceRow) → All IsSettingAfter rows → All IsSettingAfter (with_setting put rows)
      set_all put is [] all = All-cons IsSettingAfter put [] is (All-nil IsSettingAfter)
      set_all put is (row ∷ rows) all =
          set_by put is (setting_place row == setting_place put) (nat_lt (setting_place put) (setting_place row)) row rows (with_setting put rows) (All-head IsSettingAfter row rows all) (All-tail IsSettingAfter row rows all)
          (set_all put is rows (All-tail IsSettingAfter row rows all))

  beside_in : (made rows : List ToleranceRow) → All IsSettingAfter made → All IsSettingBefore rows → All IsSettingAfter (moved_beside old new made rows)
  beside_in made [] all good = all
  beside_in made (row ∷ rows) all good =
      beside_in (with_some (moved_setting old new row) made) rows
      (setting_in row (new_member old new row.member) (new_product old new row.product) (new_member old new row.other) refl refl refl (All-head IsSettingBefore row rows good) made all)
      (All-tail IsSettingBefore row rows good)

-- ---- sums

abbrev gross_part : Option ℕ → TradeRow → ℕ
gross_part product row = if is_found product row.product && counts row.state then row.amount else 0

at_most : (a b c : ℕ) → a ≤ b → b ≤ c → a ≤ c
at_most a b c l m = omega (arith, l, m)

next_small : (a m : ℕ) → nat_lt a m ≡ true → a + 1 ≤ m
next_small a m e = grind (arith, nat_tests)

kept_le : (t : Bool) (n : ℕ) → (if t then n else 0) ≤ n
kept_le true n = omega arith
kept_le false n = omega arith

nothing_more : (n m : ℕ) → n ≤ m * 0 → (most : ℕ) → n ≤ most
nothing_more n m l most = omega (arith, l)

past_place : (product count : ℕ) (row : TradeRow) → row.product < count → count ≤ product → gross_part (Some product) row ≤ 0
past_place product count row within past =
    let other = ne_eqb row.product product (λ (same : row.product ≡ product). omega (arith, within, past, same)) in
    subst (λ b. (if b && counts row.state then row.amount else 0) ≤ 0) (sym other) (omega arith)

module _ (old new : Rows) (matured : Option DayParts) (first : IsRoster old) (second : IsRoster new) (before trades : List TradeRow) (moved : moved_trades old new (filter (is_kept old matured) before) ≡ Ok trades) where
  -- a sum that moving leaves alone is at most the sum before
  sum_le : (f g : TradeRow → ℕ) → ((row other : TradeRow) → IsMoved old new row other → g other ≡ f row) → ((row : TradeRow) (n : ℕ) → g (record row { number = n }) ≡ g row) →
      sum_by g (numbered_from 1 trades) ≤ sum_by f before
  sum_le f g each blind =
      let kept : TradeRow → ℕ = λ row. if is_kept old matured row then f row else 0 in
      let same : sum_by g (numbered_from 1 trades) ≡ sum_by kept before =
      sums_numbered g blind 1 trades ∙ sums_moved old new f g each (filter (is_kept old matured) before) trades moved ∙ sums_filtered (is_kept old matured) f kept (λ row. refl) before in
      subst (λ n. n ≤ sum_by f before) (sym same) (sum_by-le-sum_by kept f before (λ row. kept_le (is_kept old matured row) (f row)))

  -- the products' gross
  gross_same : (name : List ℕ) (row other : TradeRow) → IsMoved old new row other → gross_part (product_place new name) other ≡ gross_part (product_place old name) row
  gross_same name row other is =
      (λ j. if is_found (product_place new name) other.product && counts (is.same j).state then (is.same j).amount else 0)
      ∙ (λ j. if sym (product_same old new row.product other.product first is.product name) j && counts row.state then row.amount else 0)

  found_gross : (o : Option ℕ) (most : ℕ) → ((product : ℕ) → gross_of product before ≤ most) → sum_by (gross_part o) before ≤ most
  found_gross None most bounded = subst (λ n. n ≤ most) (sym (sums_none (gross_part None) (λ row. refl) before)) (omega arith)
  found_gross (Some product) most bounded = bounded product

  product_gross : (product : ℕ) (o : Option ProductRow) → slice_get new.products product ≡ o → (most : ℕ) → ((place : ℕ) → gross_of place before ≤ most) →
      All (λ row. IsTradeIn (length new.members) (length new.products) row) (numbered_from 1 trades) → gross_of product (numbered_from 1 trades) ≤ most
  product_gross product (Some row) there most bounded all =
      let name_of : ProductRow → List ℕ = λ r. r.name in
      let place : Some product ≡ product_place new row.name = first_place name_of new.products product row row.name (slice_get_within new.products product row there) (products_different new second)
      ((bytes_eq-Decides (name_of (get_or new.products product row)) row.name).1 (ap name_of (get_or_from_slice_get new.products product row row there))) in
      let less = sum_le (gross_part (product_place old row.name)) (gross_part (product_place new row.name)) (gross_same row.name) (λ r n. refl) in
      subst (λ (o : Option ℕ). sum_by (gross_part o) (numbered_from 1 trades) ≤ most) (sym place) (at_most _ _ _ less (found_gross (product_place old row.name) most bounded))
  product_gross product None there most bounded all =
      let past = not_there new.products product there in
      let none = sum_by-le (gross_part (Some product)) 0 (numbered_from 1 trades)
      (All-weaker (λ row. IsTradeIn (length new.members) (length new.products) row) (λ row. gross_part (Some product) row ≤ 0) (λ row good. past_place product (length new.products) row good.product past) (numbered_from 1 trades) all) in
      nothing_more (gross_of product (numbered_from 1 trades)) (length (numbered_from 1 trades)) none most
    where
      not_there : (rows : List ProductRow) (k : ℕ) → slice_get rows k ≡ None → length rows ≤ k
      not_there rows k e = by (nat_lt k (length rows)) refl
        where
          by : (t : Bool) → nat_lt k (length rows) ≡ t → length rows ≤ k
          by false f = grind (arith, nat_tests)
          by true f = absurd (inside rows k e (grind (arith, nat_tests)))
            where
              inside : (xs : List ProductRow) (i : ℕ) → slice_get xs i ≡ None → i < length xs → ⊥
              inside [] i none lt = omega (arith, lt)
              inside (x ∷ xs) i none lt = let there : slice_get (x ∷ xs) i ≡ Some (get_or (x ∷ xs) i x) = slice_get-get_or (x ∷ xs) i x lt in cc

  -- those that a party submitted

  few_submitted : submitted_count (numbered_from 1 trades) ≤ submitted_count before
  few_submitted =
      let part : TradeRow → ℕ = λ row. cond (is_some row.submitter) 1 0 in
      let less = sum_le part part (λ row other is. ap part is.same) (λ row n. refl) in
      let after = length-filter (λ (row : TradeRow). is_some row.submitter) (numbered_from 1 trades) in
      let earlier = length-filter (λ (row : TradeRow). is_some row.submitter) before in
      subst (λ n. n ≤ submitted_count before) (sym after) (subst (λ n. sum_by part (numbered_from 1 trades) ≤ n) (sym earlier) less)

pub rolled_fits : (old new : Rows) (matured : Option DayParts) (base made : Base) → IsRoster old → IsRoster new → Fits old base → rolled_base old new matured base ≡ Ok made → Fits new made
rolled_fits old new matured base made first second fits e =
    let is = is_made old new matured base made e in
    let good = All-filter (is_kept old matured) (λ row. IsTradeIn (length old.members) (length old.products) row) base.trades fits.trades in
    let trades = all_in old new first (filter (is_kept old matured) base.trades) is.trades 1 is.moved good in
    let settings = beside_in old new first [] base.tolerances (All-nil (λ row. IsSettingIn (length new.members) (length new.products) row)) fits.settings in
    subst (Fits new) is.same
    (record {
      position = next_small base.position MOST_NUMBER is.left;
      cycle = fits.cycle;
      version = fits.version;
      members = refl;
      products = refl;
      settings = settings;
      trades = trades;
      bounded = λ product. product_gross old new matured first second base.trades is.trades is.moved product (slice_get new.products product) refl MOST_GROSS fits.bounded trades;
      few = at_most _ _ _ (few_submitted old new matured first second base.trades is.trades is.moved) fits.few;
    })
