-- Settings stay those of pairs, in rising order, through every change of a legal history.
use Rattle.std.proofs.Common.{◌≡◌, ℕ, suc, ◌≤◌, ◌||◌, ◌==◌, not, nat_lt, Bool, true, false, List, [], ◌∷◌, length, get_or, Option, Some, None, is_none, is_some, unwrap_or, All, if◌then◌else◌, refl, sym, subst, ◌∙◌, arith}
use Rattle.std.proofs.lemmas.Bool.{false≢true}
use Rattle.std.proofs.lemmas.Bool.Decides.{nat_tests}
use Rattle.std.proofs.lemmas.List.Elements.{All-nil, All-cons, All-head, All-tail}
use Rattle.std.proofs.lemmas.Slice.Eq.{bytes_eq-Decides}
use Rattle.std.specs.Str.{bytes_eq}
use Rattle.network_laws.specs.Solutions.{SolutionData}
use Rattle.command_types.specs.declared.ask.What.{What}
use Rattle.command_types.specs.declared.ask.What.TheVariants.{Tol, Post, Accept}
use Rattle.command_types.specs.declared.figures.State.{State}
use Rattle.command_types.specs.declared.plan.PlanRow.{PlanRow}
use Rattle.command_types.specs.declared.refusal.Refusal.TheVariants.{NotGreeted}
use Rattle.command_types.specs.declared.roster.MemberRow.{MemberRow}
use Rattle.command_types.specs.declared.roster.ProductRow.{ProductRow}
use Rattle.command_types.specs.declared.tolerance.ToleranceRow.{ToleranceRow}
use Rattle.command_types.specs.declared.trade.Side.{Side}
use Rattle.command_types.specs.Roster.{Rows, member_place, product_place, is_operator, is_party}
use Rattle.command_types.specs.Tolerances.{setting_place, with_setting}
use Rattle.command_types.specs.Cycles.{posted_plan}
use Rattle.command_types.specs.CycleRefusals.{tol_refusals}
use Rattle.command_types.specs.CycleSteps.{proposed_or_done, touched_in, after_vote, left_after}
use Rattle.command_types.specs.Machine.{first_of, refusals, member_of, product_of, state_by}
use Rattle.command_types.specs.Bases.{AreRising, IsSettingIn}
use Rattle.cycle_states.proofs.MachineFacts.{none_holds, not_false, found_by, some_member}

module _ (P : ToleranceRow → Type 0) (new : ToleranceRow) (is : P new) where
  set_by : (same less : Bool) (row : ToleranceRow) (rows more : List ToleranceRow) → P row → All P rows → All P more →
      All P (if same then new ∷ rows else (if less then new ∷ row ∷ rows else row ∷ more))
  set_by true less row rows more here rest later = All-cons P new rows is rest
  set_by false true row rows more here rest later = All-cons P new (row ∷ rows) is (All-cons P row rows here rest)
  set_by false false row rows more here rest later = All-cons P row more here later

  set_all : (rows : List ToleranceRow) → All P rows → All P (with_setting new rows)
  set_all [] all = All-cons P new [] is (All-nil P)
  set_all (row ∷ rows) all =
      set_by (setting_place row == setting_place new) (nat_lt (setting_place new) (setting_place row)) row rows (with_setting new rows) (All-head P row rows all) (All-tail P row rows all) (set_all rows (All-tail P row rows all))

same_number : (a b : ℕ) → (a == b) ≡ true → a ≡ b
same_number a b e = grind (arith, nat_tests)

less_number : (a b : ℕ) → nat_lt b a ≡ true → suc b ≤ a
less_number a b e = grind (arith, nat_tests)

more_number : (a b : ℕ) → (a == b) ≡ false → nat_lt b a ≡ false → suc a ≤ b
more_number a b e f = grind (arith, nat_tests)

module _ (new : ToleranceRow) where
  rising_by : (above : ℕ) (same less : Bool) (row : ToleranceRow) (rows more : List ToleranceRow) → (setting_place row == setting_place new) ≡ same → nat_lt (setting_place new) (setting_place row) ≡ less →
      above ≤ setting_place new → above ≤ setting_place row → AreRising (suc (setting_place row)) rows → (suc (setting_place row) ≤ setting_place new → AreRising (suc (setting_place row)) more) →
      AreRising above (if same then new ∷ rows else (if less then new ∷ row ∷ rows else row ∷ more))
  rising_by above true less row rows more is by low here rest later =
      (low, subst (λ n. AreRising (suc n) rows) (same_number (setting_place row) (setting_place new) is) rest)
  rising_by above false true row rows more is by low here rest later = (low, (less_number (setting_place row) (setting_place new) by, rest))
  rising_by above false false row rows more is by low here rest later = (here, later (more_number (setting_place row) (setting_place new) is by))

  set_rising : (above : ℕ) (rows : List ToleranceRow) → above ≤ setting_place new → AreRising above rows → AreRising above (with_setting new rows)
  set_rising above [] low rising = (low, tt)
  set_rising above (row ∷ rows) low (here, rest) =
      rising_by above (setting_place row == setting_place new) (nat_lt (setting_place new) (setting_place row)) row rows (with_setting new rows) refl refl low here rest
      (λ past. set_rising (suc (setting_place row)) rows past rest)

-- the parties of an accepted TOL
party_there : (o : Option ℕ) (operator : Bool) → (is_some o || operator) ≡ true → operator ≡ false → is_none o ≡ false
party_there None operator party none = absurd (false≢true (sym none ∙ party))
party_there (Some place) operator party none = refl

one_name : (row : MemberRow) (a b : List ℕ) → bytes_eq row.name a ≡ true → bytes_eq row.name b ≡ true → bytes_eq b a ≡ true
one_name row a b first second =
    let same : b ≡ a = sym ((bytes_eq-Decides row.name b).0 second) ∙ (bytes_eq-Decides row.name a).0 first in
    (bytes_eq-Decides b a).1 same

setting_named : (s : State) (name other product : List ℕ) (side : Side) (floor : ℕ) (ceiling : Option ℕ) → first_of (refusals s (Some name) (Tol other product side floor ceiling)) ≡ None →
    IsSettingIn (length s.roster.members) (length s.roster.products) (record { member = member_of s name; product = product_of s product; other = member_of s other; side = side; floor = floor; ceiling = ceiling })
setting_named s name other product side floor ceiling none =
    let holds = none_holds ((not (is_party s.roster (Some name)), NotGreeted) ∷ tol_refusals s name other product floor ceiling) none in
    let party = not_false (is_some (member_place s.roster name) || is_operator s.roster name) holds.0 in
    let stand = holds.1 in
    let self_there = party_there (member_place s.roster name) (is_operator s.roster name) party stand.1.1.1.0 in
    let self = found_by (λ (row : MemberRow). bytes_eq row.name name) s.roster.members some_member (member_place s.roster name) refl self_there in
    let far = found_by (λ (row : MemberRow). bytes_eq row.name other) s.roster.members some_member (member_place s.roster other) refl stand.0 in
    record {
      member = self.0;
      product = (found_by (λ (row : ProductRow). bytes_eq row.name product) s.roster.products (record { name = []; maturity = record { year = 0; month = 0; day = 0 } }) (product_place s.roster product) refl stand.1.0).0;
      other = far.0;
      different = λ same. false≢true (sym stand.1.1.0 ∙ one_name (get_or s.roster.members (member_of s other) some_member) name other
          (subst (λ i. bytes_eq (get_or s.roster.members i some_member).name name ≡ true) same self.1) far.1);
      level = stand.1.1.1.1.0;
    }

setting_set : (s : State) (by : Option (List ℕ)) (other product : List ℕ) (side : Side) (floor : ℕ) (ceiling : Option ℕ) → first_of (refusals s by (Tol other product side floor ceiling)) ≡ None →
    IsSettingIn (length s.roster.members) (length s.roster.products) (record { member = member_of s (unwrap_or by []); product = product_of s product; other = member_of s other; side = side; floor = floor; ceiling = ceiling })
setting_set s None other product side floor ceiling none = cc
setting_set s (Some name) other product side floor ceiling none = setting_named s name other product side floor ceiling none

same_settings_posted : (s : State) (solutions : List SolutionData) (plan : List PlanRow) (touched : List ℕ) → (proposed_or_done s solutions plan touched).tolerances ≡ s.tolerances
same_settings_posted s solutions plan [] = refl
same_settings_posted s solutions plan (member ∷ members) = refl

same_settings_voted : (s : State) (member : ℕ) (left : List ℕ) → (after_vote s member left).tolerances ≡ s.tolerances
same_settings_voted s member [] = refl
same_settings_voted s member (voter ∷ voters) = refl

-- each of a pair of the roster, in rising order
abbrev pub Settings : Rows → List ToleranceRow → Type 0
Settings roster rows = All (IsSettingIn (length roster.members) (length roster.products)) rows × AreRising 0 rows

pub settings_by : (s : State) (by : Option (List ℕ)) (what : What) → first_of (refusals s by what) ≡ None → Settings s.roster s.tolerances → Settings s.roster (state_by s by what).tolerances
settings_by s by (Tol other product side floor ceiling) none (all, rising) =
    let new : ToleranceRow = record { member = member_of s (unwrap_or by []); product = product_of s product; other = member_of s other; side = side; floor = floor; ceiling = ceiling } in
    (set_all (IsSettingIn (length s.roster.members) (length s.roster.products)) new (setting_set s by other product side floor ceiling none) s.tolerances all, set_rising new 0 s.tolerances (omega arith) rising)
settings_by s by (Post cycle version solutions) none both =
    subst (Settings s.roster) (sym (same_settings_posted s solutions (posted_plan s.cycle s.trades solutions) (touched_in s (posted_plan s.cycle s.trades solutions)))) both
settings_by s by (Accept cycle version) none both =
    subst (Settings s.roster) (sym (same_settings_voted s (member_of s (unwrap_or by [])) (left_after s (member_of s (unwrap_or by []))))) both
settings_by s by what none both = both
