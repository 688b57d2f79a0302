-- What a house tells of its last entry.
use Rattle.std.proofs.Common.{◌≡◌, ℕ, ◌+◌, ◌-◌, ◌<◌, ◌≤◌, ◌⊎◌, Bool, true, false, not, cond, nat_lt, is_some, List, [], ◌∷◌, ◌++◌, length, take, drop, Some, refl, sym, ap, ◌∙◌, subst, inl, inr, arith, length-append, length-drop}
use Rattle.std.specs.Prelude.{◌||◌}
use Rattle.std.proofs.lemmas.Bool.{false≢true}
use Rattle.std.proofs.lemmas.Bool.Decides.{nat_tests}
use Rattle.std.proofs.lemmas.List.{take-append-drop, length-take-le, append-nil}
use Rattle.command_types.specs.declared.ask.Ask.{Ask}
use Rattle.command_types.specs.declared.ask.Entry.{Entry}
use Rattle.command_types.specs.declared.ask.What.TheVariants.{Next}
use Rattle.command_types.specs.declared.answer.Answer.{Answer}
use Rattle.command_types.specs.declared.answer.Answer.TheVariants.{NoNext, No}
use Rattle.command_types.specs.declared.answer.Reply.{Reply}
use Rattle.command_types.specs.declared.figures.State.{State}
use Rattle.command_types.specs.declared.refusal.Refusal.TheVariants.{NotGreeted, NotOperator, Gone, Ahead}
use Rattle.command_types.specs.History.{History, end_of, replayed_from}
use Rattle.command_types.specs.Machine.{answer_to, first_of, refused_or}
use Rattle.command_types.specs.Offers.{answer_at, first_behind, with_entries}
use Rattle.command_types.specs.Roster.{Rows, is_operator, is_party, member_place}
use Rattle.command_types.specs.Told.{IsHouse, IsMemory, IsNotRecorded, IsRecorded}
use Rattle.house.specs.House.{HouseView, figures_of, is_stopped}
use Rattle.house.specs.Calling.{Calls, is_disk_fault}
use Rattle.trade_history.proofs.Rosters.{roster_on}
use Rattle.standby.proofs.HeldFacts.{longer_nil}
use Rattle.standby_link.specs.Compared.{HasNone, IsToldLast, last_in}

-- the last of some entries
pub record Split (es : List Entry) (n : ℕ) : Type 0 where
  pub last : Entry
  pub split : es ≡ take n es ++ last ∷ []
  pub one : drop n es ≡ last ∷ []
  pub long : length (take n es) ≡ n

one_left : (es rest : List Entry) (n : ℕ) → length es ≡ n + 1 → drop n es ≡ rest → length rest ≡ 1 → Split es n
one_left es [] n long is count = absurd (omega (arith, count))
one_left es (last ∷ []) n long is count = record {
  last = last;
  split = sym (take-append-drop n es) ∙ ap (λ xs. take n es ++ xs) is;
  one = is;
  long = length-take-le n es (omega (arith, long));
}
one_left es (last ∷ more ∷ rest) n long is count = absurd (omega (arith, count))

last_of : (es : List Entry) (n : ℕ) → length es ≡ n + 1 → Split es n
last_of es n long = one_left es (drop n es) n long refl (omega (arith, length-drop n es, long))

-- what is told is no fault of the disk, and right
abbrev pub Tells : HouseView → List ℕ → ℕ → Answer → Type 0
Tells house name position answer = (is_disk_fault answer ≡ false) × IsToldLast house name (last_in position answer)

or_true : (x y : Bool) → y ≡ true → (x || y) ≡ true
or_true true y is = refl
or_true false y is = is

pub no_entries : (es : List Entry) → length es ≡ 0 → es ≡ []
no_entries [] none = refl
no_entries (e ∷ es) none = absurd (omega (arith, none))

module _ (house : HouseView) (name : List ℕ) (position moment : ℕ) where
  abbrev pub own_ask : Ask
  own_ask = record { by = Some name; what = Next position; moment = moment }

  abbrev state : State
  state = replayed_from house.history.base.state house.history.entries

  same_roster : state.roster ≡ house.history.base.state.roster
  same_roster = roster_on house.history.base.state house.history.entries

  -- the machine's answer, by whether the party is one, and the operator
  abbrev by_rights : Bool → Bool → Answer
  by_rights party operator = refused_or NoNext (first_of ((not party, NotGreeted) ∷ (not operator, NotOperator) ∷ []))

  rights : (party operator : Bool) → is_party state.roster (Some name) ≡ party → is_operator state.roster name ≡ operator → answer_to state own_ask ≡ by_rights party operator
  rights party operator p o =
      ap (λ b. refused_or NoNext (first_of ((not b, NotGreeted) ∷ (not (is_operator state.roster name), NotOperator) ∷ []))) p
      ∙ ap (λ b. by_rights party b) o

  none_told : is_operator state.roster name ≡ false → HasNone house name
  none_told o = inr (sym (ap (λ (r : Rows). is_operator r name) same_roster) ∙ o)

  behind : Bool → Answer
  behind past = cond past (No (Ahead (end_of house.history))) (first_behind position (drop (position - house.history.base.position) house.history.entries))

  module _ (last : position + 1 ≡ end_of house.history) where
    entry_told : nat_lt position house.history.base.position ≡ false → nat_lt (end_of house.history) position ≡ false
        → Tells house name position (first_behind position (drop (position - house.history.base.position) house.history.entries))
    entry_told before past =
        let n : ℕ = position - house.history.base.position in
        let le : house.history.base.position ≤ position = grind (arith, nat_tests) in
        let s : Split house.history.entries n = last_of house.history.entries n (omega (arith, last, le)) in
        subst (λ es. Tells house name position (first_behind position es)) (sym s.one) (
          refl,
          record {
            front = take n house.history.entries;
            entry = s.last;
            split = s.split;
            place = omega (arith, s.long, le);
            spells = refl;
          },
        )

    by_past : (past : Bool) → nat_lt position house.history.base.position ≡ false → nat_lt (end_of house.history) position ≡ past
        → Tells house name position (cond past (No (Ahead (end_of house.history))) (first_behind position (drop (position - house.history.base.position) house.history.entries)))
    by_past true before is = absurd (grind (arith, nat_tests, last))
    by_past false before is = entry_told before is

    by_base : (before : Bool) → nat_lt position house.history.base.position ≡ before
        → Tells house name position (cond before (No (Gone house.history.base.position)) (cond (nat_lt (end_of house.history) position) (No (Ahead (end_of house.history)))
        (first_behind position (drop (position - house.history.base.position) house.history.entries))))
    by_base true is =
        let lt : position < house.history.base.position = grind (arith, nat_tests) in
        (refl, inl (no_entries house.history.entries (omega (arith, last, lt))))
    by_base false is = by_past (nat_lt (end_of house.history) position) is refl

    by_machine : (party operator : Bool) → is_party state.roster (Some name) ≡ party → is_operator state.roster name ≡ operator
        → Tells house name position (with_entries house.history.base house.history.entries (Next position) (by_rights party operator))
    by_machine true true p o = by_base (nat_lt position house.history.base.position) refl
    by_machine true false p o = (refl, none_told o)
    by_machine false true p o = absurd (false≢true (sym p ∙ or_true (is_some (member_place state.roster name)) (is_operator state.roster name) o))
    by_machine false false p o = (refl, none_told o)

    told_at : Tells house name position (answer_at house.history.base house.history.entries own_ask)
    told_at = subst (λ (a : Answer). Tells house name position (with_entries house.history.base house.history.entries (Next position) a))
        (sym (rights (is_party state.roster (Some name)) (is_operator state.roster name) refl refl)) (by_machine (is_party state.roster (Some name)) (is_operator state.roster name) refl refl)

    -- a house's own answer
    module _ (new : HouseView) (seat : ℕ) (reply : Reply) (calls : Calls house new seat own_ask reply) where
      unmoved : new.history ≡ house.history
      unmoved = calls.grows ∙ longer_nil house.history

      all_of : (h : History) (front back : List Entry) (at : ℕ) → at ≡ end_of h → h.entries ≡ front ++ back → at ≡ h.base.position + length front → front ≡ h.entries
      all_of h front back at place split here =
          let none : back ≡ [] = no_entries back (omega (arith, place, here, ap length split, length-append front back)) in
          sym (split ∙ ap (λ es. front ++ es) none ∙ append-nil front)

      front_is : calls.told.front ≡ new.history.entries
      front_is = all_of new.history calls.told.front calls.told.back reply.at calls.place calls.told.split calls.told.place

      by_case : IsRecorded new.history.base.state calls.told.front seat own_ask reply.answer
          ⊎ (IsNotRecorded new.history.base calls.told.front own_ask reply.answer
          ⊎ (IsHouse (figures_of house).journal (figures_of house) (is_stopped house) (is_stopped new) new.history.base.state calls.told.front reply.at own_ask reply.answer
          ⊎ IsMemory (figures_of house) own_ask.what reply.answer)) → Tells house name position reply.answer
      by_case (inl recorded) = absurd (false≢true recorded.change)
      by_case (inr (inl read)) =
          let same : reply.answer ≡ answer_at house.history.base house.history.entries own_ask =
          read.same ∙ ap (λ es. answer_at new.history.base es own_ask) front_is ∙ ap (λ (h : History). answer_at h.base h.entries own_ask) unmoved in
          subst (Tells house name position) (sym same) told_at
      by_case (inr (inr (inl full))) = absurd (false≢true full.change)
      by_case (inr (inr (inr memory))) = subst (Tells house name position) (sym memory.same) (refl, tt)

      told : Tells house name position reply.answer
      told = by_case calls.told.one

      pub told_last : IsToldLast house name (last_in position reply.answer)
      told_last = told.1

      pub told_same : new ≡ house
      told_same = calls.same (ap not told.0)
