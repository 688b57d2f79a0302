-- How the history of a desk goes on, and what its replies tell.
use Rattle.std.proofs.Common.{◌≡◌, ℕ, ◌+◌, not, Bool, true, false, List, [], ◌∷◌, ◌++◌, Option, Some, None, length, length-append, All, IsTrue, if◌then◌else◌, arith, refl, sym, subst, ap, inl, ◌∙◌}
use Rattle.std.proofs.lemmas.List.{append-nil}
use Rattle.network_laws.specs.Solutions.{IsSolution}
use Rattle.command_types.specs.declared.ask.Ask.{Ask}
use Rattle.command_types.specs.declared.ask.Entry.{Entry}
use Rattle.command_types.specs.declared.answer.Answer.{Answer}
use Rattle.command_types.specs.declared.answer.Answer.TheVariants.{No}
use Rattle.command_types.specs.declared.refusal.Refusal.TheVariants.{Memory}
use Rattle.command_types.specs.declared.figures.State.{State}
use Rattle.command_types.specs.declared.figures.Figures.{Figures}
use Rattle.command_types.specs.Cycles.{closed}
use Rattle.command_types.specs.Machine.{answer_to, state_after}
use Rattle.command_types.specs.History.{History, IsLegalFrom, end_of, longer, recorded, is_recorded, replayed_from, solutions_posted}
use Rattle.command_types.specs.Roster.{IsRoster}
use Rattle.command_types.specs.Told.{IsTold}
use Rattle.command_types.specs.Offers.{answer_at, is_begin, with_entries}
use Rattle.std.specs.Prelude.{unwrap_or}
use Rattle.command_types.proofs.HistoryFacts.{legal_on, replayed_on, told_memory, told_read}
use Rattle.trade_history.proofs.Rosters.{roster_on}
use Rattle.cycle_states.specs.Offers.{open_ask, filled_at, ArePlaces}
use Rattle.cycle_states.specs.PlainDesk.{IsPlain}
use Rattle.cycle_states.specs.Replayed.{history_from, IsReplayed}
use Rattle.cycle_states.specs.declared.offers.Places.{Places}
use Rattle.cycle_states.proofs.DecisionFacts.{refusal_unkept}
use Rattle.cycle_states.proofs.OfferFacts.{begun_next, filled_is, filled_unkept}

-- the machine after a change is where the longer history leads
pub replayed_more : (m n : State) (h : History) (more : List Entry) (entry : Entry) → IsReplayed m h → n ≡ state_after m entry.ask → more ≡ h.entries ++ entry ∷ [] → IsTrue (is_recorded entry.ask.what (answer_to m entry.ask)) →
    All IsSolution (solutions_posted entry.ask.what) → IsReplayed n (record h { entries = more })
replayed_more m n h more entry before on is change sound =
    let accepts : State → Type 0 = λ s. IsTrue (is_recorded entry.ask.what (answer_to s entry.ask)) in
    record {
      same = on ∙ ap (λ s. state_after s entry.ask) before.same ∙ sym (replayed_on h.base.state h.entries entry) ∙ ap (replayed_from h.base.state) (sym is);
      legal = subst (IsLegalFrom h.base.state) (sym is) (legal_on h.base.state h.entries entry before.legal (subst accepts before.same change, sound));
    }

-- a desk without a change yet
pub plain_new : (m s : State) (entries : List Entry) → s ≡ m → entries ≡ [] → m.cycle ≡ closed 0 0 → IsPlain m 0 (history_from 0 s entries)
plain_new m s entries same none first =
    subst (λ (es : List Entry). IsPlain m 0 (history_from 0 s es)) (sym none)
    (subst (λ (t : State). IsPlain m 0 (history_from 0 t [])) (sym same) (record { replayed = record { same = refl; legal = tt }; first = first; begun_at = refl }))

-- and behind one more change, whether it begins a version or not
pub plain_more : (m n s : State) (begun next at : ℕ) (begins : Bool) (entries more : List Entry) (entry : Entry) → IsPlain m begun (history_from 0 s entries) → n ≡ state_after m entry.ask → more ≡ entries ++ entry ∷ [] →
    IsTrue (is_recorded entry.ask.what (answer_to m entry.ask)) → All IsSolution (solutions_posted entry.ask.what) → next ≡ (if begins then at + 1 else begun) → begins ≡ is_begin entry.ask.what → at ≡ length entries →
    IsPlain n next (history_from 0 s more)
plain_more m n s begun next at begins entries more entry before on is change sound goes by place =
    record {
      replayed = replayed_more m n (history_from 0 s entries) more entry before.replayed on is change sound;
      first = before.first;
      begun_at = goes ∙ begun_next begins begun at entries more entry is by place before.begun_at;
    }

pub roster_replayed : (m : State) (h : History) → IsReplayed m h → m.roster ≡ h.base.state.roster
roster_replayed m h is = ap (λ s. s.roster) is.same ∙ roster_on h.base.state h.entries

-- so the base's roster keeps its limits where the machine's does
pub base_roster : (m : State) (h : History) → IsReplayed m h → IsRoster m.roster → IsRoster h.base.state.roster
base_roster m h is roster = subst IsRoster (roster_replayed m h is) roster

-- the history grows by a recorded change
pub grown : (h : History) (more : List Entry) (seat : ℕ) (ask : Ask) (answer : Answer) → more ≡ h.entries ++ record { seat = seat; ask = ask } ∷ [] → IsTrue (is_recorded ask.what answer) →
    record h { entries = more } ≡ longer h (recorded seat ask answer)
grown h more seat ask answer is change =
    let one : recorded seat ask answer ≡ record { seat = seat; ask = ask } ∷ [] = ap (λ (t : Bool). if t then record { seat = seat; ask = ask } ∷ [] else []) change in
    ap (λ (es : List Entry). record h { entries = es }) (is ∙ ap (λ es. h.entries ++ es) (sym one))

-- and stays with any other command
pub not_grown : (h : History) (more : List Entry) (seat : ℕ) (ask : Ask) (answer : Answer) → more ≡ h.entries → is_recorded ask.what answer ≡ false → record h { entries = more } ≡ longer h (recorded seat ask answer)
not_grown h more seat ask answer same off =
    let none : recorded seat ask answer ≡ [] = ap (λ (t : Bool). if t then record { seat = seat; ask = ask } ∷ [] else []) off in
    ap (λ (es : List Entry). record h { entries = es }) (same ∙ sym (append-nil h.entries)) ∙ ap (longer h) (sym none)

-- a command that is recorded
pub told_recorded : (m : State) (h : History) (more : List Entry) (seat at : ℕ) (ask : Ask) (answer : Answer) (figures : Figures) → IsReplayed m h → more ≡ h.entries ++ record { seat = seat; ask = ask } ∷ [] →
    IsTrue (is_recorded ask.what answer) → answer ≡ answer_to m ask → at ≡ end_of h + 1 → IsTold figures false false (record h { entries = more }) seat ask (record { at = at; answer = answer })
told_recorded m h more seat at ask answer figures before is change answers place =
    record {
      front = more;
      back = [];
      split = sym (append-nil more);
      place = let size : length more ≡ length (h.entries ++ record { seat = seat; ask = ask } ∷ []) = ap length is in omega (arith, place, size, length-append h.entries (record { seat = seat; ask = ask } ∷ []));
      one = inl (record {
        before = h.entries;
        last = is;
        change = change;
        same = answers ∙ ap (λ s. answer_to s ask) before.same;
      });
    }

-- what the history's places tell of a machine's answer that is not recorded
module _ (m : State) (h : History) (ask : Ask) (machine : Answer) (places : Places) (before : IsReplayed m h) (unkept : is_recorded ask.what machine ≡ false) (answers : machine ≡ answer_to m ask) (are : ArePlaces h.base h.entries places) where
  abbrev filled : Option Answer
  filled = filled_at places (open_ask ask.what) machine

  filled_same : (answer : Answer) → filled ≡ Some answer → answer ≡ answer_at h.base h.entries ask
  filled_same answer is = filled_is h.base h.entries places ask.what machine answer are is ∙ ap (with_entries h.base h.entries ask.what) (answers ∙ ap (λ s. answer_to s ask) before.same)

  some_unkept : (answer : Answer) → filled ≡ Some answer → is_recorded ask.what answer ≡ false
  some_unkept answer is = ap (is_recorded ask.what) (filled_is h.base h.entries places ask.what machine answer are is) ∙ filled_unkept h.base h.entries ask.what machine unkept

  unkept_by : (o : Option Answer) → filled ≡ o → is_recorded ask.what (unwrap_or o (No Memory)) ≡ false
  unkept_by None is = refusal_unkept ask.what Memory
  unkept_by (Some answer) is = some_unkept answer is

  -- it is not recorded either, nor is want of memory in its place
  pub filled_unrecorded : is_recorded ask.what (unwrap_or filled (No Memory)) ≡ false
  filled_unrecorded = unkept_by filled refl

  told_by : (figures : Figures) (stopped : Bool) (seat at : ℕ) → figures.votes_take_memory ≡ true → at ≡ end_of h → (o : Option Answer) → filled ≡ o → IsTold figures stopped stopped h seat ask (record { at = at; answer = unwrap_or o (No Memory) })
  told_by figures stopped seat at takes place None is =
      told_memory figures stopped stopped h seat ask (record { at = at; answer = No Memory }) place (record { same = refl; takes = λ vote. takes })
  told_by figures stopped seat at takes place (Some answer) is =
      told_read figures stopped stopped h seat ask (record { at = at; answer = answer }) place (record { no_change = ap not (some_unkept answer is); same = filled_same answer is })

  -- and either is told at the history's end
  pub told_filled : (figures : Figures) (stopped : Bool) (seat at : ℕ) → figures.votes_take_memory ≡ true → at ≡ end_of h → IsTold figures stopped stopped h seat ask (record { at = at; answer = unwrap_or filled (No Memory) })
  told_filled figures stopped seat at takes place = told_by figures stopped seat at takes place filled refl
