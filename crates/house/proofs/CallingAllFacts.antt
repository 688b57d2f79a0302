-- A call of one command is a call of several.
use Rattle.std.proofs.Common.{◌≡◌, inl, ℕ, Bool, true, false, not, ◌||◌, if◌then◌else◌, List, [], ◌∷◌, ◌++◌, length, drop, IsTrue, refl, sym, ◌∙◌, subst, ap, arith}
use Rattle.std.proofs.lemmas.Bool.{false≢true}
use Rattle.std.proofs.lemmas.List.{drop-append-le, drop_all}
use Rattle.command_types.specs.declared.ask.Ask.{Ask}
use Rattle.command_types.specs.declared.ask.Entry.{Entry}
use Rattle.command_types.specs.declared.answer.Reply.{Reply}
use Rattle.command_types.specs.declared.figures.Figures.{Figures}
use Rattle.command_types.specs.History.{History, is_recorded, longer, recorded}
use Rattle.outside.specs.Faults.{Rose}
use Rattle.journal_core.specs.Moments.{LeavesOnly}
use Rattle.house.specs.Storing.{StandsForAllOrNone}
use Rattle.house.specs.House.{HouseView, bytes_of, figures_of, is_stopped, Keeps}
use Rattle.house.specs.Calling.{is_disk_fault, Calls}
use Rattle.command_types.specs.InTurn.{AreToldInTurn}
use Rattle.command_types.specs.Told.{IsTold}
use Rattle.house.specs.CallingAll.{TellsFault, CallsAll}
use Rattle.house.proofs.StoringFacts.{still}
use Rattle.house.proofs.CallingFacts.{grows_by_nothing, nothing_of, running_stored}

-- ---- what is told

pub told_one : (old new : HouseView) (seat : ℕ) (ask : Ask) (reply : Reply) → Calls old new seat ask reply
    → AreToldInTurn (figures_of old) (is_stopped old) (is_stopped new) old.history (record { seat = seat; ask = ask } ∷ []) (reply ∷ []) new.history
told_one old new seat ask reply c = (
  new.history,
  is_stopped new,
  record { grows = c.grows; place = c.place; told = c.told; runs = c.runs; stays = λ stopped. ap is_stopped (c.rests stopped) ∙ stopped },
  (refl, refl),
)

-- and so is the first, where a call of several answered none
pub told_first : (old mid new : HouseView) (front : List Entry) (said : List Reply) (seat : ℕ) (ask : Ask) (reply : Reply) → length said ≡ 0 → CallsAll old mid front said → Calls mid new seat ask reply
    → AreToldInTurn (figures_of old) (is_stopped old) (is_stopped new) old.history (record { seat = seat; ask = ask } ∷ []) (reply ∷ []) new.history
told_first old mid new [] [] seat ask reply none all c =
    let told : IsTold (figures_of old) (is_stopped old) (is_stopped new) new.history seat ask reply =
    subst (λ (f : Figures). IsTold f (is_stopped old) (is_stopped new) new.history seat ask reply) all.figures
    (subst (λ (t : Bool). IsTold (figures_of mid) t (is_stopped new) new.history seat ask reply) all.told.1 c.told) in (
      new.history,
      is_stopped new,
      record {
        grows = c.grows ∙ ap (λ (h : History). longer h (recorded seat ask reply.answer)) all.told.0;
        place = c.place;
        told = told;
        runs = c.runs;
        stays = λ stopped. (let there : is_stopped mid ≡ true = all.told.1 ∙ stopped in ap is_stopped (c.rests there) ∙ there);
      },
      (refl, refl),
    )
told_first old mid new [] (r ∷ said) seat ask reply none all c = absurd all.told
told_first old mid new (e ∷ front) [] seat ask reply none all c = absurd all.told
told_first old mid new (e ∷ front) (r ∷ said) seat ask reply none all c = absurd (omega (arith, none))

-- a house that is stopped answers none
pub calls_nothing : (v : HouseView) → Keeps v → is_stopped v ≡ true → CallsAll v v [] []
calls_nothing v keeps stopped = record {
  told = (refl, refl);
  rests = λ _. refl;
  none = λ _. refl;
  any_moment = λ runs. absurd (false≢true (sym runs ∙ stopped));
  counted = omega arith;
  failed = λ runs _. absurd (false≢true (sym runs ∙ stopped));
  figures = refl;
  keeps = keeps;
}

-- what is told in turn may be put together
pub told_all : (figures : Figures) (a b c : Bool) (x y z : History) (first second : List Entry) (said then_said : List Reply) → AreToldInTurn figures a b x first said y
    → AreToldInTurn figures b c y second then_said z → AreToldInTurn figures a c x (first ++ second) (said ++ then_said) z
told_all figures a b c x y z [] second [] then_said one two =
    subst (λ (h : History). AreToldInTurn figures a c h second then_said z) one.0 (subst (λ (t : Bool). AreToldInTurn figures t c y second then_said z) one.1 two)
told_all figures a b c x y z [] second (r ∷ said) then_said one two = absurd one
told_all figures a b c x y z (e ∷ first) second [] then_said one two = absurd one
told_all figures a b c x y z (e ∷ first) second (r ∷ said) then_said one two =
    (one.0, one.1, one.2, told_all figures one.1 b c one.0 y z first second said then_said one.3 two)

-- there are as many replies
pub as_many : (figures : Figures) (a b : Bool) (x y : History) (commands : List Entry) (replies : List Reply) → AreToldInTurn figures a b x commands replies y → length replies ≡ length commands
as_many figures a b x y [] [] told = refl
as_many figures a b x y [] (r ∷ replies) told = absurd told
as_many figures a b x y (e ∷ commands) [] told = absurd told
as_many figures a b x y (e ∷ commands) (r ∷ replies) told = let n = as_many figures told.1 b told.0 y commands replies told.3 in omega (arith, n)

-- ---- what was tried

-- the changes behind those from before, and those that were kept
pub are_tried : (entries more kept after after_kept : List Entry) → after ≡ entries ++ more → after_kept ≡ kept → drop (length entries) after ++ after_kept ≡ more ++ kept
are_tried entries more kept after after_kept grows keeps =
    let new : drop (length entries) (entries ++ more) ≡ more =
    drop-append-le (length entries) entries more (omega arith) ∙ ap (λ (es : List Entry). es ++ more) (drop_all (length entries) entries (omega arith)) in
    ap (λ (es : List Entry). drop (length entries) es ++ after_kept) grows ∙ ap (λ (es : List Entry). es ++ after_kept) new ∙ ap (λ (es : List Entry). more ++ es) keeps

module _ (old new : HouseView) (seat : ℕ) (ask : Ask) (reply : Reply) (keeps : Keeps old) (c : Calls old new seat ask reply) where
  abbrev entry : Entry
  entry = record { seat = seat; ask = ask }

  abbrev made : Bool
  made = is_recorded ask.what reply.answer

  abbrev fault : Bool
  fault = is_disk_fault reply.answer

  abbrev all : List Entry
  all = drop (length old.history.entries) new.history.entries ++ new.kept

  grows_one : made ≡ true → new.history ≡ longer old.history (entry ∷ [])
  grows_one is = c.grows ∙ ap (λ (t : Bool). longer old.history (if t then entry ∷ [] else [])) is

  grows_not : made ≡ false → new.history ≡ old.history
  grows_not is = c.grows ∙ sym (grows_by_nothing old seat ask reply.answer is)

  same : made ≡ false → fault ≡ false → new ≡ old
  same unmade plain =
      let neither : IsTrue (not (made || fault)) = ap not (ap (λ (t : Bool). t || fault) unmade ∙ plain) in
      c.same neither

  leaves : (t f : Bool) → made ≡ t → fault ≡ f → is_stopped old ≡ false → LeavesOnly old.disk new.disk (StandsForAllOrNone old.history all)
  leaves true f is fails runs =
      let one : all ≡ entry ∷ [] = are_tried old.history.entries (entry ∷ []) [] new.history.entries new.kept (ap (λ (h : History). h.entries) (grows_one is)) (nothing_of new.kept (c.runs is)) in
      subst (λ (es : List Entry). LeavesOnly old.disk new.disk (StandsForAllOrNone old.history es)) (sym one) (c.any_moment runs)
  leaves false true is fails runs =
      let unmoved : new.history.entries ≡ old.history.entries ++ [] = ap (λ (h : History). h.entries) (c.grows ∙ ap (λ (t : Bool). longer old.history (if t then entry ∷ [] else [])) is) in
      let one : all ≡ entry ∷ [] = are_tried old.history.entries [] (entry ∷ []) new.history.entries new.kept unmoved (c.failed fails).1 in
      subst (λ (es : List Entry). LeavesOnly old.disk new.disk (StandsForAllOrNone old.history es)) (sym one) (c.any_moment runs)
  leaves false false is plain runs =
      subst (λ (v : HouseView). LeavesOnly old.disk v.disk (StandsForAllOrNone old.history all)) (sym (same is plain)) (still old.disk (bytes_of old) old.history all (running_stored old keeps runs))

  none_made : (t : Bool) → made ≡ t → is_stopped new ≡ true → new.history ≡ old.history
  none_made true is stopped = absurd (false≢true (sym (c.runs is) ∙ stopped))
  none_made false is stopped = grows_not is

  told_fault : (t f : Bool) → made ≡ t → fault ≡ f → is_stopped old ≡ false → is_stopped new ≡ true → Rose old.faults new.faults × TellsFault new.kept (entry ∷ []) (reply ∷ [])
  told_fault true f is fails runs stopped = absurd (false≢true (sym (c.runs is) ∙ stopped))
  told_fault false true is fails runs stopped =
      let failed = c.failed fails in
      (failed.0, subst (λ (es : List Entry). TellsFault es (entry ∷ []) (reply ∷ [])) (sym failed.1) (inl (refl, fails, tt)))
  told_fault false false is plain runs stopped = absurd (false≢true (sym runs ∙ ap is_stopped (sym (same is plain)) ∙ stopped))

  pub calls_one : CallsAll old new (entry ∷ []) (reply ∷ [])
  calls_one = record {
    told = told_one old new seat ask reply c;
    rests = c.rests;
    none = none_made made refl;
    any_moment = leaves made fault refl refl;
    counted = c.counted;
    failed = told_fault made fault refl refl;
    figures = c.figures;
    keeps = c.keeps;
  }
