-- A turn in which several passes are called, step by step.
use Rattle.std.proofs.Common.{◌≡◌, ℕ, ◌+◌, ◌-◌, ◌≤◌, All, length, length-append, suc, Bool, List, [], ◌∷◌, ◌++◌, drop, take, map, reverse, sym, refl, ap, ◌∙◌, subst, arith, append_assoc}
use Rattle.std.proofs.lemmas.List.{append-nil, reverse-append, length-reverse, drop_at, drop-drop, take-append-drop, length-map, map-append, length-drop}
use Rattle.std.proofs.lemmas.List.Elements.{All-nil, All-tail, All-append}
use Rattle.command_types.specs.declared.ask.Entry.{Entry}
use Rattle.command_types.specs.declared.answer.Reply.{Reply}
use Rattle.command_types.specs.declared.figures.Figures.{Figures}
use Rattle.command_types.specs.History.{History}
use Rattle.command_types.specs.InTurn.{AreToldInTurn}
use Rattle.cycle_lock.specs.declared.errands.Errand.{Errand}
use Rattle.cycle_lock.specs.declared.home.Home.{Home}
use Rattle.cycle_lock.specs.declared.home.Batch.{Batch}
use Rattle.cycle_lock.specs.declared.pass.Pass.{Pass}
use Rattle.cycle_lock.specs.Accounts.{whole}
use Rattle.cycle_lock.specs.Errands.{command_of, pass_of}
use Rattle.cycle_lock.specs.Passes.{LockId, lock_of}
use Rattle.cycle_lock.specs.Plays.{Sat}
use Rattle.cycle_lock.specs.Turn.{IsSound, IsAhead, Gathers}

none_of : {A : Type 0} (xs : List A) → length xs ≡ 0 → xs ≡ []
none_of [] e = refl
none_of (x ∷ xs) e = absurd (omega arith)

none_told : (f : Figures) (before after : Bool) (h next : History) (replies : List Reply) → AreToldInTurn f before after h (take (length replies) []) replies next → (next ≡ h) × (after ≡ before)
none_told f before after h next [] told = told
none_told f before after h next (reply ∷ replies) told = absurd told

-- what is said of all is said of the others
pub guests_on : (P : Errand → Type 0) (errands others : List Errand) → others ≡ drop 1 errands → All P errands → All P others
guests_on P [] others is all = subst (All P) (sym is) all
guests_on P (errand ∷ errands) others is all = subst (All P) (sym is) (All-tail P errand errands all)

module _ {T : Type 0} (history : T → History) (figures_of : T → Figures) (stopped : T → Bool) where
  -- where no reply is left, the desk is where the seat knows it
  pub level : (m : Sat (Home T)) (home : Home T) (commands : List Entry) (passes : List Pass) → IsAhead history figures_of stopped m home commands passes → length home.batch.replies.items ≡ 0
      → (history home.desk ≡ whole m.0.account.figures m.0.known) × (stopped home.desk ≡ m.0.halted)
  level m home commands passes a none = let empty : reverse home.batch.replies.items ≡ [] = ap reverse (none_of home.batch.replies.items none) in
      subst (λ (rs : List Reply). AreToldInTurn m.0.account.figures m.0.halted (stopped home.desk) (whole m.0.account.figures m.0.known) (take (length rs) commands) rs (history home.desk)) empty a.told

  -- of a batch only what stands in it counts
  pub same_ahead : (m : Sat (Home T)) (home home' : Home T) (commands : List Entry) (passes : List Pass) → home'.desk ≡ home.desk → home'.batch.passes.items ≡ home.batch.passes.items → home'.batch.commands.items ≡ home.batch.commands.items
      → home'.batch.replies.items ≡ home.batch.replies.items → home'.batch.at ≡ home.batch.at → IsAhead history figures_of stopped m home commands passes → IsAhead history figures_of stopped m home' commands passes
  same_ahead m home home' commands passes desk ps cs rs at a = record {
    turn = a.turn;
    live = a.live;
    slot = a.slot;
    sound = subst (IsSound history figures_of stopped m.0.account.figures) (sym desk) a.sound;
    at = at ∙ a.at;
    waiting = ap reverse ps ∙ a.waiting;
    told = subst (λ (y : T × List Reply). AreToldInTurn m.0.account.figures m.0.halted (stopped y.0) (whole m.0.account.figures m.0.known) (take (length y.1) commands) y.1 (history y.0)) (λ i. (sym desk i, ap reverse (sym rs) i)) a.told;
    rest = (a.rest.0, cs ∙ (a.rest.1 ∙ ap (λ (xs : List Reply). a.rest.0 ++ drop (length xs) commands) (sym rs)));
  }

  -- the commands that are still to be asked are asked
  pub refilled : (m : Sat (Home T)) (home home' : Home T) (front commands : List Entry) (passes : List Pass) (from n : ℕ) → length front ≡ from → home.batch.commands.items ≡ front ++ commands → length home.batch.replies.items ≡ 0 → n ≡ length home'.batch.replies.items
      → home'.batch.passes.items ≡ home.batch.passes.items → home'.batch.at ≡ home.batch.at → drop (from + n) home'.batch.commands.items ≡ drop (from + n) home.batch.commands.items
      → AreToldInTurn (figures_of home.desk) (stopped home.desk) (stopped home'.desk) (history home.desk) (take n (drop from home.batch.commands.items)) (reverse home'.batch.replies.items) (history home'.desk)
      → IsSound history figures_of stopped (figures_of home.desk) home'.desk → IsAhead history figures_of stopped m home commands passes → IsAhead history figures_of stopped m home' commands passes
  refilled m home home' front commands passes from n len is none count same at rest told sound a =
      let l = level m home commands passes a none in let f : Figures = m.0.account.figures in
      let behind : drop from home.batch.commands.items ≡ commands = ap (drop from) is ∙ drop_at front commands from len in
      let many : n ≡ length (reverse home'.batch.replies.items) = count ∙ sym (length-reverse home'.batch.replies.items) in
      record {
        turn = a.turn;
        live = a.live;
        slot = a.slot;
        sound = record { same = sound.same ∙ a.sound.same; base = sound.base; legal = sound.legal; short = sound.short };
        at = at ∙ a.at;
        waiting = ap reverse same ∙ a.waiting;
        told = subst (λ (x : Figures × Bool × History × ℕ × List Entry). AreToldInTurn x.0 x.1 (stopped home'.desk) x.2 (take x.3 x.4) (reverse home'.batch.replies.items) (history home'.desk)) (λ i. (a.sound.same i, l.1 i, l.0 i, many i, behind i)) told;
        rest = (
          take (from + n) home'.batch.commands.items,
          sym (take-append-drop (from + n) home'.batch.commands.items) ∙ ap (λ (xs : List Entry). take (from + n) home'.batch.commands.items ++ xs)
              (rest ∙ (sym (drop-drop n from home.batch.commands.items) ∙ (ap (drop n) behind ∙ ap (λ (k : ℕ). drop k commands) count))),
        );
      }

  -- where no reply is left, all commands that are still to be asked stand behind those that were asked
  pub ready_front : (m : Sat (Home T)) (home : Home T) (commands : List Entry) (passes : List Pass) (a : IsAhead history figures_of stopped m home commands passes) → length home.batch.replies.items ≡ 0 → length commands ≡ length passes
      → (home.batch.commands.items ≡ a.rest.0 ++ commands) × (length a.rest.0 ≡ length home.batch.commands.items - length home.batch.passes.items)
  ready_front m home commands passes a none alike =
      let is : home.batch.commands.items ≡ a.rest.0 ++ commands = a.rest.1 ∙ ap (λ (k : ℕ). a.rest.0 ++ drop k commands) none in
      let waits : length home.batch.passes.items ≡ length passes = sym (length-reverse home.batch.passes.items) ∙ ap length a.waiting in
      (is, let e = ap length is in omega (arith, e, length-append a.rest.0 commands, waits, alike))

  -- the first reply and the first pass that waits, with what is behind them
  pub record Opened (m : Sat (Home T)) (home home' : Home T) (pass : Pass) (reply : Reply) (errands : List Errand) : Type 0 where
    pub first : Errand
    pub others : List Errand
    pub split : errands ≡ first ∷ others
    pub is_pass : first.pass ≡ pass
    pub told : AreToldInTurn m.0.account.figures m.0.halted (stopped home.desk) (whole m.0.account.figures m.0.known) (command_of first ∷ take (length (reverse home'.batch.replies.items)) (map command_of others))
        (reply ∷ reverse home'.batch.replies.items) (history home.desk)
    pub waiting : reverse home'.batch.passes.items ≡ map pass_of others
    pub rest : (front : List Entry) × (home'.batch.commands.items ≡ front ++ drop (length home'.batch.replies.items) (map command_of others))

  pub taken_last : {A : Type 0} (xs ys : List A) (x : A) → xs ≡ ys ++ x ∷ [] → reverse xs ≡ x ∷ reverse ys
  taken_last {A} xs ys x is = ap reverse is ∙ reverse-append ys (x ∷ [])

  pub opened : (m : Sat (Home T)) (home home' : Home T) (pass : Pass) (reply : Reply) (errands : List Errand) → IsAhead history figures_of stopped m home (map command_of errands) (map pass_of errands)
      → home.batch.passes.items ≡ home'.batch.passes.items ++ pass ∷ [] → home.batch.replies.items ≡ home'.batch.replies.items ++ reply ∷ [] → home'.batch.commands.items ≡ home.batch.commands.items → Opened m home home' pass reply errands
  opened m home home' pass reply [] a ps rs same = let e : pass ∷ reverse home'.batch.passes.items ≡ [] = sym (taken_last home.batch.passes.items home'.batch.passes.items pass ps) ∙ a.waiting in absurd (cc)
  opened m home home' pass reply (errand ∷ errands) a ps rs same =
      let e : pass ∷ reverse home'.batch.passes.items ≡ errand.pass ∷ map pass_of errands = sym (taken_last home.batch.passes.items home'.batch.passes.items pass ps) ∙ a.waiting in
      let r : reverse home.batch.replies.items ≡ reply ∷ reverse home'.batch.replies.items = taken_last home.batch.replies.items home'.batch.replies.items reply rs in
      let many : length home.batch.replies.items ≡ suc (length home'.batch.replies.items) = let e = ap length rs in omega (arith, e, length-append home'.batch.replies.items (reply ∷ [])) in
      record {
        first = errand;
        others = errands;
        split = refl;
        is_pass = (cc);
        told = subst (λ (xs : List Reply). AreToldInTurn m.0.account.figures m.0.halted (stopped home.desk) (whole m.0.account.figures m.0.known) (take (length xs) (map command_of (errand ∷ errands))) xs (history home.desk)) r a.told;
        waiting = (cc);
        rest = (a.rest.0, same ∙ (a.rest.1 ∙ ap (λ (k : ℕ). a.rest.0 ++ drop k (map command_of (errand ∷ errands))) many));
      }

  -- commands and passes are one each of the errands
  pub alike : (errands : List Errand) → length (map command_of errands) ≡ length (map pass_of errands)
  alike errands = length-map errands command_of ∙ sym (length-map errands pass_of)

  -- as many commands are still to be asked as passes wait for them
  pub enough : (m : Sat (Home T)) (home : Home T) (errands : List Errand) → IsAhead history figures_of stopped m home (map command_of errands) (map pass_of errands)
      → length home.batch.passes.items ≤ length home.batch.commands.items + length home.batch.replies.items
  enough m home errands a =
      let n : ℕ = length home.batch.replies.items in
      let waits : length home.batch.passes.items ≡ length errands = sym (length-reverse home.batch.passes.items) ∙ (ap length a.waiting ∙ length-map errands pass_of) in
      let e = ap length a.rest.1 in
      omega (arith, waits, e, length-append a.rest.0 (drop n (map command_of errands)), length-drop n (map command_of errands), length-map errands command_of)

  -- once no pass waits, all errands are done, and the desk is where the seat knows it
  pub all_served : (m : Sat (Home T)) (home : Home T) (errands : List Errand) → IsAhead history figures_of stopped m home (map command_of errands) (map pass_of errands) → length home.batch.passes.items ≡ 0
      → (errands ≡ []) × (history home.desk ≡ whole m.0.account.figures m.0.known) × (stopped home.desk ≡ m.0.halted)
  all_served m home errands a none =
      let waits : length errands ≡ 0 = sym (length-map errands pass_of) ∙ (ap length (sym a.waiting) ∙ (length-reverse home.batch.passes.items ∙ none)) in
      let empty : errands ≡ [] = none_of errands waits in
      let told : AreToldInTurn m.0.account.figures m.0.halted (stopped home.desk) (whole m.0.account.figures m.0.known) (take (length (reverse home.batch.replies.items)) []) (reverse home.batch.replies.items) (history home.desk) =
      subst (λ (es : List Errand). AreToldInTurn m.0.account.figures m.0.halted (stopped home.desk) (whole m.0.account.figures m.0.known) (take (length (reverse home.batch.replies.items)) (map command_of es)) (reverse home.batch.replies.items) (history home.desk)) empty a.told in
      let t = none_told m.0.account.figures m.0.halted (stopped home.desk) (whole m.0.account.figures m.0.known) (history home.desk) (reverse home.batch.replies.items) told in
      (empty, t.0, t.1)

-- claims, one behind the other
pub gathers_none : (lock : LockId) (b : Batch) (xs : List Errand) → Gathers lock b b xs xs
gathers_none lock b xs = ([], sym (append-nil xs), All-nil (λ (e : Errand). lock_of e.pass ≡ lock), sym (append-nil b.commands.items), sym (append-nil b.passes.items), refl, refl)

pub gathers_on : (lock : LockId) (b c d : Batch) (xs ys zs : List Errand) → Gathers lock b c xs ys → Gathers lock c d ys zs → Gathers lock b d xs zs
gathers_on lock b c d xs ys zs p q = (
  p.0 ++ q.0,
  q.1 ∙ (ap (λ (l : List Errand). l ++ q.0) p.1 ∙ append_assoc xs p.0 q.0),
  All-append (λ (e : Errand). lock_of e.pass ≡ lock) p.0 q.0 p.2 q.2,
  q.3 ∙ (ap (λ (l : List Entry). l ++ map command_of q.0) p.3 ∙ (append_assoc b.commands.items (map command_of p.0) (map command_of q.0) ∙ ap (λ (l : List Entry). b.commands.items ++ l) (sym (map-append command_of p.0 q.0)))),
  q.4 ∙ (ap (λ (l : List Pass). l ++ map pass_of q.0) p.4 ∙ (append_assoc b.passes.items (map pass_of p.0) (map pass_of q.0) ∙ ap (λ (l : List Pass). b.passes.items ++ l) (sym (map-append pass_of p.0 q.0)))),
  q.5 ∙ p.5,
  q.6 ∙ p.6,
)
