-- The pass of the seat that has the turn notes its own reply.
use Rattle.std.proofs.Common.{◌≡◌, ℕ, ◌+◌, ◌-◌, ◌≤◌, All, length, length-append, Bool, false, List, [], ◌∷◌, ◌++◌, drop, take, map, reverse, sym, refl, ap, ◌∙◌, subst, suc, None, arith}
use Rattle.command_types.specs.declared.ask.Ask.{Ask}
use Rattle.command_types.specs.declared.ask.Entry.{Entry}
use Rattle.command_types.specs.declared.answer.Reply.{Reply}
use Rattle.command_types.specs.declared.figures.Figures.{Figures}
use Rattle.command_types.specs.History.{History, IsLegal, end_of, recorded}
use Rattle.command_types.specs.InTurn.{AreToldInTurn, IsToldNext}
use Rattle.cycle_lock.specs.declared.errands.Errand.{Errand}
use Rattle.cycle_lock.specs.declared.home.Batch.{Batch}
use Rattle.cycle_lock.specs.declared.home.Home.{Home}
use Rattle.cycle_lock.specs.declared.pass.Pass.{Pass}
use Rattle.cycle_lock.specs.declared.rule.Account.{Account}
use Rattle.cycle_lock.specs.declared.rule.View.{View}
use Rattle.cycle_lock.specs.declared.rule.Stage.TheVariants.{HasTurn}
use Rattle.cycle_lock.specs.Accounts.{whole, times}
use Rattle.cycle_lock.specs.Errands.{IsCalled, command_of, pass_of}
use Rattle.cycle_lock.specs.Passes.{LockId, lock_of}
use Rattle.cycle_lock.specs.Plays.{Sat, Adds, Newer, Follows, kept}
use Rattle.cycle_lock.specs.Turn.{IsNext, IsSound, IsAhead, IsNoted, Gathers}
use Rattle.cycle_lock.specs.Views.{account_of}
use Rattle.cycle_lock.proofs.Ahead.{taken_last}
use Rattle.cycle_lock.proofs.Links.{called_by, comes, follows_of}
use Rattle.cycle_lock.proofs.Owners.{recorded_of}
use Rattle.cycle_lock.proofs.Served.{grows_by, legal_of}

module _ {T : Type 0} (history : T → History) (figures_of : T → Figures) (stopped : T → Bool) where
  module _ (m : Sat (Home T)) (home home' : Home T) (own : Entry) (commands : List Entry) (passes : List Pass) (reply : Reply) (a : IsAhead history figures_of stopped m home (own ∷ commands) passes)
      (last : home.batch.replies.items ≡ home'.batch.replies.items ++ reply ∷ []) where
    abbrev f : Figures
    f = m.0.account.figures

    abbrev behind : List Reply
    behind = reverse home'.batch.replies.items

    first_reply : reverse home.batch.replies.items ≡ reply ∷ behind
    first_reply = taken_last history figures_of stopped home.batch.replies.items home'.batch.replies.items reply last

    own_told : AreToldInTurn f m.0.halted (stopped home.desk) (whole f m.0.known) (own ∷ take (length behind) commands) (reply ∷ behind) (history home.desk)
    own_told = subst (λ (rs : List Reply). AreToldInTurn f m.0.halted (stopped home.desk) (whole f m.0.known) (take (length rs) (own ∷ commands)) rs (history home.desk)) first_reply a.told

    -- what the own link leaves
    abbrev Leaves : List Entry → Bool → Type 0
    Leaves log stop = IsToldNext f m.0.halted stop (whole f m.0.known) own reply (whole f log) × AreToldInTurn f stop (stopped home.desk) (whole f log) (take (length behind) commands) behind (history home.desk)

    abbrev IsOwn : List Entry → Bool → Type 0
    IsOwn log stop = IsNext f m.0.known m.0.halted (history home.desk) (stopped home.desk) own commands (reverse home.batch.replies.items) log stop

    own_leaves : (log : List Entry) (stop : Bool) → IsOwn log stop → Leaves log stop
    own_leaves log stop x = subst (λ (rs : List Reply). IsNext f m.0.known m.0.halted (history home.desk) (stopped home.desk) own commands rs log stop) first_reply x

    pub own_grows : home.batch.at ≤ reply.at
    own_grows = let k = comes f m.0.known m.0.halted (history home.desk) (stopped home.desk) own _ reply _ own_told a.sound.legal a.sound.short in
        (grows_by f m.0.known (recorded own.seat own.ask reply.answer) home.batch.at reply.at a.at k.link.0.place).0

    pub own_next : (next : List Entry → Bool → Type 0) (more : ℕ) → more ≡ reply.at - home.batch.at → own.seat ≡ m.0.account.number → 1 ≤ times m.0.account.number m.0.account.stands → ((log : List Entry) (stop : Bool) → IsOwn log stop → next log stop)
        → (log : List Entry) × (stop : Bool) × (added : List Entry) × (more ≡ length added) × next log stop × Adds m.0 m.0.account added log stop
    own_next next more many number mine to =
        let k = comes f m.0.known m.0.halted (history home.desk) (stopped home.desk) own _ reply _ own_told a.sound.legal a.sound.short in
        let added : List Entry = recorded own.seat own.ask reply.answer in (
          m.0.known ++ added,
          k.stop,
          added,
          many ∙ (grows_by f m.0.known added home.batch.at reply.at a.at k.link.0.place).1,
          to (m.0.known ++ added) k.stop (subst (λ (rs : List Reply). IsNext f m.0.known m.0.halted (history home.desk) (stopped home.desk) own commands rs (m.0.known ++ added) k.stop) (sym first_reply) k.link),
          record { live = a.live; mine = mine; own = recorded_of own.seat m.0.account.number own.ask reply.answer number; grown = refl; legal = k.legal; short = k.short; still = k.link.0.stays },
        )

    pub own_noted : (next : List Entry → Bool → Type 0) (m' : Sat (Home T)) → ((log : List Entry) (stop : Bool) → next log stop → IsOwn log stop) → kept next m m' → IsNoted m.0 own reply m'.0.account
    own_noted next m' from t = let x = own_leaves t.0 t.1 (from t.0 t.1 t.2) in record {
      log = t.0;
      stop = t.1;
      link = x.0;
      legal = legal_of f t.1 (stopped home.desk) t.0 (history home.desk) _ _ x.1 a.sound.legal;
      is = t.3.3;
    }

    pub own_ahead : (next : List Entry → Bool → Type 0) (m' : Sat (Home T)) (home'' : Home T) → ((log : List Entry) (stop : Bool) → next log stop → IsOwn log stop) → kept next m m' → home''.desk ≡ home.desk → home''.batch.at ≡ reply.at
        → home''.batch.passes.items ≡ home.batch.passes.items → home''.batch.replies.items ≡ home'.batch.replies.items → home''.batch.commands.items ≡ home.batch.commands.items → IsAhead history figures_of stopped m' home'' commands passes
    own_ahead next m' home'' from t desk at ps rs cs =
        let x = own_leaves t.0 t.1 (from t.0 t.1 t.2) in let n = t.3 in
        let same : m'.0.account.figures ≡ f = ap (λ (y : Account). y.figures) n.3 in
        let many : length home.batch.replies.items ≡ suc (length home''.batch.replies.items) = let e = ap length last in let e' = ap length rs in omega (arith, e, e', length-append home'.batch.replies.items (reply ∷ [])) in
        record {
          turn = n.0;
          live = ap (λ (y : Account). y.spent) n.3 ∙ a.live;
          slot = n.4 ∙ a.slot;
          sound = subst (λ (y : Figures × T). IsSound history figures_of stopped y.0 y.1) (λ i. (sym same i, sym desk i)) a.sound;
          at = at ∙ (x.0.place ∙ (λ i. end_of (whole (sym same i) (sym n.1 i))));
          waiting = ap reverse ps ∙ a.waiting;
          told = subst (λ (y : Figures × Bool × T × List Entry × List Reply). AreToldInTurn y.0 y.1 (stopped y.2) (whole y.0 y.3) (take (length y.4) commands) y.4 (history y.2))
              (λ i. (sym same i, sym n.2 i, sym desk i, sym n.1 i, ap reverse (sym rs) i)) x.1;
          rest = (a.rest.0, cs ∙ (a.rest.1 ∙ ap (λ (k : ℕ). a.rest.0 ++ drop k (own ∷ commands)) many));
        }

  -- a turn begins with the own command before those of all who wait
  pub begins : (m : Sat (Home T)) (home : Home T) (own : Entry) (commands : List Entry) (passes : List Pass) → m.0.stage ≡ HasTurn → m.0.account.spent ≡ false → m.1 ≡ (0, None) ∷ [] → IsSound history figures_of stopped m.0.account.figures home.desk
      → history home.desk ≡ whole m.0.account.figures m.0.known → stopped home.desk ≡ m.0.halted → home.batch.at ≡ end_of (history home.desk) → home.batch.commands.items ≡ own ∷ commands → reverse home.batch.passes.items ≡ passes → home.batch.replies.items ≡ []
      → IsAhead history figures_of stopped m home (own ∷ commands) passes
  begins m home own commands passes st live slot sound known halted at cs ps rs = record {
    turn = st;
    live = live;
    slot = slot;
    sound = sound;
    at = at ∙ ap end_of known;
    waiting = ps;
    told = subst (λ (xs : List Reply). AreToldInTurn m.0.account.figures m.0.halted (stopped home.desk) (whole m.0.account.figures m.0.known) (take (length xs) (own ∷ commands)) xs (history home.desk)) (ap reverse (sym rs)) (known, halted);
    rest = ([], cs ∙ ap (λ (xs : List Reply). drop (length xs) (own ∷ commands)) (sym rs));
  }

-- what was gathered behind one command
pub gathered : (lock : LockId) (b c : Batch) (before errands : List Errand) (own : Entry) → Gathers lock b c before errands → before ≡ [] → b.commands.items ≡ own ∷ [] → b.passes.items ≡ []
    → (c.commands.items ≡ own ∷ map command_of errands) × (c.passes.items ≡ map pass_of errands) × All (λ (e : Errand). lock_of e.pass ≡ lock) errands
gathered lock b c before errands own g none one empty =
    let is : errands ≡ g.0 = g.1 ∙ ap (λ (xs : List Errand). xs ++ g.0) none in (
      g.3 ∙ (ap (λ (xs : List Entry). xs ++ map command_of g.0) one ∙ ap (λ (xs : List Errand). own ∷ map command_of xs) (sym is)),
      g.4 ∙ (ap (λ (xs : List Pass). xs ++ map pass_of g.0) empty ∙ ap (λ (xs : List Errand). map pass_of xs) (sym is)),
      subst (All (λ (e : Errand). lock_of e.pass ≡ lock)) (sym is) g.2,
    )

-- what a seat noted in its turn is the call of its pass
pub noted_call : (p q : Pass) (v : View) (ask : Ask) (reply : Reply) → v.account ≡ account_of p.badge.views → Newer v → IsNoted v record { seat = p.number; ask = ask } reply (account_of q.badge.views) → q.number ≡ p.number → q.badge.table_id ≡ p.badge.table_id → IsCalled p ask q reply
noted_call p q v ask reply from newer n same own =
    let figures : v.account.figures ≡ (account_of p.badge.views).figures = ap (λ (y : Account). y.figures) from in
    called_by p q v.known n.log v.halted n.stop ask reply (subst (λ (y : Account). Follows v.known v.halted y) from (follows_of v newer))
    (subst (λ (y : Figures). IsToldNext y v.halted n.stop (whole y v.known) record { seat = p.number; ask = ask } reply (whole y n.log)) figures n.link)
    (subst (λ (y : Figures). IsLegal (whole y n.log)) figures n.legal) (n.is ∙ ap (λ (y : Account). record y { seen = n.log; stop = n.stop }) from) same own
