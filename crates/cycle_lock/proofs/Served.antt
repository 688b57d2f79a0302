-- The pass whose reply is next notes it.
use Rattle.std.proofs.Common.{◌≡◌, ℕ, ◌+◌, ◌-◌, ◌≤◌, All, length, length-append, Bool, List, [], ◌∷◌, ◌++◌, drop, take, map, reverse, sym, refl, ap, ◌∙◌, subst, arith}
use Rattle.std.proofs.lemmas.List.Elements.{All-head}
use Rattle.command_types.specs.declared.ask.Entry.{Entry}
use Rattle.command_types.specs.declared.answer.Reply.{Reply}
use Rattle.command_types.specs.declared.figures.Figures.{Figures}
use Rattle.command_types.specs.History.{History, IsLegal, end_of, recorded}
use Rattle.command_types.specs.InTurn.{AreToldInTurn, IsToldNext, all_recorded}
use Rattle.cycle_lock.specs.declared.errands.Errand.{Errand}
use Rattle.cycle_lock.specs.declared.home.Home.{Home}
use Rattle.cycle_lock.specs.declared.pass.Pass.{Pass}
use Rattle.cycle_lock.specs.declared.rule.Account.{Account}
use Rattle.cycle_lock.specs.Accounts.{whole, times}
use Rattle.cycle_lock.specs.Errands.{IsCalled, command_of, pass_of}
use Rattle.cycle_lock.specs.Passes.{LockId, lock_of}
use Rattle.cycle_lock.specs.Plays.{Sat, Adds, noted_beside}
use Rattle.cycle_lock.specs.Turn.{IsNext, IsSound, IsAhead, IsFirst}
use Rattle.cycle_lock.specs.Views.{account_of}
use Rattle.cycle_lock.proofs.Ahead.{Opened}
use Rattle.cycle_lock.proofs.Links.{called_by, comes, legal_front}
use Rattle.cycle_lock.proofs.Owners.{recorded_of, grown_in_turn}

-- what a link leaves is legal, where all that follows is
pub legal_of : (f : Figures) (stop stopped : Bool) (log : List Entry) (h : History) (behind : List Entry) (replies : List Reply) → AreToldInTurn f stop stopped (whole f log) behind replies h → IsLegal h → IsLegal (whole f log)
legal_of f stop stopped log h behind replies told legal = legal_front f.base.state log (all_recorded behind replies) (subst IsLegal (grown_in_turn f stop stopped (whole f log) h behind replies told) legal)

-- the position of a reply tells by how much the history grew
pub grows_by : (f : Figures) (known added : List Entry) (at reply_at : ℕ) → at ≡ end_of (whole f known) → reply_at ≡ end_of (whole f (known ++ added)) → (at ≤ reply_at) × (reply_at - at ≡ length added)
grows_by f known added at reply_at from to = (omega (arith, length-append known added), omega (arith, length-append known added))

module _ {T : Type 0} (history : T → History) (figures_of : T → Figures) (stopped : T → Bool) where
  module _ (m : Sat (Home T)) (home home' : Home T) (pass : Pass) (reply : Reply) (errands : List Errand) (o : Opened history figures_of stopped m home home' pass reply errands) (last : home.batch.replies.items ≡ home'.batch.replies.items ++ reply ∷ [])
      (first_reply : reverse home.batch.replies.items ≡ reply ∷ reverse home'.batch.replies.items) where
    abbrev f : Figures
    f = m.0.account.figures

    -- what the first link leaves
    abbrev Leaves : List Entry → Bool → Type 0
    Leaves log stop = IsToldNext f m.0.halted stop (whole f m.0.known) (command_of o.first) reply (whole f log)
        × AreToldInTurn f stop (stopped home.desk) (whole f log) (take (length (reverse home'.batch.replies.items)) (map command_of o.others)) (reverse home'.batch.replies.items) (history home.desk)

    leaves_first : (log : List Entry) (stop : Bool) → Leaves log stop → IsFirst history figures_of stopped m home errands log stop
    leaves_first log stop x = subst (λ (es : List Errand). IsFirst history figures_of stopped m home es log stop) (sym o.split)
        (subst (λ (rs : List Reply). IsNext f m.0.known m.0.halted (history home.desk) (stopped home.desk) (command_of o.first) (map command_of o.others) rs log stop) (sym first_reply) x)

    pub first_leaves : (log : List Entry) (stop : Bool) → IsFirst history figures_of stopped m home errands log stop → Leaves log stop
    first_leaves log stop x = subst (λ (rs : List Reply). IsNext f m.0.known m.0.halted (history home.desk) (stopped home.desk) (command_of o.first) (map command_of o.others) rs log stop) first_reply
        (subst (λ (es : List Errand). IsFirst history figures_of stopped m home es log stop) o.split x)

    pub at_grows : IsAhead history figures_of stopped m home (map command_of errands) (map pass_of errands) → home.batch.at ≤ reply.at
    at_grows a = let k = comes f m.0.known m.0.halted (history home.desk) (stopped home.desk) (command_of o.first) _ reply _ o.told a.sound.legal a.sound.short in
        (grows_by f m.0.known (recorded o.first.pass.number o.first.ask reply.answer) home.batch.at reply.at a.at k.link.0.place).0

    pub next_is : (next : List Entry → Bool → Type 0) (more : ℕ) → IsAhead history figures_of stopped m home (map command_of errands) (map pass_of errands) → more ≡ reply.at - home.batch.at → ((log : List Entry) (stop : Bool) → IsFirst history figures_of stopped m home errands log stop → next log stop)
        → (log : List Entry) × (stop : Bool) × (added : List Entry) × (more ≡ length added) × next log stop × Adds m.0 (account_of pass.badge.views) added log stop
    next_is next more a many to =
        let k = comes f m.0.known m.0.halted (history home.desk) (stopped home.desk) (command_of o.first) _ reply _ o.told a.sound.legal a.sound.short in
        let added : List Entry = recorded o.first.pass.number o.first.ask reply.answer in let g : Account = account_of pass.badge.views in
        let number : o.first.pass.number ≡ g.number = ap (λ (p : Pass). p.number) o.is_pass ∙ sym pass.numbered in (
          m.0.known ++ added,
          k.stop,
          added,
          many ∙ (grows_by f m.0.known added home.batch.at reply.at a.at k.link.0.place).1,
          to (m.0.known ++ added) k.stop (leaves_first (m.0.known ++ added) k.stop k.link),
          record {
            live = pass.live;
            mine = subst (λ (n : ℕ). 1 ≤ times n g.stands) (sym pass.numbered) pass.mine;
            own = recorded_of o.first.pass.number g.number o.first.ask reply.answer number;
            grown = refl;
            legal = k.legal;
            short = k.short;
            still = k.link.0.stays;
          },
        )

    -- it is a pass of this lock
    pub guest_of : (lock : LockId) → All (λ (e : Errand). lock_of e.pass ≡ lock) errands → lock_of pass ≡ lock
    guest_of lock all = ap lock_of (sym o.is_pass) ∙ All-head (λ (e : Errand). lock_of e.pass ≡ lock) o.first o.others (subst (λ (es : List Errand). All (λ (e : Errand). lock_of e.pass ≡ lock) es) o.split all)

    -- what was noted is the call of the errand
    pub called_guest : (next : List Entry → Bool → Type 0) (m' : Sat (Home T)) (pass' : Pass) → IsSound history figures_of stopped f home.desk → ((log : List Entry) (stop : Bool) → next log stop → IsFirst history figures_of stopped m home errands log stop)
        → noted_beside next m m' (account_of pass.badge.views) (account_of pass'.badge.views) → pass'.number ≡ pass.number → pass'.badge.table_id ≡ pass.badge.table_id → IsCalled o.first.pass o.first.ask pass' reply
    called_guest next m' pass' sound from t same own =
        let x = first_leaves t.0 t.1 (from t.0 t.1 t.2) in let g : Account = account_of pass.badge.views in
        let legal : IsLegal (whole f t.0) = legal_of f t.1 (stopped home.desk) t.0 (history home.desk) _ _ x.1 sound.legal in
        subst (λ (p : Pass). IsCalled p o.first.ask pass' reply) (sym o.is_pass)
        (called_by pass pass' m.0.known t.0 m.0.halted t.1 o.first.ask reply t.3
        (subst (λ (y : Figures × ℕ). IsToldNext y.0 m.0.halted t.1 (whole y.0 m.0.known) record { seat = y.1; ask = o.first.ask } reply (whole y.0 t.0)) (λ i. (sym t.4 i, ap (λ (p : Pass). p.number) o.is_pass i)) x.0)
        (subst (λ (y : Figures). IsLegal (whole y t.0)) (sym t.4) legal) t.5 same own)

    -- and the seat is ahead by the others
    pub ahead_of_others : (next : List Entry → Bool → Type 0) (m' : Sat (Home T)) (home'' : Home T) (a b : Account) (errands' : List Errand) → IsAhead history figures_of stopped m home (map command_of errands) (map pass_of errands) → ((log : List Entry) (stop : Bool) → next log stop → IsFirst history figures_of stopped m home errands log stop)
        → noted_beside next m m' a b → errands' ≡ drop 1 errands → home''.desk ≡ home.desk → home''.batch.at ≡ reply.at → home''.batch.passes.items ≡ home'.batch.passes.items → home''.batch.replies.items ≡ home'.batch.replies.items → home''.batch.commands.items ≡ home'.batch.commands.items
        → IsAhead history figures_of stopped m' home'' (map command_of errands') (map pass_of errands')
    ahead_of_others next m' home'' a b errands' h from t behind desk at passes replies commands =
        let x = first_leaves t.0 t.1 (from t.0 t.1 t.2) in
        let others : o.others ≡ errands' = sym (behind ∙ ap (drop 1) o.split) in
        subst (λ (es : List Errand). IsAhead history figures_of stopped m' home'' (map command_of es) (map pass_of es)) others
        (subst (λ (y : Sat (Home T)). IsAhead history figures_of stopped y home'' (map command_of o.others) (map pass_of o.others)) (sym t.6) record {
          turn = refl;
          live = h.live;
          slot = h.slot;
          sound = subst (IsSound history figures_of stopped f) (sym desk) h.sound;
          at = at ∙ x.0.place;
          waiting = ap reverse passes ∙ o.waiting;
          told = subst (λ (y : T × List Reply). AreToldInTurn f t.1 (stopped y.0) (whole f t.0) (take (length y.1) (map command_of o.others)) y.1 (history y.0)) (λ i. (sym desk i, ap reverse (sym replies) i)) x.1;
          rest = (o.rest.0, commands ∙ (o.rest.1 ∙ ap (λ (rs : List Reply). o.rest.0 ++ drop (length rs) (map command_of o.others)) (sym replies)));
        })
