-- A turn in which several passes are called: the desk has answered, and the passes note their replies one behind the other.
use Rattle.std.specs.Prelude.{◌≡◌, ℕ, Some, ◌<◌, ◌^◌, All, Bool, false, List, [], ◌∷◌, ◌++◌, length, take, drop, map, reverse, None}
use Rattle.command_types.specs.declared.answer.Reply.{Reply}
use Rattle.command_types.specs.declared.ask.Entry.{Entry}
use Rattle.command_types.specs.declared.figures.Figures.{Figures}
use Rattle.command_types.specs.History.{History, IsLegal, end_of}
use Rattle.command_types.specs.InTurn.{AreToldInTurn, IsToldNext}
use Rattle.cycle_lock.specs.declared.errands.Errand.{Errand}
use Rattle.cycle_lock.specs.declared.home.Home.{Home}
use Rattle.cycle_lock.specs.declared.home.Batch.{Batch}
use Rattle.cycle_lock.specs.declared.rule.Account.{Account}
use Rattle.cycle_lock.specs.declared.rule.View.{View}
use Rattle.cycle_lock.specs.declared.rule.Stage.TheVariants.{HasTurn}
use Rattle.cycle_lock.specs.declared.pass.Pass.{Pass}
use Rattle.cycle_lock.specs.Accounts.{whole}
use Rattle.cycle_lock.specs.Errands.{command_of, pass_of}
use Rattle.cycle_lock.specs.Home.{of_desk}
use Rattle.cycle_lock.specs.Kept.{IsDesk}
use Rattle.cycle_lock.specs.Passes.{LockId, lock_of}
use Rattle.cycle_lock.specs.Plays.{Sat}

-- The first of these replies is the command's, and leaves this history and this stop. The others are those of the commands behind it.
abbrev pub IsNext : Figures → List Entry → Bool → History → Bool → Entry → List Entry → List Reply → List Entry → Bool → Type 0
IsNext figures known halted h stopped command behind [] log stop = ⊥
IsNext figures known halted h stopped command behind (reply ∷ replies) log stop =
    IsToldNext figures halted stop (whole figures known) command reply (whole figures log) × AreToldInTurn figures stop stopped (whole figures log) (take (length replies) behind) replies h

-- In its turn a seat's own pass noted this reply to its command, and has this account.
pub record IsNoted (v : View) (command : Entry) (reply : Reply) (account : Account) : Type 0 where
  pub log : List Entry
  pub stop : Bool
  pub link : IsToldNext v.account.figures v.halted stop (whole v.account.figures v.known) command reply (whole v.account.figures log)
  pub legal : IsLegal (whole v.account.figures log)
  pub is : account ≡ record v.account { seen = log; stop = stop }

module _ {T : Type 0} (history : T → History) (figures_of : T → Figures) (stopped : T → Bool) where
  -- a desk is what it says of itself
  pub record IsSound (figures : Figures) (d : T) : Type 0 where
    pub same : figures_of d ≡ figures
    pub base : (history d).base ≡ (figures_of d).base
    pub legal : IsLegal (history d)
    pub short : end_of (history d) < 2 ^ 63

  -- The seat has the turn and the slot, out of which it took the home. The desk is ahead of the history that the seat knows by the commands whose replies are still to be noted: the first of these.
  pub record IsAhead (m : Sat (Home T)) (home : Home T) (commands : List Entry) (passes : List Pass) : Type 0 where
    pub turn : m.0.stage ≡ HasTurn
    pub live : m.0.account.spent ≡ false
    pub slot : m.1 ≡ (0, None) ∷ []
    pub sound : IsSound m.0.account.figures home.desk
    pub at : home.batch.at ≡ end_of (whole m.0.account.figures m.0.known)
    pub waiting : reverse home.batch.passes.items ≡ passes
    pub told : let replies = reverse home.batch.replies.items in
        AreToldInTurn m.0.account.figures m.0.halted (stopped home.desk) (whole m.0.account.figures m.0.known) (take (length replies) commands) replies (history home.desk)
    pub rest : (front : List Entry) × (home.batch.commands.items ≡ front ++ drop (length home.batch.replies.items) commands)

  -- the first reply is that of the first errand, and leaves this history and this stop
  abbrev pub IsFirst : Sat (Home T) → Home T → List Errand → List Entry → Bool → Type 0
  IsFirst m home [] log stop = ⊥
  IsFirst m home (errand ∷ errands) log stop =
      IsNext m.0.account.figures m.0.known m.0.halted (history home.desk) (stopped home.desk) (command_of errand) (map command_of errands) (reverse home.batch.replies.items) log stop

  -- the first reply is that of the seat's own command, before those of the errands
  abbrev pub IsOwnFirst : Sat (Home T) → Home T → Entry → List Errand → List Entry → Bool → Type 0
  IsOwnFirst m home own errands log stop =
      IsNext m.0.account.figures m.0.known m.0.halted (history home.desk) (stopped home.desk) own (map command_of errands) (reverse home.batch.replies.items) log stop

  -- the desk, which was d and is e, answered these commands in turn
  abbrev pub HasAnswered : T → T → List Entry → List Reply → Type 0
  HasAnswered d e commands replies = AreToldInTurn (figures_of d) (stopped d) (stopped e) (history d) commands replies (history e)

  -- whichever seat is ahead with the home as it was is so as it is
  abbrev pub StaysAhead : Home T → Home T → Type 0
  StaysAhead home after = (m : Sat (Home T)) (commands : List Entry) (passes : List Pass) → length commands ≡ length passes → IsAhead m home commands passes → IsAhead m after commands passes

  -- the same, where the commands stand from a place on
  abbrev pub StaysAheadFrom : ℕ → Home T → Home T → Type 0
  StaysAheadFrom from home after = (m : Sat (Home T)) (front commands : List Entry) (passes : List Pass) → length front ≡ from → home.batch.commands.items ≡ front ++ commands
      → IsAhead m home commands passes → IsAhead m after commands passes

  -- the seat has the slot, in which the desk is where the seat knows it
  abbrev pub HoldsDesk : Sat (Home T) → Type 0
  HoldsDesk m = (home : Home T) × (m.1 ≡ (0, Some home) ∷ []) × IsDesk (of_desk history) (of_desk figures_of) (of_desk stopped) m.0.known m.0.halted m.0.account.figures home

-- More errands were claimed, all of this lock's passes, and the batch has their commands and passes behind the others.
abbrev pub Gathers : LockId → Batch → Batch → List Errand → List Errand → Type 0
Gathers lock b c before after = (more : List Errand) × (after ≡ before ++ more) × All (λ (e : Errand). lock_of e.pass ≡ lock) more
    × (c.commands.items ≡ b.commands.items ++ map command_of more) × (c.passes.items ≡ b.passes.items ++ map pass_of more) × (c.replies.items ≡ b.replies.items) × (c.at ≡ b.at)
