-- What a link of a turn is to the pass whose command it answers.
use Rattle.std.proofs.Common.{◌≡◌, ℕ, ◌+◌, ◌<◌, ◌^◌, length-append, Bool, true, List, [], ◌∷◌, ◌++◌, drop, sym, refl, ap, ◌∙◌, subst, arith, append_assoc}
use Rattle.std.proofs.lemmas.List.{append-nil}
use Rattle.command_types.specs.declared.ask.Ask.{Ask}
use Rattle.command_types.specs.declared.ask.Entry.{Entry}
use Rattle.command_types.specs.declared.answer.Reply.{Reply}
use Rattle.command_types.specs.declared.figures.Figures.{Figures}
use Rattle.command_types.specs.declared.figures.State.{State}
use Rattle.command_types.specs.Machine.{state_after}
use Rattle.command_types.specs.History.{History, IsLegal, IsLegalFrom, end_of, longer, recorded}
use Rattle.command_types.specs.InTurn.{AreToldInTurn, IsToldNext, all_recorded}
use Rattle.command_types.specs.Told.{IsTold}
use Rattle.command_types.proofs.StopFacts.{told_stop}
use Rattle.cycle_lock.specs.declared.pass.Pass.{Pass}
use Rattle.cycle_lock.specs.declared.rule.Account.{Account}
use Rattle.cycle_lock.specs.declared.rule.View.{View}
use Rattle.cycle_lock.specs.Accounts.{whole, by, opening_count}
use Rattle.cycle_lock.specs.Errands.{IsCalled}
use Rattle.cycle_lock.specs.Passes.{seen}
use Rattle.cycle_lock.specs.Plays.{Follows, Newer}
use Rattle.cycle_lock.specs.Views.{account_of}
use Rattle.cycle_lock.proofs.Calls.{Called, told_of}
use Rattle.cycle_lock.proofs.Histories.{continues}
use Rattle.cycle_lock.proofs.Joins.{by_more, made_later}
use Rattle.cycle_lock.proofs.Owners.{AreOf, by_self, by_others, recorded_of, grown_in_turn}

-- what is known of a seat that has its turn
pub follows_of : (v : View) → Newer v → Follows v.known v.halted v.account
follows_of v newer = record { begins = newer.begins; later = newer.later; earlier = newer.earlier; mine = newer.mine; stops = newer.stops; made = newer.made }

-- an account that has seen what a link left
linked : (a a' : Account) (known log added : List Entry) (halted stop : Bool) → Follows known halted a → log ≡ known ++ added → a' ≡ record a { seen = log; stop = stop } → Called a a' a.figures (whole a.figures log) halted stop added
linked a a' known log added halted stop follows grows to = let o : ℕ = opening_count a.figures in
    subst (λ (x : Account). Called a x a.figures (whole a.figures log) halted stop added) (sym to) record {
      desk = refl;
      history = refl;
      stop = refl;
      halted = follows.stops;
      number = refl;
      figures = refl;
      stands = refl;
      left = refl;
      extends = (follows.begins.0 ++ added, grows ∙ (ap (λ (x : List Entry). x ++ added) follows.begins.1 ∙ append_assoc a.seen follows.begins.0 added));
      mine = follows.mine;
      made = λ n own. ap (λ (x : List Entry). by n (drop o x)) grows ∙ (by_more n o known added follows.later ∙ ap (λ (x : List Entry). x ++ by n added) (follows.made n own));
    }

-- a history with its base is that of its entries
entries_by : (f : Figures) (known log more : List Entry) → whole f log ≡ longer (whole f known) more → log ≡ known ++ more
entries_by f known log more grows = ap (λ (h : History). h.entries) grows

-- the clauses of a call, from its link
pub called_by : (p q : Pass) (known log : List Entry) (halted stop : Bool) (ask : Ask) (reply : Reply) → let a = account_of p.badge.views in Follows known halted a → IsToldNext a.figures halted stop (whole a.figures known) record { seat = p.number; ask = ask } reply (whole a.figures log)
    → IsLegal (whole a.figures log) → account_of q.badge.views ≡ record a { seen = log; stop = stop } → q.number ≡ p.number → q.badge.table_id ≡ p.badge.table_id → IsCalled p ask q reply
called_by p q known log halted stop ask reply follows link legal to same own =
    let a : Account = account_of p.badge.views in let a' : Account = account_of q.badge.views in let f : Figures = a.figures in let added : List Entry = recorded p.number ask reply.answer in
    let t : Called a a' f (whole f log) halted stop added = linked a a' known log added halted stop follows (entries_by f known log added link.grows) to in
    let all : AreOf p.number added = recorded_of p.number p.number ask reply.answer refl in
    let more : by p.number (drop (opening_count a'.figures) a'.seen) ≡ by p.number (drop (opening_count f) a.seen) ++ added =
    t.made p.number p.mine ∙ ap (λ (x : List Entry). by p.number (drop (opening_count f) a.seen) ++ x) (by_self p.number added all) in
    record {
      own = own;
      seat = same;
      figures = t.figures;
      stands = (t.stands, t.left);
      goes_on = continues a'.figures f a'.seen a.seen t.figures t.extends;
      place = link.place ∙ ap end_of t.history;
      legal = subst IsLegal t.history legal;
      told = subst (λ (n : ℕ). (before : Bool) × (a.stop ≡ true → before ≡ true) × (before ≡ true → a'.stop ≡ true) × IsTold a'.figures before a'.stop (whole a'.figures a'.seen) n ask reply) (sym same)
          (told_of a a' f (whole f log) halted stop added t p.number ask reply link.told link.stays);
      entries = subst (λ (n : ℕ). by n (drop (opening_count a'.figures) a'.seen) ≡ by p.number (drop (opening_count f) a.seen) ++ added) (sym same) more;
      others = λ n stands ne. t.made n stands ∙ (ap (λ (x : List Entry). by n (drop (opening_count f) a.seen) ++ x) (by_others n p.number added all ne) ∙ append-nil (by n (drop (opening_count f) a.seen)));
      later = made_later f a'.figures p.number a.seen a'.seen added t.figures (omega (arith, p.opened, p.place)) t.extends more;
      stop = λ tells. sym t.stop ∙ told_stop _ _ _ _ _ _ _ link.told link.stays tells;
      stays = λ saw. sym t.stop ∙ link.stays (t.halted saw);
      runs = λ keeps. sym t.stop ∙ link.runs keeps;
    }

-- a beginning of a legal history is legal
pub legal_front : (s : State) (xs ys : List Entry) → IsLegalFrom s (xs ++ ys) → IsLegalFrom s xs
legal_front s [] ys legal = tt
legal_front s (x ∷ xs) ys legal = (legal.0, legal_front (state_after s x.ask) xs ys legal.1)

-- The first link of a turn: what it leaves, and how the seat's history goes on to it.
pub record Comes (f : Figures) (known : List Entry) (halted : Bool) (h : History) (stopped : Bool) (command : Entry) (behind : List Entry) (reply : Reply) (replies : List Reply) : Type 0 where
  pub stop : Bool
  pub link : let log = known ++ recorded command.seat command.ask reply.answer in IsToldNext f halted stop (whole f known) command reply (whole f log) × AreToldInTurn f stop stopped (whole f log) behind replies h
  pub legal : IsLegal (whole f (known ++ recorded command.seat command.ask reply.answer))
  pub short : end_of (whole f (known ++ recorded command.seat command.ask reply.answer)) < 2 ^ 63

pub comes : (f : Figures) (known : List Entry) (halted : Bool) (h : History) (stopped : Bool) (command : Entry) (behind : List Entry) (reply : Reply) (replies : List Reply)
    → AreToldInTurn f halted stopped (whole f known) (command ∷ behind) (reply ∷ replies) h → IsLegal h → end_of h < 2 ^ 63 → Comes f known halted h stopped command behind reply replies
comes f known halted h stopped command behind reply replies told legal short =
    let log : List Entry = known ++ recorded command.seat command.ask reply.answer in
    let link : IsToldNext f halted told.1 (whole f known) command reply (whole f log) × AreToldInTurn f told.1 stopped (whole f log) behind replies h =
    subst (λ (x : History). IsToldNext f halted told.1 (whole f known) command reply x × AreToldInTurn f told.1 stopped x behind replies h) told.2.grows (told.2, told.3) in
    let rest : List Entry = all_recorded behind replies in
    let whole_is : h ≡ longer (whole f log) rest = grown_in_turn f told.1 stopped (whole f log) h behind replies link.1 in
    record {
      stop = told.1;
      link = link;
      legal = legal_front f.base.state log rest (subst IsLegal whole_is legal);
      short = let e = ap end_of whole_is in omega (arith, e, length-append log rest, short);
    }
