-- What one pass includes, through another.
use Rattle.std.proofs.Common.{List, ◌++◌, ap, ◌∙◌, append_assoc, subst, arith, length-append}
use Rattle.std.proofs.Math.ListN.{get_or-append}
use Rattle.std.specs.Prelude.{All}
use Rattle.command_types.specs.declared.ask.Entry.{Entry}
use Rattle.command_types.specs.History.{History, longer}
use Rattle.cycle_lock.specs.declared.pass.Pass.{Pass}
use Rattle.cycle_lock.specs.Passes.{Includes, Continues, seen}

continues_through : (f g h : History) → Continues f g → Continues g h → Continues f h
continues_through f g h a b = (b.0 ++ a.0, a.1 ∙ (ap (λ (x : History). longer x a.0) b.1 ∙ ap (λ (x : List Entry). record h { entries = x }) (append_assoc h.entries b.0 a.0)))

pub through : (p q r : Pass) → Includes p q → Includes q r → Includes p r
through p q r a b = record {
  seen_too = continues_through (seen p) (seen q) (seen r) a.seen_too b.seen_too;
  stands_too = λ n h. a.stands_too n (b.stands_too n h);
  same_entries = λ n h. a.same_entries n (b.stands_too n h) ∙ b.same_entries n h;
  stop_too = λ e. a.stop_too (b.stop_too e);
}

pub all_front : {X : Type 0} (P : X → Type 0) (xs ys : List X) → All P (xs ++ ys) → All P xs
all_front P xs ys h = λ k d lt. subst P (get_or-append xs ys d k lt) (h k d (omega (arith, length-append xs ys)))
