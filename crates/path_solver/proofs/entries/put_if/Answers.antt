use Rattle.std.proofs.Common.{◌≡◌, Bool, true, false, cond, eqb, ◌||◌, refl, sym, ap, ◌∙◌, inl, inr}
use Rattle.std.proofs.lemmas.Bool.{cases_eq, eq-eqb, ne_eqb}
use Rattle.member_set.specs.Members.{has}
use Rattle.path_solver.proofs.entries.put_if.Goals as goal

put_in : (e there h : Bool) → there ≡ true → (e || h) ≡ cond e there h
put_in true there h on = sym on
put_in false there h on = refl

pub returns-then-there : goal.returns-then-there
returns-then-there c m = c.put.ensures m ∙ put_in (eqb m c.args.member) c.args.there _ c.if-there.true

pub returns-else-there : goal.returns-else-there
returns-else-there c m =
    elim (cases_eq m c.args.member) [
      | inl e ↦ rw (eq-eqb m c.args.member e) (ap (has c.args.set.now) e ∙ c.requires.new ∙ sym c.if-there.false)
      | inr ne ↦ rw (ne_eqb m c.args.member ne) refl
    ]
