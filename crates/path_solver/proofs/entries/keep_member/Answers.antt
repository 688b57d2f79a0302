use Rattle.std.proofs.Common.{◌≡◌, Bool, true, false, cond, eqb, ◌||◌, ◌&&◌, not, refl, sym, ◌∙◌}
use Rattle.path_solver.proofs.entries.keep_member.Goals as goal

put_in : (e there h : Bool) → there ≡ true → (e || h) ≡ cond e there h
put_in true there h on = sym on
put_in false there h on = refl

taken_out : (e there h : Bool) → there ≡ false → (not e && h) ≡ cond e there h
taken_out true there h off = sym off
taken_out false there h off = refl

pub returns-then-there : goal.returns-then-there
returns-then-there c m = c.put.ensures m ∙ put_in (eqb m c.args.member) c.args.there _ c.if-there.true

pub returns-else-there : goal.returns-else-there
returns-else-there c m = c.drop_member.ensures m ∙ taken_out (eqb m c.args.member) c.args.there _ c.if-there.false
