-- Whether a session goes on after a line.
use Rattle.std.proofs.Common.{◌≡◌, Bool, true, false, Result, Ok, IfOk, refl, subst, cond}
use Rattle.session.specs.declared.taking.Step.{Step}
use Rattle.session.specs.declared.taking.Step.TheVariants.{On, Over}
use Rattle.command_types.specs.declared.answer.Answer.{Answer}
use Rattle.command_types.specs.Session.{is_bye}
use Rattle.session.specs.Standing.{step_of}

by_bye : (t : Bool) → On ≡ cond {A = Step} t Over On → t ≡ false
by_bye true e = cc e
by_bye false e = refl

by_on : (t : Bool) → Over ≡ cond {A = Step} t Over On → t ≡ true
by_on true e = refl
by_on false e = cc e

-- a session that goes on was not answered a BYE
pub goes_on : (answer : Answer) → On ≡ step_of answer → is_bye answer ≡ false
goes_on answer e = by_bye (is_bye answer) e

pub is_over : (answer : Answer) → Over ≡ step_of answer → is_bye answer ≡ true
is_over answer e = by_on (is_bye answer) e

-- the value of a result that is known
pub ok_holds : {T E : Type 0} (P : T → Type 0) (r : Result T E) (x : T) → r ≡ Ok x → IfOk r P → P x
ok_holds {T = T} {E = E} P r x e h = let Q : Result T E → Type 0 = λ v. IfOk v P in subst Q e h
