-- What tells one result from another.
use Rattle.std.proofs.Common.{◌≡◌, Result, Ok, Err, sym, ap, ◌∙◌}
use Rattle.std.proofs.lemmas.Bool.{both_ways}
use Rattle.std.specs.Prelude.{is_ok, IsOk}

abbrev err_or : {T E : Type 0} → E → Result T E → E
err_or e (Ok x) = e
err_or e (Err f) = f

pub same_err : {T E : Type 0} {r : Result T E} (e f : E) → r ≡ Err e → r ≡ Err f → e ≡ f
same_err e f h h' = ap (err_or e) (sym h ∙ h')

pub err_not_ok : {T E : Type 0} {r : Result T E} (e : E) → r ≡ Err e → IsOk r → ⊥
err_not_ok {T} {E} {r} e h ok = both_ways (is_ok r) (ap is_ok h) ok

pub ok_not_err : {T E : Type 0} {r : Result T E} (x : T) (e : E) → r ≡ Ok x → r ≡ Err e → ⊥
ok_not_err {T} {E} {r} x e h h' = both_ways (is_ok r) (ap is_ok h') (ap is_ok h)
