-- A status is the end's, or 9.
use Rattle.std.proofs.Common.{◌≡◌, ℕ, true, List, inl, inr, sym, subst}
use Rattle.std.specs.Prelude.{Result, Ok, Err, IfOk, OnErr}
use Rattle.compress_server.specs.declared.ending.End.{End}
use Rattle.compress_server.specs.declared.ending.End.TheVariants.{Memory}
use Rattle.compress_server.specs.Seen.{OutputState}
use Rattle.compress_server.specs.Statuses.{status_of, line_of, wants_memory}
use Rattle.compress_server.specs.Telling.{IsReported, IsTold, TellsEnd, StatusesTellTheEnd}

pub statuses_tell_the_end : StatusesTellTheEnd
statuses_tell_the_end errors errors' end status (inl told) = inl told.0
statuses_tell_the_end errors errors' end status (inr (wants, told)) = inr (wants, told.0)

-- what is told of an end whose line always stands the same
pub fixed_told : (errors errors' : OutputState) (end own : End) (status : ℕ) → end ≡ own → status ≡ status_of own → IsReported errors errors' (line_of own) → TellsEnd errors errors' end status
fixed_told errors errors' end own status is tells line = subst (λ e. TellsEnd errors errors' e status) (sym is) (inl (tells, line))

-- what is told of an end whose line was to be made
pub made_told : {V E : Type 0} (bytes : V → List ℕ) (errors errors' : OutputState) (end own : End) (status : ℕ) (line : Result V E) → end ≡ own → wants_memory own ≡ true → IfOk line (λ v. bytes v ≡ line_of own) →
    IfOk line (λ v. (status ≡ status_of own) × IsReported errors errors' (bytes v)) → OnErr line (IsTold errors errors' Memory status) → TellsEnd errors errors' end status
made_told bytes errors errors' end own status (Ok v) is wants made told memory =
    subst (λ e. TellsEnd errors errors' e status) (sym is) (inl (told.0, subst (λ l. IsReported errors errors' l) made told.1))
made_told bytes errors errors' end own status (Err e) is wants made told memory = subst (λ e. TellsEnd errors errors' e status) (sym is) (inr (wants, memory))
