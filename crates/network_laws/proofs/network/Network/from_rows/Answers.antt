use Rattle.std.proofs.Common.{◌≡◌, Err, refl, ap, ◌∙◌, subst, rules, arith}
use Rattle.network_laws.specs.Faults.{IsFault}
use Rattle.network_laws.proofs.Results.{same_err, err_not_ok, ok_not_err}
use Rattle.network_laws.proofs.FaultsDiffer.{fault-one, fault-no_network}
use Rattle.network_laws.proofs.network.Network.from_rows.Goals as goal

pub returns-in_err-check_rows-clause-good : goal.returns-in_err-check_rows-clause-good
returns-in_err-check_rows-clause-good c =
    let fault : IsFault c.args.members c.args.rows.items c.in_err-check_rows.field-0.0 = search (rules, c.in_err-check_rows.ensures) in
    let is : c.from_residual.result ≡ Err c.in_err-check_rows.field-0.0 = search rules in
    ((λ ok. absurd (err_not_ok c.in_err-check_rows.field-0.0 is ok)), (λ good. absurd (fault-no_network c.args.members c.args.rows.items c.in_err-check_rows.field-0.0 fault (omega arith) good.rows)))

pub returns-in_err-check_rows-clause-fault : goal.returns-in_err-check_rows-clause-fault
returns-in_err-check_rows-clause-fault c f =
    let fault : IsFault c.args.members c.args.rows.items c.in_err-check_rows.field-0.0 = search (rules, c.in_err-check_rows.ensures) in
    let is : c.from_residual.result ≡ Err c.in_err-check_rows.field-0.0 = search rules in
    ((λ e. subst (IsFault c.args.members c.args.rows.items) (same_err c.in_err-check_rows.field-0.0 f is e) fault), (λ h. is ∙ ap Err (fault-one c.args.members c.args.rows.items c.in_err-check_rows.field-0.0 f fault h)))

pub returns-clause-fault : goal.returns-clause-fault
returns-clause-fault c f = ((λ e. absurd (ok_not_err _ f refl e)), (λ h. absurd (fault-no_network c.args.members c.args.rows.items f h (omega arith) (search (rules, c.in_ok-check_rows.ensures)))))
