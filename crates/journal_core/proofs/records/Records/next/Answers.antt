use Rattle.std.proofs.Common.{◌≡◌, ◌≢◌, ◌+◌, ◌<◌, ◌∷◌, [], List, ℕ, None, IfNone, length, sym, subst, arith, rules}
use Rattle.journal_core.specs.Holds.{limit}
use Rattle.journal_core.proofs.OneReading.{next_ahead, none_ahead, none_named}
use Rattle.journal_core.proofs.records.Records.next.Goals as goal

pub returns-in_err-body-clause-none : goal.returns-in_err-body-clause-none
returns-in_err-body-clause-none c = λ records ahead.
    let shut : (body : List ℕ) → c.args.self.now.rest.now ≢ 1 ∷ body = search rules in
    let is : c.from_residual.result ≡ None = search rules in
    subst (λ r. IfNone r (records ≡ [])) (sym is) (none_ahead c.args.self.now.at c.args.self.now.rest.now records ahead shut)

pub returns-in_err-bytes-clause-none : goal.returns-in_err-bytes-clause-none
returns-in_err-bytes-clause-none c = λ records ahead.
    let is : c.from_residual-in_err-bytes.result ≡ None = search rules in
    subst (λ r. IfNone r (records ≡ [])) (sym is)
    (none_named c.args.self.now.at c.args.self.now.rest.now c.in_ok-body.body.now records ahead c.in_ok-body.ensures.open_gate c.in_err-bytes.ensures.none)

pub returns-clause-some : goal.returns-clause-some
returns-clause-some c = λ records ahead.
    let at = c.args.self.now.at in
    let b = c.in_ok-bytes.bytes.now in
    let step : at + (5 + length b) < limit → c.saturating_add-self.result ≡ at + (5 + length b) = λ small. omega (arith, small, c.saturating_add-self.ensures) in
    next_ahead at c.args.self.now.rest.now c.in_ok-body.body.now b c.in_ok-bytes.after.now records c.saturating_add-self.result ahead c.in_ok-body.ensures.open_gate c.in_ok-bytes.ensures.found c.in_ok-bytes.ensures.small step
