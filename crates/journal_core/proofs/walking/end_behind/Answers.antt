use Rattle.std.proofs.Common.{◌≡◌, ◌≢◌, ◌<◌, ◌+◌, ◌∷◌, List, ℕ, length, arith, rules}
use Rattle.journal_core.proofs.LeadFacts.{one_more_frame, ended}
use Rattle.journal_core.proofs.walking.end_behind.Goals as goal

pub loop-body-preserved : goal.loop-body-preserved
loop-body-preserved c =
    let next : c.saturating_add-next.result ≡ c.loop-body.at + 5 + length c.in-Some-record_of.record_bytes.now = omega (arith, c.saturating_add-next.ensures, c.saturating_add.ensures, c.if-next-ge-LIMIT.false) in
    one_more_frame c.args.gate c.args.bytes.now c.loop-body.at c.loop-body.rest.now c.in-Some.body.now c.in-Some-record_of.after.now c.in-Some-record_of.record_bytes.now c.saturating_add-next.result
    c.loop-body.invariant c.in-Some.ensures.open_gate c.in-Some-record_of.ensures.found next (omega (arith, c.if-next-ge-LIMIT.false))

pub returns-clause-found : goal.returns-clause-found
returns-clause-found c =
    let some : 0 < length c.loop-body.rest.now = search rules in
    let shut : (body : List ℕ) → c.loop-body.rest.now ≢ 1 ∷ body = search rules in
    ended c.args.gate c.args.bytes.now c.loop-body.at c.loop-body.rest.now c.loop-body.invariant some shut
