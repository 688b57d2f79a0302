use Rattle.std.proofs.Common.{◌≡◌, ◌+◌, Bool, arith, sym, ap, ◌∙◌}
use Rattle.std.specs.Prelude.{if◌then◌else◌}
use Rattle.acceptance.specs.Votes.{flagged}
use Rattle.acceptance.proofs.FlagFacts.{left_next, left_all}
use Rattle.acceptance.proofs.votes.count_left.Goals as goal
use Rattle.acceptance.proofs.votes.count_left.Goals.{then-is_left, else-is_left}

pub loop-place-preserved : goal.loop-place-preserved
loop-place-preserved c =
    let left = c.loop-place.left in
    let next = left_next c.args.needed.now.words c.args.accepted.now.words c.loop-place.place left c.is_left.result (omega arith) c.is_left.ensures c.loop-place.invariant.0 in
    elim c.if-is_left.branch [
      | then-is_left w ↦ (w.left-is ∙ ap (λ (t : Bool). left + (if t then 1 else 0)) (sym w.if-is_left.true) ∙ next, omega arith)
      | else-is_left w ↦ (w.left-is ∙ (let e : left ≡ left + 0 = omega arith in e) ∙ ap (λ (t : Bool). left + (if t then 1 else 0)) (sym w.if-is_left.false) ∙ next, omega arith)
    ]

pub returns : goal.returns
returns c =
    left_all c.args.needed.now.words (flagged c.args.accepted.now.words) c.loop-place.place c.loop-place.left (omega arith) c.loop-place.invariant.0
