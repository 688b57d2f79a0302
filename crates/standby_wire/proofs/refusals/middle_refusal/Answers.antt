use Rattle.std.proofs.Common.{drop, ap, ◌∙◌}
use Rattle.standby_wire.specs.Refusals.{middle_refusal}
use Rattle.standby_wire.proofs.refusals.middle_refusal.Goals as goal

pub returns-in-12 : goal.returns-in-12
unfolding middle_refusal
returns-in-12 c = ap (λ n. middle_refusal n (drop c.args.at.now c.args.input.now)) c.in-12.is ∙ c.named.ensures

pub returns-in-13 : goal.returns-in-13
unfolding middle_refusal
returns-in-13 c = ap (λ n. middle_refusal n (drop c.args.at.now c.args.input.now)) c.in-13.is ∙ c.named-in-13.ensures

pub returns-in-14 : goal.returns-in-14
unfolding middle_refusal
returns-in-14 c = ap (λ n. middle_refusal n (drop c.args.at.now c.args.input.now)) c.in-14.is ∙ c.named-in-14.ensures

pub returns-in-15 : goal.returns-in-15
unfolding middle_refusal
returns-in-15 c = ap (λ n. middle_refusal n (drop c.args.at.now c.args.input.now)) c.in-15.is ∙ c.named-in-15.ensures

pub returns-in-16 : goal.returns-in-16
unfolding middle_refusal
returns-in-16 c = ap (λ n. middle_refusal n (drop c.args.at.now c.args.input.now)) c.in-16.is ∙ c.named-in-16.ensures

pub returns-in-17 : goal.returns-in-17
unfolding middle_refusal
returns-in-17 c = ap (λ n. middle_refusal n (drop c.args.at.now c.args.input.now)) c.in-17.is ∙ c.named-in-17.ensures

pub returns-in-18 : goal.returns-in-18
unfolding middle_refusal
returns-in-18 c = ap (λ n. middle_refusal n (drop c.args.at.now c.args.input.now)) c.in-18.is ∙ c.named-in-18.ensures

pub returns-in-19 : goal.returns-in-19
unfolding middle_refusal
returns-in-19 c = ap (λ n. middle_refusal n (drop c.args.at.now c.args.input.now)) c.in-19.is ∙ c.named-in-19.ensures

pub returns-in-20 : goal.returns-in-20
unfolding middle_refusal
returns-in-20 c = ap (λ n. middle_refusal n (drop c.args.at.now c.args.input.now)) c.in-20.is ∙ c.named-in-20.ensures

pub returns-in-21 : goal.returns-in-21
unfolding middle_refusal
returns-in-21 c = ap (λ n. middle_refusal n (drop c.args.at.now c.args.input.now)) c.in-21.is ∙ c.named-in-21.ensures
