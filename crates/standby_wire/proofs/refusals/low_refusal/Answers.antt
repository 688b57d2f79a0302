use Rattle.std.proofs.Common.{drop, ap, ◌∙◌}
use Rattle.standby_wire.specs.Refusals.{low_refusal}
use Rattle.standby_wire.proofs.refusals.low_refusal.Goals as goal

pub returns-in-1 : goal.returns-in-1
unfolding low_refusal
returns-in-1 c = ap (λ n. low_refusal n (drop c.args.at.now c.args.input.now)) c.in-1.is ∙ c.named.ensures

pub returns-in-2 : goal.returns-in-2
unfolding low_refusal
returns-in-2 c = ap (λ n. low_refusal n (drop c.args.at.now c.args.input.now)) c.in-2.is ∙ c.named-in-2.ensures

pub returns-in-3 : goal.returns-in-3
unfolding low_refusal
returns-in-3 c = ap (λ n. low_refusal n (drop c.args.at.now c.args.input.now)) c.in-3.is ∙ c.named-in-3.ensures

pub returns-in-4 : goal.returns-in-4
unfolding low_refusal
returns-in-4 c = ap (λ n. low_refusal n (drop c.args.at.now c.args.input.now)) c.in-4.is ∙ c.named-in-4.ensures

pub returns-in-5 : goal.returns-in-5
unfolding low_refusal
returns-in-5 c = ap (λ n. low_refusal n (drop c.args.at.now c.args.input.now)) c.in-5.is ∙ c.named-in-5.ensures

pub returns-in-6 : goal.returns-in-6
unfolding low_refusal
returns-in-6 c = ap (λ n. low_refusal n (drop c.args.at.now c.args.input.now)) c.in-6.is ∙ c.named-in-6.ensures

pub returns-in-7 : goal.returns-in-7
unfolding low_refusal
returns-in-7 c = ap (λ n. low_refusal n (drop c.args.at.now c.args.input.now)) c.in-7.is ∙ c.named-in-7.ensures

pub returns-in-8 : goal.returns-in-8
unfolding low_refusal
returns-in-8 c = ap (λ n. low_refusal n (drop c.args.at.now c.args.input.now)) c.in-8.is ∙ c.named-in-8.ensures

pub returns-in-9 : goal.returns-in-9
unfolding low_refusal
returns-in-9 c = ap (λ n. low_refusal n (drop c.args.at.now c.args.input.now)) c.in-9.is ∙ c.named-in-9.ensures

pub returns-in-10 : goal.returns-in-10
unfolding low_refusal
returns-in-10 c = ap (λ n. low_refusal n (drop c.args.at.now c.args.input.now)) c.in-10.is ∙ c.named-in-10.ensures

pub returns-in-11 : goal.returns-in-11
unfolding low_refusal
returns-in-11 c = ap (λ n. low_refusal n (drop c.args.at.now c.args.input.now)) c.in-11.is ∙ c.named-in-11.ensures
