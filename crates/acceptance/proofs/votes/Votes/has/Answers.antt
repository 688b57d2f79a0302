use Rattle.std.proofs.Common.{ℕ, List, sym, ap, ◌∙◌}
use Rattle.command_types.specs.CycleRefusals.{has_voted}
use Rattle.acceptance.proofs.FlagFacts.{voted_flagged}
use Rattle.acceptance.proofs.votes.Votes.has.Goals as goal

pub returns : goal.returns
returns c =
    c.has.ensures ∙ sym (voted_flagged c.self.inside.accepted.words c.args.member c.requires)
    ∙ ap (λ (members : List ℕ). has_voted members c.args.member) (ap (λ v. v.accepted) c.self.view_is)
