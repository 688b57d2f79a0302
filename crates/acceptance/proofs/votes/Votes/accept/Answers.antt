use Rattle.std.proofs.Common.{ℕ, ◌∷◌, List, ap, ◌∙◌}
use Rattle.command_types.specs.CycleRefusals.{has_voted}
use Rattle.acceptance.proofs.FlagFacts.{voted_added}
use Rattle.acceptance.proofs.votes.Votes.accept.Goals as goal

pub returns-clause-accepted : goal.returns-clause-accepted
returns-clause-accepted c = λ m.
    voted_added c.self.inside.accepted.words c.insert.new.self.words c.args.member c.requires.member c.insert.ensures m
    ∙ ap (λ (accepted : List ℕ). has_voted (c.args.member ∷ accepted) m) (ap (λ v. v.accepted) c.self.view_is)
