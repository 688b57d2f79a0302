use Rattle.std.proofs.Common.{◌∙◌, refl, sym}
use Rattle.cycle_states.proofs.PartyFacts.{member_is_caller, operator_is_caller}
use Rattle.cycle_states.proofs.machine.party.Caller.named.Goals as goal

pub returns-in-Some : goal.returns-in-Some
returns-in-Some c = (refl, member_is_caller c.args.roster.now c.args.name.now c.in-Some.member c.members-rows.ensures.roster (sym c.member_named.ensures ∙ c.in-Some.is))

pub returns-else-not-is_operator : goal.returns-else-not-is_operator
returns-else-not-is_operator c =
    (refl, operator_is_caller c.args.roster.now c.args.name.now c.members-rows.ensures.roster (sym c.member_named.ensures ∙ c.in-None.is) (sym c.is_operator.ensures ∙ c.if-not-is_operator.false))
