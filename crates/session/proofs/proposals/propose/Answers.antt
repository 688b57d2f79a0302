use Rattle.std.proofs.Common.{◌∙◌, sym}
use Rattle.session.proofs.GrowthFacts.{begun_on, begun_last}
use Rattle.session.proofs.proposals.propose.Goals as goal

pub returns-in-Some : goal.returns-in-Some
returns-in-Some g c = begun_on _ _ _ c.args.by.now c.args.cycle c.in-Some.version c.args.mode c.ask-reply.result _ (sym c.begun_version.ensures ∙ c.in-Some.is) (c.ask-reply.ensures _ c.moment_now-moment.ensures) c.fetch.ensures

pub returns-in-None : goal.returns-in-None
returns-in-None g c = begun_last _ _ c.args.by.now c.args.cycle c.args.mode c.ask-reply.result (sym c.begun_version.ensures ∙ c.in-None.is) (c.ask-reply.ensures _ c.moment_now-moment.ensures)
