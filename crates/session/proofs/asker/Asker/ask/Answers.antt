use Rattle.std.proofs.Common.{sym, ◌∙◌}
use Rattle.session.proofs.GrowthFacts.{asks_called}
use Rattle.session.proofs.asker.Asker.ask.Goals as goal

pub returns : goal.returns
returns g c = λ clock time.
    let q = c.call.ensures in
    asks_called c.args.self.now.pass c.call.new.pass c.args.ask c.call.result time (q.own ∙ sym c.args.self.now.own) q.seat q.figures q.stands.1 q.seen q.place q.legal q.told q.later q.runs
