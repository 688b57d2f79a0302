use Rattle.std.proofs.Common.{◌∙◌, sym, subst, ap}
use Rattle.cycle_lock.specs.declared.pass.Pass.{Pass}
use Rattle.session.specs.Serving.{of_pass}
use Rattle.session.specs.Ending.{Ends}
use Rattle.session.proofs.EndFacts.{seat_stays}
use Rattle.session.proofs.host.Host.serve.Goals as goal

pub returns-clause-ends : goal.returns-clause-ends
returns-clause-ends g c =
    let P : Pass → Type 0 = λ p. Ends (g.C.Clock.tells c.args.self.now.clock.now) (of_pass p) (g.S.Source.flow c.args.source.now) (g.S.Source.flow c.serve-end.new.source) (g.K.Sink.taken c.args.sink.now) (g.K.Sink.taken c.serve-end.new.sink) (of_pass c.serve-end.new.self.asker.pass) c.serve-end.result in
    let Q : Pass → Type 0 = λ p. Ends (g.C.Clock.tells c.args.self.now.clock.now) (of_pass c.args.pass) (g.S.Source.flow c.args.source.now) (g.S.Source.flow c.serve-end.new.source) (g.K.Sink.taken c.args.sink.now) (g.K.Sink.taken c.serve-end.new.sink) (of_pass p) c.serve-end.result in
    subst Q (sym c.into_pass.ensures.pass) (subst P c.new-4.ensures.pass c.serve-end.ensures.ends)

pub returns-clause-own : goal.returns-clause-own
returns-clause-own g c = ap (λ s. s.lock) (seat_stays _ _ _ _ _ _ _ _ (returns-clause-ends g c)) ∙ c.requires.own
