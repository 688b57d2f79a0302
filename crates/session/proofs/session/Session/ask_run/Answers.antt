use Rattle.std.proofs.Common.{◌≡◌, ◌+◌, ◌++◌, [], All, List, drop, length, refl, sym, subst, ◌∙◌}
use Rattle.outside.specs.Flow.{TakesFront}
use Rattle.command_types.specs.declared.answer.Reply.{Reply}
use Rattle.cycle_lock.specs.declared.pass.Pass.{Pass}
use Rattle.session.specs.AskedRun.{CutsRun, RunsOn}
use Rattle.session.specs.Given.{IsGiven}
use Rattle.session.specs.KeptSpeaker.{speaker_of}
use Rattle.session.specs.Runs.{replies_text}
use Rattle.session.specs.Serving.{of_pass, roster_of}
use Rattle.session.specs.Standing.{Stand, stand_of}
use Rattle.session.proofs.AskedRunFacts.{runs_on, cut_on}
use Rattle.session.proofs.PendingFacts.{says_as}
use Rattle.session.proofs.RunFacts.{given_all, asks_roster, run_times}
use Rattle.session.proofs.ServedFacts.{at_error}
use Rattle.session.proofs.session.Session.ask_run.Goals as goal

pub write_all-requires : goal.write_all-requires
write_all-requires g c =
    let clock = c.requires.times.0 in
    let all = given_all clock (of_pass c.args.self.now.asker.pass) (of_pass c.ask.new.asker.pass) _ c.ask.new.self.replies.items (c.ask.ensures.asks clock c.requires.times.1) in
    let P : Pass → List Reply → Type 0 = λ p rs. All (λ reply. IsGiven (of_pass p) reply) rs in
    record { given = subst (λ p. P p c.replies.result.now) (sym c.pass.ensures) (subst (P c.ask.new.asker.pass) (sym c.replies.ensures) all) }

pub invariant_of-self : goal.invariant_of-self
invariant_of-self g c =
    let clock = c.requires.times.0 in
    record {
      own = c.args.self.now.own
          ∙ sym (asks_roster clock (of_pass c.args.self.now.asker.pass) (of_pass c.ask.new.asker.pass) _ c.ask.new.self.replies.items (c.ask.ensures.asks clock c.requires.times.1));
    }

pub returns-in_err-write_all-clause-cut_off : goal.returns-in_err-write_all-clause-cut_off
returns-in_err-write_all-clause-cut_off g c =
    let old = stand_of c.args.self.now in
    let new : Stand = record { sight = of_pass c.ask.new.asker.pass; speaker = speaker_of c.args.self.now.speaker; waits = c.write_all.new.self.outbox } in
    let taken = g.K.Sink.taken c.args.sink.now in
    let then_taken = g.K.Sink.taken c.write_all.new.sink in
    let n = length c.ask.new.self.replies.items in
    let text : replies_text c.args.self.now.roster.now c.replies.result.now ≡ replies_text (roster_of old.sight) c.ask.new.self.replies.items = λ i. replies_text (c.args.self.now.own i) (c.replies.ensures i) in
    let front = subst (λ t. TakesFront taken then_taken (old.waits ++ t)) text c.in_err-write_all.ensures.front in
    let cut : CutsRun old new taken then_taken (drop c.args.at c.args.self.now.run.commands.items) = λ clock run is.
    cut_on clock old new taken then_taken c.args.at n run c.args.self.now.run.commands.items c.ask.new.self.replies.items is
    (c.ask.ensures.asks clock (run_times clock (roster_of old.sight) old.sight.seat.number old.speaker run (drop c.args.at c.args.self.now.run.commands.items) is)) front in
    at_error _ cut

pub returns-clause-on : goal.returns-clause-on
returns-clause-on g c = λ clock run is.
    let old = stand_of c.args.self.now in
    let new : Stand = record { sight = of_pass c.ask.new.asker.pass; speaker = speaker_of c.args.self.now.speaker; waits = c.write_all.new.self.outbox } in
    let taken = g.K.Sink.taken c.args.sink.now in
    let then_taken = g.K.Sink.taken c.write_all.new.sink in
    let n = length c.ask.new.self.replies.items in
    let items = c.ask.new.self.commands.items in
    let text : replies_text c.args.self.now.roster.now c.replies.result.now ≡ replies_text (roster_of old.sight) c.ask.new.self.replies.items = λ i. replies_text (c.args.self.now.own i) (c.replies.ensures i) in
    let runs = runs_on clock old new taken then_taken c.args.at n run c.args.self.now.run.commands.items items c.ask.new.self.replies.items refl is c.ask.ensures.rest
    (c.ask.ensures.asks clock (run_times clock (roster_of old.sight) old.sight.seat.number old.speaker run (drop c.args.at c.args.self.now.run.commands.items) is))
    (says_as taken then_taken old.waits new.waits _ _ text c.in_ok-write_all.ensures.said) in
    let P : List Reply → Type 0 = λ rs. RunsOn clock old new taken then_taken run (drop (c.args.at + length rs) items) in
    subst P (sym c.replies-2.ensures) runs
