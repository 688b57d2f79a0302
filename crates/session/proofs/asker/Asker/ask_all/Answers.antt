use Rattle.std.proofs.Common.{◌≡◌, take, vec_len, sym, ◌∙◌, arith}
use Rattle.std.proofs.lemmas.List.Elements.{All-take}
use Rattle.command_types.specs.declared.ask.Entry.{Entry}
use Rattle.command_types.specs.Session.{IsTime}
use Rattle.cycle_lock.specs.Passes.{seat_of}
use Rattle.session.proofs.InTurnFacts.{asks_all_called}
use Rattle.session.proofs.asker.Asker.ask_all.Goals as goal

pub returns-clause-asks : goal.returns-clause-asks
returns-clause-asks g c = λ clock times.
    let q = c.call_all.ensures in
    let p = c.args.self.now.pass in
    let n = vec_len c.call_all.new.replies in
    asks_all_called clock p c.call_all.new.pass (take n c.args.commands.now) c.call_all.new.replies.items (q.own ∙ sym c.args.self.now.own) q.seat q.figures q.stands.1 q.legal (omega (arith, q.some))
    (All-take (λ (command : Entry). command.seat ≡ seat_of p) n c.args.commands.now c.requires.seats) (All-take (λ (command : Entry). IsTime clock command.ask.moment) n c.args.commands.now times) q.told q.later
