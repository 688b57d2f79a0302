use Rattle.std.proofs.Common.{◌≡◌, ◌+◌, ◌<◌, ◌++◌, List, [], ◌∷◌, false, length, get_or, take, sym, ap, ◌∙◌, subst, arith, length-set}
use Rattle.std.proofs.lemmas.List.{take_more}
use Rattle.command_types.specs.declared.ask.Entry.{Entry}
use Rattle.command_types.specs.declared.answer.Reply.{Reply}
use Rattle.command_types.specs.declared.figures.Figures.{Figures}
use Rattle.command_types.specs.InTurn.{AreToldInTurn, IsToldNext}
use Rattle.command_types.specs.Told.{IsTold}
use Rattle.cycle_states.specs.PlainDesk.{plain_figures}
use Rattle.book_tests.proofs.InTurn.{told_more, same_next, rest_next}
use Rattle.book_tests.proofs.lock.whole_runs.WholeRunsDesk.ask_all.Goals as goal

pub loop-i-preserved : goal.loop-i-preserved
loop-i-preserved c =
    let inv = c.loop-i.invariant in let old = c.args.commands.now in let now = c.loop-i.commands in let i = c.loop-i.i in
    let command : Entry = c.take-seat.result in let reply : Reply = c.ask.result in
    let lt : i < length now = omega (arith, inv.long, c.loop-i-test.true) in
    let lt' : i < length old = omega (arith, inv.long, c.loop-i-test.true) in
    let here : Entry = c.index-commands-i.result in
    let came : command ≡ get_or old i here = c.take-seat.ensures ∙ same_next old now i here inv.rest in
    let front : take (i + 1) old ≡ take i old ++ command ∷ [] = take_more old i here lt' ∙ ap (λ (e : Entry). take i old ++ e ∷ []) (sym came) in
    let told : IsTold (plain_figures c.args.self.now.desk) false false c.ask.new.self command.seat command.ask reply =
    subst (λ (f : Figures). IsTold f false false c.ask.new.self command.seat command.ask reply) inv.figures c.ask.ensures.told in
    let one : IsToldNext (plain_figures c.args.self.now.desk) false false c.loop-i.self.desk command reply c.ask.new.self =
    record { grows = c.ask.ensures.grows; place = c.ask.ensures.place; told = told; runs = c.ask.ensures.runs; stays = c.ask.ensures.stays } in
    let all = told_more (plain_figures c.args.self.now.desk) false false false c.args.self.now.desk c.loop-i.self.desk c.ask.new.self (take i old) c.loop-i.replies.items command reply inv.told one in
    record {
      told = subst (λ (x : List Entry × List Reply). AreToldInTurn (plain_figures c.args.self.now.desk) false false c.args.self.now.desk x.0 x.1 c.ask.new.self) (λ k. (sym front k, sym c.push_reserved.ensures.items k)) all;
      figures = c.ask.ensures.figures ∙ inv.figures;
      rest = rest_next old now i c.take-seat.new.self lt inv.long inv.rest;
      long = length-set now i c.take-seat.new.self ∙ inv.long;
      many = omega (arith, inv.many, c.push_reserved.ensures.len);
      capacity = c.push_reserved.ensures.capacity ∙ inv.capacity;
    }
