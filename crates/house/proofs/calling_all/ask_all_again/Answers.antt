use Rattle.std.proofs.Common.{◌≡◌, ◌+◌, ◌≤◌, length, get_or, take, drop, refl, sym, ◌∙◌, subst, ap, arith}
use Rattle.std.proofs.lemmas.List.{drop_all, take_all}
use Rattle.command_types.specs.declared.ask.Entry.{Entry}
use Rattle.house.specs.Step.{AreToldAfterFault, IsToldAfterFault}
use Rattle.house.proofs.LoopFacts.{again_next, same_next}
use Rattle.house.proofs.calling_all.ask_all_again.Goals as goal

pub loop-asked-init : goal.loop-asked-init
loop-asked-init c =
    let replies = c.args.replies.now.items in
    record {
      state = refl;
      told = subst (AreToldAfterFault c.args.machine.now.state c.args.batch.now.size c.args.batch.now.at (take 0 c.args.commands.now)) (sym (drop_all (length replies) replies (omega arith))) tt;
      same = take_all (length replies) replies (omega arith);
      long = omega arith;
      capacity = refl;
    }

pub loop-asked-preserved : goal.loop-asked-preserved
loop-asked-preserved c =
    let inv = c.loop-asked.invariant in
    let n = length c.args.replies.now.items in
    let few : n ≤ length c.loop-asked.replies.items = omega (arith, inv.long, c.loop-asked.replies.ok.0, c.args.replies.now.ok.0) in
    let e : c.in-Some.command ≡ c.asked-item.result = c.in-Some.ensures.same in
    let same = e ∙ c.asked-item.is ∙ ap (λ (d : Entry). get_or c.args.commands.now c.loop-asked.asked-index d) (sym e) in
    record {
      state = c.ask_again.ensures.state ∙ inv.state;
      told = again_next c.args.machine.now.state c.args.batch.now.size c.args.batch.now.at n c.args.commands.now c.loop-asked.asked-index c.in-Some.command c.ask_again.result c.loop-asked.replies.items c.push_reserved.new.self.items
          c.loop-asked-test.true same few inv.told (rw inv.state at c.ask_again.ensures.told) c.push_reserved.ensures.items;
      same = same_next n c.args.replies.now.items c.loop-asked.replies.items c.push_reserved.new.self.items c.ask_again.result few inv.same c.push_reserved.ensures.items;
      long = omega (arith, inv.long, c.push_reserved.ensures.len);
      capacity = c.push_reserved.ensures.capacity ∙ inv.capacity;
    }
