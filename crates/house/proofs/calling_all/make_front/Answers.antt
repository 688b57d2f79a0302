use Rattle.std.proofs.Common.{◌≡◌, ◌+◌, ◌≤◌, is_some, List, length, get_or, take, drop, true, vec_len, inl, inr, refl, sym, ◌∙◌, subst, ap, arith, length-take}
use Rattle.command_types.specs.declared.ask.Entry.{Entry}
use Rattle.house.specs.Batch.{is_shared}
use Rattle.house.specs.CallingAll.{IsAskedAlone}
use Rattle.house.specs.Front.{IsBegun, IsFront}
use Rattle.house.proofs.LoopFacts.{alone_at, alone_none, before_few, begun_on, front_begins, front_next, goes_begins}
use Rattle.house.proofs.StepFacts.{goes_more}
use Rattle.house.proofs.YoungFacts.{as_many_records, as_many_undos, young_behind}
use Rattle.house.proofs.calling_all.make_front.Goals as goal

pub loop-asked-init : goal.loop-asked-init
loop-asked-init c = record {
  front = front_begins c.args.machine.now.state c.args.batch.now c.args.replies.now.items c.requires.empty c.requires.none;
  many = omega (arith, ap length c.requires.none, c.args.replies.now.ok.0);
  first = omega arith;
  capacity = refl;
  goes_on = goes_begins c.args.batch.now c.args.past.now c.requires.empty;
}

pub step-requires-clause-young : goal.step-requires-clause-young
step-requires-clause-young c =
    let inv = c.loop-asked.invariant in
    let begun : IsBegun c.args.machine.now.state c.loop-asked.batch.at c.loop-asked.batch.size = begun_on c.args.machine.now.state c.args.batch.now c.loop-asked.batch c.args.past.now c.loop-asked.past inv.goes_on c.requires.begun in
    young_behind c.args.machine.now.state c.loop-asked.machine.state c.loop-asked.batch c.loop-asked.first (take c.loop-asked.asked-index c.args.commands.now) c.loop-asked.replies.items inv.front begun inv.goes_on.fits
    (omega (arith, inv.front.many, length-take c.loop-asked.asked-index c.args.commands.now, c.requires.few))

pub loop-asked-preserved : goal.loop-asked-preserved
loop-asked-preserved c =
    let inv = c.loop-asked.invariant in
    let commands = c.args.commands.now in
    let e : c.in-Some.command ≡ c.asked-item.result = c.in-Some.ensures.same in
    let same = e ∙ c.asked-item.is ∙ ap (λ (d : Entry). get_or commands c.loop-asked.asked-index d) (sym e) in
    let kind : is_shared c.in-Some.command.ask.what ≡ true = ap (λ (d : Entry). is_shared d.ask.what) e ∙ sym c.shared.ensures.shared ∙ ap is_some c.in-Some.is in
    let place = c.before_first-first.ensures in
    record {
      front = front_next c.args.machine.now.state c.loop-asked.machine.state c.step.new.machine.state c.loop-asked.batch c.step.new.batch c.loop-asked.first c.before_first-first.result commands c.loop-asked.asked-index
          c.in-Some.command c.in-Some-step.reply c.loop-asked.replies.items c.push_reserved.new.self.items c.loop-asked-test.true same kind inv.front c.step.ensures.goes_on.fits c.in-Some-step.ensures.told place c.push_reserved.ensures.items;
      many = omega (arith, inv.many, c.push_reserved.ensures.len);
      first = omega (arith, place, before_few c.loop-asked.first c.step.new.batch.entries c.loop-asked.asked-index inv.first);
      capacity = c.push_reserved.ensures.capacity ∙ inv.capacity;
      goes_on = goes_more c.args.batch.now c.loop-asked.batch c.step.new.batch c.args.past.now c.loop-asked.past c.step.new.past inv.goes_on c.step.ensures.goes_on;
    }

pub step-requires-clause-records : goal.step-requires-clause-records
step-requires-clause-records c =
    let inv = c.loop-asked.invariant in
    let begun : IsBegun c.args.machine.now.state c.loop-asked.batch.at c.loop-asked.batch.size = begun_on c.args.machine.now.state c.args.batch.now c.loop-asked.batch c.args.past.now c.loop-asked.past inv.goes_on c.requires.begun in
    as_many_records c.args.machine.now.state c.loop-asked.machine.state c.loop-asked.batch c.loop-asked.first (take c.loop-asked.asked-index c.args.commands.now) c.loop-asked.replies.items inv.front begun

pub step-requires-clause-undos : goal.step-requires-clause-undos
step-requires-clause-undos c =
    let inv = c.loop-asked.invariant in
    let begun : IsBegun c.args.machine.now.state c.loop-asked.batch.at c.loop-asked.batch.size = begun_on c.args.machine.now.state c.args.batch.now c.loop-asked.batch c.args.past.now c.loop-asked.past inv.goes_on c.requires.begun in
    as_many_undos c.args.machine.now.state c.loop-asked.machine.state c.loop-asked.batch c.loop-asked.first (take c.loop-asked.asked-index c.args.commands.now) c.loop-asked.replies.items inv.front begun
