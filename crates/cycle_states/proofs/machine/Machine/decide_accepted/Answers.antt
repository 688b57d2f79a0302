use Rattle.std.proofs.Common.{◌≡◌, ◌∙◌, false, true, IsTrue, sym}
use Rattle.command_types.specs.Machine.{answer_to, changes}
use Rattle.command_types.specs.History.{is_recorded}
use Rattle.cycle_states.proofs.DecisionFacts.{change_recorded, may_commit, read_changes_nothing}
use Rattle.cycle_states.proofs.RecordFacts.{recorded_party}
use Rattle.cycle_states.proofs.machine.Machine.decide_accepted.Goals as goal

pub returns-then-not-is_change-clause-decides : goal.returns-then-not-is_change-clause-decides
returns-then-not-is_change-clause-decides c =
    let read : changes c.args.entry.ask.what ≡ false = sym c.is_change.ensures ∙ c.if-not-is_change.true in
    read_changes_nothing c.args.self.now c.args.entry c.in_ok-answer.answer c.requires.accepted read c.in_ok-answer.ensures.told

pub made_ready-requires-clause-accepted : goal.made_ready-requires-clause-accepted
made_ready-requires-clause-accepted c =
    let change : changes c.args.entry.ask.what ≡ true = sym c.is_change.ensures ∙ c.if-not-is_change.false in
    change_recorded c.args.self.now.state c.args.entry.ask change c.requires.accepted

pub returns-clause-decides : goal.returns-clause-decides
returns-clause-decides c =
    let s = c.args.self.now.state in
    let ask = c.args.entry.ask in
    let change : changes ask.what ≡ true = sym c.is_change.ensures ∙ c.if-not-is_change.false in
    let recorded : IsTrue (is_recorded ask.what (answer_to s ask)) = change_recorded s ask change c.requires.accepted in
    let made = c.in_ok-ready.ensures in (
      made.entry,
      may_commit c.made_ready.new.self s c.args.entry c.in_ok-ready.ready c.made_ready.ensures.state made.entry recorded
          (recorded_party s ask.by ask.what (answer_to s ask) c.requires.accepted recorded) made.few made.ready made.room made.slot,
    )
