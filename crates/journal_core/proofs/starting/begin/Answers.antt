use Rattle.std.proofs.Common.{subst, sym}
use Rattle.journal_core.specs.Calls.{IsStarted}
use Rattle.journal_core.specs.Journal.{IsShortAs}
use Rattle.journal_core.specs.declared.form.Form.{Form}
use Rattle.journal_core.proofs.StartFacts.{started_tiny, started_bare, started_plain, started_slots, nothing_starting}
use Rattle.journal_core.proofs.starting.begin.Goals as goal

pub begin_short-requires-clause-tiny : goal.begin_short-requires-clause-tiny
begin_short-requires-clause-tiny g c = subst (λ (f : Form). IsShortAs f (g.D.Disk.history c.args.disk.now)) c.in-Short.is c.requires.short

pub returns-in_ok-begin_short-in-Short-clause-at_rest : goal.returns-in_ok-begin_short-in-Short-clause-at_rest
returns-in_ok-begin_short-in-Short-clause-at_rest g c =
    let was = g.D.Disk.history c.args.disk.now in
    let after = g.D.Disk.history c.begin_short.new.disk in
    subst (λ (f : Form). IsStarted was after f) (sym c.in-Short.is) (started_tiny was after c.begin_short.ensures.any_moment c.in_ok-begin_short-in-Short.ensures.at_rest)

pub returns-in_ok-begin_slots-in-SlotsShort-clause-at_rest : goal.returns-in_ok-begin_slots-in-SlotsShort-clause-at_rest
returns-in_ok-begin_slots-in-SlotsShort-clause-at_rest g c =
    let was = g.D.Disk.history c.args.disk.now in
    let after = g.D.Disk.history c.begin_slots.new.disk in
    subst (λ (f : Form). IsStarted was after f) (sym c.in-SlotsShort.is) (started_bare was after c.begin_slots.ensures.any_moment c.in_ok-begin_slots-in-SlotsShort.ensures.at_rest)

pub returns-in-Plain-clause-at_rest : goal.returns-in-Plain-clause-at_rest
returns-in-Plain-clause-at_rest g c =
    let was = g.D.Disk.history c.args.disk.now in
    subst (λ (f : Form). IsStarted was was f) (sym c.in-Plain.is) (started_plain was c.requires.settled)

pub returns-in-Plain-clause-any_moment : goal.returns-in-Plain-clause-any_moment
returns-in-Plain-clause-any_moment g c = nothing_starting (g.D.Disk.history c.args.disk.now) c.requires.settled

pub returns-in-Slots-clause-at_rest : goal.returns-in-Slots-clause-at_rest
returns-in-Slots-clause-at_rest g c =
    let was = g.D.Disk.history c.args.disk.now in
    subst (λ (f : Form). IsStarted was was f) (sym c.in-Slots.is) (started_slots was c.in-Slots.selected c.in-Slots.offset c.requires.settled)

pub returns-in-Slots-clause-any_moment : goal.returns-in-Slots-clause-any_moment
returns-in-Slots-clause-any_moment g c = nothing_starting (g.D.Disk.history c.args.disk.now) c.requires.settled
