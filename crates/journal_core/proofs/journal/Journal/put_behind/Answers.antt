use Rattle.std.proofs.Common.{◌+◌, length, refl}
use Rattle.journal_core.specs.Holds.{Holds}
use Rattle.journal_core.specs.Journal.{HoldsAllOrNone}
use Rattle.journal_core.proofs.MomentFacts.{leaves_both, yet_both}
use Rattle.journal_core.proofs.JournalFacts.{ready_place, gate_place, first_moments, second_moments, first_yet, second_yet, appended, ready_again}
use Rattle.journal_core.proofs.journal.Journal.put_behind.Goals as goal

pub put-requires-clause-place : goal.put-requires-clause-place
put-requires-clause-place g c = ready_place (g.D.Disk.history c.args.self.now.disk) c.args.self.now.form c.args.self.now.end c.requires.ready

pub put-requires-2-clause-place : goal.put-requires-2-clause-place
put-requires-2-clause-place g c =
    gate_place (g.D.Disk.history c.args.self.now.disk) (g.D.Disk.history c.put.new.disk) c.args.self.now.form c.args.self.now.end c.saturating_sub-gate.result c.args.behind.now
    c.requires.ready c.saturating_sub-gate.ensures c.in_ok-put.ensures.done

pub returns-in_err-put-clause-any_moment : goal.returns-in_err-put-clause-any_moment
returns-in_err-put-clause-any_moment g c = λ base records rest.
    first_moments c.args.self.now.form base records c.args._records.now.items c.args.behind.now c.requires.framed _ _ c.args.self.now.end (length c.args.behind.now) rest c.put.ensures.any_moment

pub returns-in_err-put-2-clause-any_moment : goal.returns-in_err-put-2-clause-any_moment
returns-in_err-put-2-clause-any_moment g c = λ base records rest.
    let was = g.D.Disk.history c.args.self.now.disk in
    let mid = g.D.Disk.history c.put.new.disk in
    let after = g.D.Disk.history c.put-2.new.disk in
    let form = c.args.self.now.form in
    let end = c.args.self.now.end in
    let behind = c.args.behind.now in
    let more = c.args._records.now.items in
    let is = c.requires.framed in
    leaves_both was mid after (HoldsAllOrNone base records more)
    (first_moments form base records more behind is was mid end (length behind) rest c.put.ensures.any_moment)
    (second_moments form base records more behind is was mid after end c.saturating_sub-gate.result rest c.saturating_sub-gate.ensures c.requires.fits c.in_ok-put.ensures.done c.put-2.ensures.any_moment)

pub returns-clause-any_moment : goal.returns-clause-any_moment
returns-clause-any_moment g c = λ base records rest.
    let was = g.D.Disk.history c.args.self.now.disk in
    let mid = g.D.Disk.history c.put.new.disk in
    let after = g.D.Disk.history c.put-2.new.disk in
    let form = c.args.self.now.form in
    let end = c.args.self.now.end in
    let behind = c.args.behind.now in
    let more = c.args._records.now.items in
    let is = c.requires.framed in
    leaves_both was mid after (HoldsAllOrNone base records more)
    (first_moments form base records more behind is was mid end (length behind) rest c.put.ensures.any_moment)
    (second_moments form base records more behind is was mid after end c.saturating_sub-gate.result rest c.saturating_sub-gate.ensures c.requires.fits c.in_ok-put.ensures.done c.put-2.ensures.any_moment)

pub returns-clause-done : goal.returns-clause-done
returns-clause-done g c = λ base records rest.
    let was = g.D.Disk.history c.args.self.now.disk in
    let mid = g.D.Disk.history c.put.new.disk in
    let after = g.D.Disk.history c.put-2.new.disk in
    let form = c.args.self.now.form in
    let end = c.args.self.now.end in
    let behind = c.args.behind.now in
    let more = c.args._records.now.items in
    let is = c.requires.framed in
    appended form base records more behind is was mid after end c.saturating_sub-gate.result (end + length behind) rest c.saturating_sub-gate.ensures c.requires.fits refl c.in_ok-put.ensures.done c.in_ok-put-2.ensures.done

pub returns-clause-ready : goal.returns-clause-ready
returns-clause-ready g c =
    let was = g.D.Disk.history c.args.self.now.disk in
    let after = g.D.Disk.history c.put-2.new.disk in
    ready_again was after c.args.self.now.form c.args.self.now.end (c.args.self.now.end + length c.args.behind.now) c.args._records.now.items c.requires.ready (returns-clause-done g c)

pub returns-in_err-put-clause-last : goal.returns-in_err-put-clause-last
returns-in_err-put-clause-last g c = λ base records rest.
    first_yet c.args.self.now.form base records c.args._records.now.items c.args.behind.now c.requires.framed _ _ c.args.self.now.end rest c.put.ensures.yet

pub returns-in_err-put-2-clause-last : goal.returns-in_err-put-2-clause-last
returns-in_err-put-2-clause-last g c = λ base records rest.
    let was = g.D.Disk.history c.args.self.now.disk in
    let mid = g.D.Disk.history c.put.new.disk in
    let after = g.D.Disk.history c.put-2.new.disk in
    let form = c.args.self.now.form in
    let end = c.args.self.now.end in
    let behind = c.args.behind.now in
    let more = c.args._records.now.items in
    let is = c.requires.framed in
    yet_both was mid after (λ image. Holds image base records) (HoldsAllOrNone base records more)
    (first_yet form base records more behind is was mid end rest c.put.ensures.yet)
    (second_moments form base records more behind is was mid after end c.saturating_sub-gate.result rest c.saturating_sub-gate.ensures c.requires.fits c.in_ok-put.ensures.done c.put-2.ensures.any_moment)
    (second_yet form base records more behind is was mid after end rest c.in_ok-put.ensures.done c.put-2.ensures.yet)

pub returns-clause-last : goal.returns-clause-last
returns-clause-last g c = λ base records rest.
    let was = g.D.Disk.history c.args.self.now.disk in
    let mid = g.D.Disk.history c.put.new.disk in
    let after = g.D.Disk.history c.put-2.new.disk in
    let form = c.args.self.now.form in
    let end = c.args.self.now.end in
    let behind = c.args.behind.now in
    let more = c.args._records.now.items in
    let is = c.requires.framed in
    yet_both was mid after (λ image. Holds image base records) (HoldsAllOrNone base records more)
    (first_yet form base records more behind is was mid end rest c.put.ensures.yet)
    (second_moments form base records more behind is was mid after end c.saturating_sub-gate.result rest c.saturating_sub-gate.ensures c.requires.fits c.in_ok-put.ensures.done c.put-2.ensures.any_moment)
    (second_yet form base records more behind is was mid after end rest c.in_ok-put.ensures.done c.put-2.ensures.yet)
