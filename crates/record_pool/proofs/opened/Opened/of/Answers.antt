use Rattle.std.proofs.Common.{ℕ, List, sym, ◌∙◌, ap}
use Rattle.journal_core.specs.RecordBytes.{walked_of}
use Rattle.journal_core.specs.Walk.{bytes_of}
use Rattle.journal_core.proofs.OneReading.{one_reading}
use Rattle.recovery.specs.Bodies.{changes_in}
use Rattle.record_pool.proofs.opened.Opened.of.Goals as goal

pub returns : goal.returns
returns c = λ base records holds.
    let m = c.in_ok-marks.ensures in
    let one = one_reading (bytes_of (walked_of c.args.bytes)) m.held.0 base c.in_ok-marks.marks.records records m.held.1 holds in
    sym m.parted.changes ∙ ap (λ (l : List (List ℕ)). changes_in c.args.start l) one.1
