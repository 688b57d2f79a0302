use Rattle.std.proofs.Common.{◌≡◌, ℕ, List, sym, ◌∙◌, subst, ap}
use Rattle.command_types.specs.Bases.{spelling_behind}
use Rattle.command_types.specs.declared.spelling.Spelling.{Spelling}
use Rattle.journal_core.specs.RecordBytes.{walked_of}
use Rattle.journal_core.specs.Walk.{base_of}
use Rattle.journal_core.proofs.OneReading.{one_reading}
use Rattle.recovery.specs.Reading.{file_of, entries_in}
use Rattle.recovery.specs.StandsFor.{SpellAll}
use Rattle.recovery.proofs.EntryFacts.{read_spell}
use Rattle.recovery.proofs.PlaceFacts.{at_holds, ends_hold}
use Rattle.recovery.proofs.entries.Entries.into_records.Goals as goal

pub returns-clause-spelled : goal.returns-clause-spelled
returns-clause-spelled c = λ has list read base records holds.
    let e = c.args.self in
    let w = walked_of e.records in
    let file = file_of e in
    let one = one_reading file read.0 base read.1 records (at_holds file read.0 read.1 read.2 read.3) holds in
    let walked = has.2.1 in
    let first = one_reading file (base_of w) base walked.0 records (ends_hold w.form file w.end (base_of w) walked.0 walked.1) holds in
    let begins : e.first ≡ spelling_behind read.0 = has.3 ∙ ap spelling_behind (first.0 ∙ sym one.0) in
    subst (λ (s : Spelling). SpellAll s records (entries_in list)) (sym begins)
    (subst (λ (l : List (List ℕ)). SpellAll (spelling_behind read.0) l (entries_in list)) one.1 (read_spell file list read))
