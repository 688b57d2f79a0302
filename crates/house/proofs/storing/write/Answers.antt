use Rattle.std.proofs.Common.{ℕ, List, [], ◌∷◌, length, ◌∙◌, ap, sym, subst, arith}
use Rattle.command_types.specs.History.{longer}
use Rattle.command_types.specs.Spelling.{Spells}
use Rattle.command_types.specs.declared.spelling.Spelling.TheVariants.{Second}
use Rattle.journal_core.specs.declared.form.Form.{Form}
use Rattle.journal_core.specs.Journal.{disk_of, form_of, size_of}
use Rattle.house.specs.Storing.{AreStoredAs}
use Rattle.house.proofs.JournalFacts.{append_adds, append_leaves, append_yet}
use Rattle.house.proofs.storing.write.Goals as goal

pub returns-in-Ok-clause-stored : goal.returns-in-Ok-clause-stored
returns-in-Ok-clause-stored g c = λ stored.
    subst (λ (form : Form). AreStoredAs (g.D.Disk.history (disk_of c.append.new.self)) form (size_of c.append.new.self) (longer c.args.past.now.history (c.args.ready.entry ∷ []))) (sym c.append.ensures.form)
    (append_adds (g.D.Disk.history (disk_of c.args.journal.now)) (g.D.Disk.history (disk_of c.append.new.self)) (form_of c.args.journal.now) (size_of c.args.journal.now) (size_of c.append.new.self)
    c.args.past.now.history c.args.written.frame.now c.args.ready.entry (subst (λ (bytes : List ℕ). Spells Second bytes c.args.ready.entry) (sym c.requires.frame) c.requires.spells) c.requires.fits c.append.ensures.any_moment c.in-Ok.ensures.done stored)

pub returns-in-Ok-clause-any_moment : goal.returns-in-Ok-clause-any_moment
returns-in-Ok-clause-any_moment g c =
    append_leaves (g.D.Disk.history (disk_of c.args.journal.now)) (g.D.Disk.history (disk_of c.append.new.self)) (form_of c.args.journal.now) (size_of c.args.journal.now)
    c.args.past.now.history c.args.written.frame.now c.args.ready.entry (subst (λ (bytes : List ℕ). Spells Second bytes c.args.ready.entry) (sym c.requires.frame) c.requires.spells) c.requires.fits c.append.ensures.any_moment

pub returns-in-Err-clause-any_moment : goal.returns-in-Err-clause-any_moment
returns-in-Err-clause-any_moment g c =
    append_leaves (g.D.Disk.history (disk_of c.args.journal.now)) (g.D.Disk.history (disk_of c.append.new.self)) (form_of c.args.journal.now) (size_of c.args.journal.now)
    c.args.past.now.history c.args.written.frame.now c.args.ready.entry (subst (λ (bytes : List ℕ). Spells Second bytes c.args.ready.entry) (sym c.requires.frame) c.requires.spells) c.requires.fits c.append.ensures.any_moment

pub returns-in-Ok-clause-yet : goal.returns-in-Ok-clause-yet
returns-in-Ok-clause-yet g c =
    append_yet (g.D.Disk.history (disk_of c.args.journal.now)) (g.D.Disk.history (disk_of c.append.new.self)) (form_of c.args.journal.now) (size_of c.args.journal.now) c.args.past.now.history c.append.ensures.last

pub returns-in-Err-clause-yet : goal.returns-in-Err-clause-yet
returns-in-Err-clause-yet g c =
    append_yet (g.D.Disk.history (disk_of c.args.journal.now)) (g.D.Disk.history (disk_of c.append.new.self)) (form_of c.args.journal.now) (size_of c.args.journal.now) c.args.past.now.history c.append.ensures.last

pub append-requires-clause-fits : goal.append-requires-clause-fits
append-requires-clause-fits g c =
    let long = ap length c.requires.frame ∙ c.requires.size in
    omega (arith, long, c.requires.fits)

pub returns-in-Ok-clause-size : goal.returns-in-Ok-clause-size
returns-in-Ok-clause-size g c =
    let long = ap length c.requires.frame ∙ c.requires.size in
    omega (arith, long, c.in-Ok.ensures.size)
