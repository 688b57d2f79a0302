use Rattle.std.proofs.Common.{◌∙◌, length, ap, sym, subst, arith}
use Rattle.command_types.specs.declared.spelling.Spelling.{Spelling}
use Rattle.journal_core.specs.Journal.{disk_of, form_of, size_of}
use Rattle.house.specs.Storing.{StoresTurned, TurnsOnly, end_turned}
use Rattle.house.proofs.TurnFacts.{written_still, second_stored, full_stored, turned_stored, turned_leaves, is_full, has_turn_room, full_end, room_end}
use Rattle.house.proofs.turning.turned.Goals as goal

-- a journal in the second spelling stays as it is
pub returns-in-Second-clause-any_moment : goal.returns-in-Second-clause-any_moment
returns-in-Second-clause-any_moment g c = λ h written.
    let j = c.args.journal in written_still (g.D.Disk.history (disk_of j)) (form_of j) (size_of j) c.args.last h written

pub returns-in-Second-clause-stored : goal.returns-in-Second-clause-stored
returns-in-Second-clause-stored g c =
    let j = c.args.journal in
    let o = g.D.Disk.history (disk_of j) in
    subst (λ (s : Spelling). StoresTurned o j s o j) (sym c.in-Second.is) (second_stored o (form_of j) (size_of j))

pub returns-in-Second-clause-size : goal.returns-in-Second-clause-size
returns-in-Second-clause-size g c = sym (ap (λ (s : Spelling). end_turned s (size_of c.args.journal)) c.in-Second.is)

-- so does one that has no room
pub returns-then-not-fits-clause-any_moment : goal.returns-then-not-fits-clause-any_moment
returns-then-not-fits-clause-any_moment g c = λ h written.
    let j = c.args.journal in written_still (g.D.Disk.history (disk_of j)) (form_of j) (size_of j) c.args.last h written

pub returns-then-not-fits-clause-stored : goal.returns-then-not-fits-clause-stored
returns-then-not-fits-clause-stored g c =
    let j = c.args.journal in
    let o = g.D.Disk.history (disk_of j) in
    let full = is_full c.fits.result (size_of j) c.if-not-fits.true c.fits.ensures in
    subst (λ (s : Spelling). StoresTurned o j s o j) (sym c.in-First.is) (λ h written. full_stored o (form_of j) (size_of j) h full written)

pub returns-then-not-fits-clause-size : goal.returns-then-not-fits-clause-size
returns-then-not-fits-clause-size g c =
    let j = c.args.journal in
    let full = is_full c.fits.result (size_of j) c.if-not-fits.true c.fits.ensures in
    sym (ap (λ (s : Spelling). end_turned s (size_of j)) c.in-First.is ∙ full_end (size_of j) full)

-- and another one is turned
pub append-requires-clause-fits : goal.append-requires-clause-fits
append-requires-clause-fits g c =
    let room = has_turn_room c.fits.result (size_of c.args.journal) c.if-not-fits.false c.fits.ensures in
    omega (arith, room, ap length c.requires.turn)

pub returns-in-Ok-clause-any_moment : goal.returns-in-Ok-clause-any_moment
returns-in-Ok-clause-any_moment g c =
    let j = c.args.journal in
    let o = g.D.Disk.history (disk_of j) in
    let new = g.D.Disk.history (disk_of c.append.new.self) in
    subst (λ (s : Spelling). TurnsOnly o j s new) (sym c.in-First.is) (λ h written. turned_leaves o new (form_of j) (size_of j) h c.args.turn.now c.requires.turn c.append.ensures.any_moment written)

pub returns-in-Ok-clause-stored : goal.returns-in-Ok-clause-stored
returns-in-Ok-clause-stored g c =
    let j = c.args.journal in
    let k = c.append.new.self in
    let o = g.D.Disk.history (disk_of j) in
    let new = g.D.Disk.history (disk_of k) in
    subst (λ (s : Spelling). StoresTurned o j s new k) (sym c.in-First.is)
    (λ h written. turned_stored o new (form_of j) (form_of k) (size_of j) (size_of k) h c.args.turn.now c.requires.turn c.append.ensures.form c.append.ensures.any_moment c.in-Ok.ensures.done written)

pub returns-in-Ok-clause-size : goal.returns-in-Ok-clause-size
returns-in-Ok-clause-size g c =
    let j = c.args.journal in
    let room = has_turn_room c.fits.result (size_of j) c.if-not-fits.false c.fits.ensures in
    let here = ap (λ (s : Spelling). end_turned s (size_of j)) c.in-First.is ∙ room_end (size_of j) room in
    omega (arith, here, c.in-Ok.ensures.size, ap length c.requires.turn)

pub returns-in-Err-clause-any_moment_failed : goal.returns-in-Err-clause-any_moment_failed
returns-in-Err-clause-any_moment_failed g c =
    let j = c.args.journal in
    let o = g.D.Disk.history (disk_of j) in
    let new = g.D.Disk.history (disk_of c.append.new.self) in
    subst (λ d. TurnsOnly o j c.args.last (g.D.Disk.history d)) (sym c.end.ensures)
    (subst (λ (s : Spelling). TurnsOnly o j s new) (sym c.in-First.is) (λ h written. turned_leaves o new (form_of j) (size_of j) h c.args.turn.now c.requires.turn c.append.ensures.any_moment written))
