use Rattle.std.proofs.Common.{◌≡◌, ◌+◌, ◌≤◌, ◌∙◌, [], ◌∷◌, true, is_some, length, take, ap, sym, arith}
use Rattle.command_types.specs.declared.ask.Entry.{Entry}
use Rattle.command_types.specs.Told.{is_accept}
use Rattle.journal_core.specs.Journal.{disk_of, form_of, size_of}
use Rattle.journal_core.proofs.MomentFacts.{yet_none}
use Rattle.recovery.specs.StandsFor.{StandsFor}
use Rattle.house.proofs.StoringFacts.{still, stored_as}
use Rattle.house.proofs.VoteFacts.{take_few, vote_fits, votes_left}
use Rattle.house.proofs.storing.store.Goals as goal

pub returns-in_err-bytes-clause-any_moment : goal.returns-in_err-bytes-clause-any_moment
returns-in_err-bytes-clause-any_moment g c = λ stored.
    still (g.D.Disk.history (disk_of c.args.journal.now)) (size_of c.args.journal.now) c.args.past.now.history (c.args.ready.entry ∷ [])
    (stored_as (g.D.Disk.history (disk_of c.args.journal.now)) (form_of c.args.journal.now) (size_of c.args.journal.now) c.args.past.now.history stored)

pub returns-in_err-frame-clause-any_moment : goal.returns-in_err-frame-clause-any_moment
returns-in_err-frame-clause-any_moment g c = λ stored.
    still (g.D.Disk.history (disk_of c.args.journal.now)) (size_of c.args.journal.now) c.args.past.now.history (c.args.ready.entry ∷ [])
    (stored_as (g.D.Disk.history (disk_of c.args.journal.now)) (form_of c.args.journal.now) (size_of c.args.journal.now) c.args.past.now.history stored)

pub returns-in_err-make_room-clause-any_moment : goal.returns-in_err-make_room-clause-any_moment
returns-in_err-make_room-clause-any_moment g c = λ stored.
    still (g.D.Disk.history (disk_of c.args.journal.now)) (size_of c.args.journal.now) c.args.past.now.history (c.args.ready.entry ∷ [])
    (stored_as (g.D.Disk.history (disk_of c.args.journal.now)) (form_of c.args.journal.now) (size_of c.args.journal.now) c.args.past.now.history stored)

pub returns-in_err-bytes-clause-yet : goal.returns-in_err-bytes-clause-yet
returns-in_err-bytes-clause-yet g c = λ stored. yet_none (g.D.Disk.history (disk_of c.args.journal.now)) (λ image. StandsFor image c.args.past.now.history)

pub returns-in_err-frame-clause-yet : goal.returns-in_err-frame-clause-yet
returns-in_err-frame-clause-yet g c = λ stored. yet_none (g.D.Disk.history (disk_of c.args.journal.now)) (λ image. StandsFor image c.args.past.now.history)

pub returns-in_err-make_room-clause-yet : goal.returns-in_err-make_room-clause-yet
returns-in_err-make_room-clause-yet g c = λ stored. yet_none (g.D.Disk.history (disk_of c.args.journal.now)) (λ image. StandsFor image c.args.past.now.history)

pub write-requires-clause-room : goal.write-requires-clause-room
write-requires-clause-room g c =
    let bytes = take c.in-Some.end c.short_record.new.into in
    let vote : is_accept c.args.ready.entry.ask.what ≡ true = sym (c.short_record.ensures.vote ∙ ap (λ (e : Entry). is_accept e.ask.what) c.entry.ensures) ∙ ap is_some c.in-Some.is in
    let few : 5 + length bytes ≤ 51 = omega (arith, take_few c.in-Some.end c.short_record.new.into, c.in-Some.ensures.short) in
    vote_fits c.args.machine.now c.args.ready c.args.past.now.history c.args.past.now.room c.requires.may c.requires.replayed c.has_vote_room.ensures vote (5 + length bytes) few

pub write-requires-clause-votes : goal.write-requires-clause-votes
write-requires-clause-votes g c =
    let bytes = take c.in-Some.end c.short_record.new.into in
    let vote : is_accept c.args.ready.entry.ask.what ≡ true = sym (c.short_record.ensures.vote ∙ ap (λ (e : Entry). is_accept e.ask.what) c.entry.ensures) ∙ ap is_some c.in-Some.is in
    let few : 5 + length bytes ≤ 51 = omega (arith, take_few c.in-Some.end c.short_record.new.into, c.in-Some.ensures.short) in
    votes_left c.args.machine.now c.args.ready c.args.past.now.history c.args.past.now.room c.requires.may c.requires.replayed c.has_vote_room.ensures vote (5 + length bytes) few
