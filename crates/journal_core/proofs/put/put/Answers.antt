use Rattle.std.proofs.Common.{length}
use Rattle.journal_core.proofs.MomentFacts.{write_broken, sync_failed, put_done, put_moments, yet_broken, yet_unsynced, yet_put}
use Rattle.journal_core.proofs.put.put.Goals as goal

pub returns-in_err-write_at-clause-any_moment : goal.returns-in_err-write_at-clause-any_moment
returns-in_err-write_at-clause-any_moment g c = write_broken _ _ c.args.place (length c.args.bytes.now) c.requires.settled c.in_err-write_at.ensures.broken

pub returns-in_err-sync-clause-any_moment : goal.returns-in_err-sync-clause-any_moment
returns-in_err-sync-clause-any_moment g c =
    sync_failed _ _ _ c.args.place c.args.bytes.now c.requires.settled c.in_ok-write_at.ensures.written c.in_err-sync.ensures.same

pub returns-clause-any_moment : goal.returns-clause-any_moment
returns-clause-any_moment g c =
    put_moments _ _ _ c.args.place c.args.bytes.now c.requires.place c.requires.settled c.in_ok-write_at.ensures.written c.in_ok-sync.ensures.synced

pub returns-clause-done : goal.returns-clause-done
returns-clause-done g c = put_done _ _ _ c.args.place c.args.bytes.now c.in_ok-write_at.ensures.written c.in_ok-sync.ensures.synced

pub returns-in_err-write_at-clause-yet : goal.returns-in_err-write_at-clause-yet
returns-in_err-write_at-clause-yet g c = yet_broken _ _ c.args.place (length c.args.bytes.now) c.requires.settled c.in_err-write_at.ensures.broken

pub returns-in_err-sync-clause-yet : goal.returns-in_err-sync-clause-yet
returns-in_err-sync-clause-yet g c =
    yet_unsynced _ _ _ c.args.place c.args.bytes.now c.requires.settled c.in_ok-write_at.ensures.written c.in_err-sync.ensures.same

pub returns-clause-yet : goal.returns-clause-yet
returns-clause-yet g c = yet_put _ _ _ c.args.place c.args.bytes.now c.requires.settled c.in_ok-write_at.ensures.written c.in_ok-sync.ensures.synced
