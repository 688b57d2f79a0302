use Rattle.std.proofs.Common.{◌≡◌, All, map, vec_len}
use Rattle.publication_list.specs.Tokens.{IsServerOf, claims}
use Rattle.cycle_lock.specs.declared.errands.Errand.{Errand}
use Rattle.cycle_lock.specs.Errands.{command_of, pass_of}
use Rattle.cycle_lock.specs.Passes.{lock_of}
use Rattle.cycle_lock.specs.Turn.{IsAhead}
use Rattle.cycle_lock.proofs.turns.Turns.serve_all.Given as goal

abbrev pub invariant-loop-seat : goal.invariant-loop-seat
invariant-loop-seat g l = (l.seat.table_id ≡ l.initial.seat.table_id) × (l.seat.id ≡ l.initial.seat.id) × IsServerOf l.list l.clerk × (l.seat.me.0.account ≡ l.initial.seat.me.0.account)
    × All (λ (e : Errand). lock_of e.pass ≡ l.self.table.shared.table_id) (claims l.clerk)
    × IsAhead g.T.Desk.history g.T.Desk.figures g.T.Desk.stopped l.seat.me l.home (map command_of (claims l.clerk)) (map pass_of (claims l.clerk))

abbrev pub decreases-loop-seat : goal.decreases-loop-seat
decreases-loop-seat g l = vec_len l.home.batch.passes
