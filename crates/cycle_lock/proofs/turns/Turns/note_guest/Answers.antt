use Rattle.std.proofs.Common.{rules, ◌≤◌, ap, sym, subst, ◌∙◌}
use Rattle.cycle_lock.specs.Home.{of_desk}
use Rattle.cycle_lock.specs.Accounts.{times}
use Rattle.cycle_lock.specs.Views.{account_of}
use Rattle.cycle_lock.proofs.Calls.{rested}
use Rattle.cycle_lock.proofs.Guests.{takes_in, notes_guest, lets_out, adds_serving, beside}
use Rattle.cycle_lock.proofs.Fitting.{stands_for}
use Rattle.cycle_lock.proofs.turns.Turns.note_guest.Goals as goal

pub join_seat-requires : goal.join_seat-requires
join_seat-requires g c = let p = c.args.pass in
    let is = rested p.badge.views _ c.into_seat.result.me.0 p.rests (λ i. p.badge.views) c.into_seat.ensures.2 in
    (search rules, search rules, search rules, search rules, takes_in (of_desk g.T.Desk.history) (of_desk g.T.Desk.figures) (of_desk g.T.Desk.stopped) _ _ _ _ _ _ c.requires.turn.0 c.requires.turn.1 is (stands_for p.number (account_of p.badge.views).stands p.mine))

pub fetch_add-requires : goal.fetch_add-requires
fetch_add-requires g c = let p = c.args.pass in let n = c.requires.next in let h = c.join_seat.ensures.2 in
    let is = rested p.badge.views _ c.into_seat.result.me.0 p.rests (λ i. p.badge.views) c.into_seat.ensures.2 in (
      search rules,
      search rules,
      notes_guest (of_desk g.T.Desk.history) (of_desk g.T.Desk.figures) (of_desk g.T.Desk.stopped) _ _ _ c.join_seat.new.seat.me g.M.Next.next n.0 n.1 n.2 _ n.3 (ap (λ m. m.0.stage) h) (ap (λ m. m.0.account.spent) h ∙ c.requires.turn.1) n.4
          (adds_serving c.args.seat.now.me.0 c.into_seat.result.me.0 c.join_seat.new.seat.me.0 (account_of p.badge.views) n.2 n.0 n.1 is (ap (λ m. m.0) h) n.5),
    )

pub split_seat-guest-requires : goal.split_seat-guest-requires
split_seat-guest-requires g c = let h = c.join_seat.ensures.2 in let t = c.fetch_add.ensures.2 in (
  search rules,
  search rules,
  lets_out (of_desk g.T.Desk.history) (of_desk g.T.Desk.figures) (of_desk g.T.Desk.stopped) _ _ c.fetch_add.new.seat.me.0 (ap (λ m. m.0.stage) t.6 ∙ ap (λ m. m.0.stage) h) (ap (λ m. m.0.account.spent) t.6 ∙ (ap (λ m. m.0.account.spent) h ∙ c.requires.turn.1))
      (subst (λ m. 1 ≤ times m.0.guest.number m.0.guest.stands) (sym t.6) t.4.mine),
)

pub returns-clause-noted : goal.returns-clause-noted
returns-clause-noted g c = let p = c.args.pass in let s = c.split_seat-guest.ensures in
    let is = rested p.badge.views _ c.into_seat.result.me.0 p.rests (λ i. p.badge.views) c.into_seat.ensures.2 in
    beside g.M.Next.next c.args.seat.now.me c.join_seat.new.seat.me c.fetch_add.new.seat.me c.split_seat-guest.new.seat.me c.into_seat.result.me.0 (account_of p.badge.views) (account_of c.into_badge.result.views) is c.join_seat.ensures.2 c.fetch_add.ensures.2 s.2
    (ap account_of c.into_badge.ensures.2 ∙ ap (λ m. m.0.account) s.4)
