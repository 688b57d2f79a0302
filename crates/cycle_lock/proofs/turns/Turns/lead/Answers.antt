use Rattle.std.proofs.Common.{◌≡◌, ap, sym, refl, subst, ◌∙◌}
use Rattle.cycle_lock.specs.Home.{of_desk}
use Rattle.cycle_lock.specs.Plays.{Took}
use Rattle.cycle_lock.specs.Turn.{IsNoted}
use Rattle.cycle_lock.specs.Views.{account_of}
use Rattle.cycle_lock.proofs.Calls.{rested}
use Rattle.cycle_lock.proofs.Own.{noted_call}
use Rattle.cycle_lock.proofs.turns.Turns.lead.Goals as goal

pub lead_turn-reply-requires-clause-took : goal.lead_turn-reply-requires-clause-took
lead_turn-reply-requires-clause-took g c κs within =
    subst (λ slots. Took (of_desk g.T.Desk.history) (of_desk g.T.Desk.figures) (of_desk g.T.Desk.stopped) slots c.enter.new.seat.me) c.into_seat-seat.ensures.3 c.enter.ensures.took

pub pass_on-requires-clause-turn : goal.pass_on-requires-clause-turn
pass_on-requires-clause-turn g c κs within =
    let p = c.args.pass.now in
    let is = rested p.badge.views _ c.into_seat-seat.result.me.0 p.rests (ap (λ b. b.views) c.replace.ensures.value) c.into_seat-seat.ensures.2 in
    let live = ap (λ a. a.spent) c.enter.ensures.same ∙ (ap (λ v. v.account.spent) is ∙ p.live) in
    (c.lead_turn-reply.ensures.turn, ap (λ a. a.spent) c.lead_turn-reply.ensures.noted.is ∙ live)

pub returns : goal.returns
returns g c =
    let p = c.args.pass.now in
    let is = rested p.badge.views _ c.into_seat-seat.result.me.0 p.rests (ap (λ b. b.views) c.replace.ensures.value) c.into_seat-seat.ensures.2 in
    let to : account_of c.into_badge.result.views ≡ c.lead_turn-reply.new.seat.me.0.account = ap account_of c.into_badge.ensures.2 ∙ ap (λ m. m.0.account) c.pass_on.ensures.rests in
    record {
      called = noted_call p _ c.enter.new.seat.me.0 c.args.ask c.lead_turn-reply.result.0 (c.enter.ensures.same ∙ ap (λ v. v.account) is) c.enter.ensures.took.1
          (subst (λ a. IsNoted c.enter.new.seat.me.0 record { seat = p.number; ask = c.args.ask } c.lead_turn-reply.result.0 a) (sym to) c.lead_turn-reply.ensures.noted) refl
          (c.into_badge.ensures.0 ∙ (c.pass_on.ensures.own.0 ∙ (c.lead_turn-reply.ensures.own.0 ∙ (c.enter.ensures.own.0 ∙ (c.into_seat-seat.ensures.0 ∙ ap (λ b. b.table_id) c.replace.ensures.value)))));
    }
