use Rattle.cycle_lock.specs.Home.{of_desk}
use Rattle.std.proofs.Common.{rules, arith, sym, ap, ◌∙◌, ◌≡◌}
use Rattle.cycle_lock.specs.Views.{resting, account_of}
use Rattle.cycle_lock.proofs.Shares.{draws_number, splits}
use Rattle.cycle_lock.proofs.Calls.{rested}
use Rattle.cycle_lock.proofs.turns.Turns.split.Goals as goal

pub fetch_add-number-requires : goal.fetch_add-number-requires
fetch_add-number-requires g c = let p = c.args.pass.now in let v = c.into_seat-seat.result.me.0 in
    let is = rested p.badge.views _ v p.rests (ap (λ b. b.views) c.replace.ensures.value) c.into_seat-seat.ensures.2 in
    let acc : v.account ≡ account_of p.badge.views = ap (λ w. w.account) is in
    (search rules, search rules, draws_number (of_desk g.T.Desk.history) (of_desk g.T.Desk.figures) (of_desk g.T.Desk.stopped) _ _ _ _ (is ∙ ap resting (sym acc)) (ap (λ a. a.spent) acc ∙ p.live) (let l = ap (λ a. a.left) acc in let m = c.requires.left in omega arith))

pub split_seat-child-requires : goal.split_seat-child-requires
split_seat-child-requires g c = let t = c.fetch_add-number.ensures.2 in (search rules, search rules, splits (of_desk g.T.Desk.history) (of_desk g.T.Desk.figures) (of_desk g.T.Desk.stopped) _ _ _ _ _ t.0 t.4)
