use Rattle.cycle_lock.specs.Home.{of_desk}
use Rattle.std.proofs.Common.{rules, arith, ap, sym, subst, ◌∙◌, ◌≡◌, ◌≤◌}
use Rattle.cycle_lock.proofs.Histories.{continues}
use Rattle.cycle_lock.specs.Accounts.{times}
use Rattle.cycle_lock.specs.Views.{account_of}
use Rattle.cycle_lock.proofs.Numbers.{times-append}
use Rattle.cycle_lock.proofs.Fitting.{stands_for}
use Rattle.cycle_lock.proofs.Shares.{joins, settles}
use Rattle.cycle_lock.proofs.Calls.{rested, takes_host, takes_guest}
use Rattle.cycle_lock.proofs.turns.Turns.join.Goals as goal

pub join_seat-requires : goal.join_seat-requires
join_seat-requires g c = let p = c.args.pass.now in let q = c.args.other in
    let is = rested p.badge.views _ c.into_seat-seat.result.me.0 p.rests (ap (λ b. b.views) c.replace.ensures.value) c.into_seat-seat.ensures.2 in
    let is' = rested q.badge.views _ c.into_seat.result.me.0 q.rests (λ i. q.badge.views) c.into_seat.ensures.2 in
    (search rules, search rules, search rules, search rules, joins (of_desk g.T.Desk.history) (of_desk g.T.Desk.figures) (of_desk g.T.Desk.stopped) _ _ _ _ _ _ _ is is' (stands_for p.number (account_of p.badge.views).stands p.mine) (stands_for q.number (account_of q.badge.views).stands q.mine))

pub load-pass-requires : goal.load-pass-requires
load-pass-requires g c = let p = c.args.pass.now in let q = c.args.other in
    let is = rested p.badge.views _ c.into_seat-seat.result.me.0 p.rests (ap (λ b. b.views) c.replace.ensures.value) c.into_seat-seat.ensures.2 in
    let is' = rested q.badge.views _ c.into_seat.result.me.0 q.rests (λ i. q.badge.views) c.into_seat.ensures.2 in
    let h = ap (λ m. m.0) c.join_seat.ensures.2 in
    (search rules, search rules, settles (of_desk g.T.Desk.history) (of_desk g.T.Desk.figures) (of_desk g.T.Desk.stopped) _ _ _ _ (ap (λ v. v.stage) h) (ap (λ v. v.ticket) h) (ap (λ v. v.account.spent) h ∙ (ap (λ v. v.account.spent) is ∙ p.live)) (ap (λ v. v.guest.spent) h ∙ (ap (λ v. v.account.spent) is' ∙ q.live)))

pub returns-clause-old : goal.returns-clause-old
returns-clause-old g c =
    let p = c.args.pass.now in let q = c.args.other in
    let is = rested p.badge.views _ c.into_seat-seat.result.me.0 p.rests (ap (λ b. b.views) c.replace.ensures.value) c.into_seat-seat.ensures.2 in
    let is' = rested q.badge.views _ c.into_seat.result.me.0 q.rests (λ i. q.badge.views) c.into_seat.ensures.2 in
    let h = ap (λ m. m.0) c.join_seat.ensures.2 in
    let x = account_of c.into_badge.result.views in
    let to = ap account_of c.into_badge.ensures.2 ∙ ap (λ v. v.account) c.load-pass.ensures.2.0 in
    let own : c.join_seat.new.seat.me.0.account ≡ account_of p.badge.views = ap (λ v. v.account) h ∙ ap (λ v. v.account) is in
    let t = takes_host c.join_seat.new.seat.me c.load-pass.new.seat.me x (account_of p.badge.views) c.load-pass.ensures.2 to own in
    record { seen_too = continues _ _ _ _ (ap (λ a. a.figures) to ∙ ap (λ a. a.figures) own) t.0; stands_too = λ n h. (t.1 n h).0; same_entries = λ n h. (t.1 n h).1; stop_too = t.2 }

pub returns-clause-other : goal.returns-clause-other
returns-clause-other g c =
    let p = c.args.pass.now in let q = c.args.other in
    let is = rested p.badge.views _ c.into_seat-seat.result.me.0 p.rests (ap (λ b. b.views) c.replace.ensures.value) c.into_seat-seat.ensures.2 in
    let is' = rested q.badge.views _ c.into_seat.result.me.0 q.rests (λ i. q.badge.views) c.into_seat.ensures.2 in
    let h = ap (λ m. m.0) c.join_seat.ensures.2 in
    let x = account_of c.into_badge.result.views in
    let to = ap account_of c.into_badge.ensures.2 ∙ ap (λ v. v.account) c.load-pass.ensures.2.0 in
    let own : c.join_seat.new.seat.me.0.guest ≡ account_of q.badge.views = ap (λ v. v.guest) h ∙ ap (λ v. v.account) is' in
    let t = takes_guest c.join_seat.new.seat.me c.load-pass.new.seat.me x (account_of q.badge.views) c.load-pass.ensures.2 to own in
    record { seen_too = continues _ _ _ _ (ap (λ a. a.figures) to ∙ (sym c.load-pass.ensures.2.2 ∙ ap (λ a. a.figures) own)) t.0; stands_too = λ n h. (t.1 n h).0; same_entries = λ n h. (t.1 n h).1; stop_too = t.2 }

pub invariant_of-pass-clause-mine : goal.invariant_of-pass-clause-mine
invariant_of-pass-clause-mine g c =
    let p = c.args.pass.now in
    let is = rested p.badge.views _ c.into_seat-seat.result.me.0 p.rests (ap (λ b. b.views) c.replace.ensures.value) c.into_seat-seat.ensures.2 in
    let h = ap (λ m. m.0) c.join_seat.ensures.2 in
    let to = ap account_of c.into_badge.ensures.2 ∙ ap (λ v. v.account) c.load-pass.ensures.2.0 in
    let own : c.join_seat.new.seat.me.0.account ≡ account_of p.badge.views = ap (λ v. v.account) h ∙ ap (λ v. v.account) is in
    let first : 1 ≤ times p.number c.join_seat.new.seat.me.0.account.stands = subst (λ a. 1 ≤ times p.number a.stands) (sym own) p.mine in
    subst (λ a. 1 ≤ times p.number a.stands) (sym to) (omega (arith, times-append p.number c.join_seat.new.seat.me.0.account.stands c.join_seat.new.seat.me.0.guest.stands))
