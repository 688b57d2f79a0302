use Rattle.cycle_lock.specs.Home.{of_desk}
use Rattle.std.proofs.Common.{rules, ◌∙◌, ◌≡◌, ◌≤◌, ℕ, List, [], ◌∷◌, Some, sym, ap, subst, ◌++◌, drop, take, refl, arith}
use Rattle.std.proofs.lemmas.List.{append-nil}
use Rattle.std.specs.Prelude.{vec_len}
use Rattle.atomic_table.specs.Table.{rest}
use Rattle.command_types.specs.InTurn.{all_recorded}
use Rattle.command_types.specs.declared.ask.Entry.{Entry}
use Rattle.cycle_lock.specs.Accounts.{by, times, opening_count}
use Rattle.cycle_lock.specs.Views.{account_of}
use Rattle.cycle_lock.proofs.Joins.{made_later}
use Rattle.cycle_lock.proofs.Histories.{continues}
use Rattle.cycle_lock.proofs.Owners.{AreOf, front_of, by_self, by_others, grown_in_turn, stays_in_turn}
use Rattle.cycle_lock.proofs.Steps.{seen_after}
use Rattle.cycle_lock.proofs.Calls.{rested, becomes, grown_by, called, asked_behind, told_all_of, Called}
use Rattle.cycle_lock.proofs.turns.Turns.call_all.Given.{Over}
use Rattle.cycle_lock.proofs.turns.Turns.call_all.Goals as goal

pub slot_mut-requires : goal.slot_mut-requires
slot_mut-requires g c = let t = c.enter.ensures.took.2 in (search rules, (Some t.0, t.1 ∙ (λ i. (0, Some t.0) ∷ sym (ap rest t.1) i)))

pub overflow_sub-at : goal.overflow_sub-at
overflow_sub-at g c = let grown = grown_by _ _ _ _ _ c.length-before.ensures.length c.length-at.ensures.length (grown_in_turn _ _ _ _ _ _ _ c.ask_all.ensures.told) in omega (arith, grown)

pub note-requires-clause-desk : goal.note-requires-clause-desk
note-requires-clause-desk g c κs within =
    let p = c.args.pass.now in let ask = c.ask_all.ensures in let d' = c.ask_all.new.self in let slots = rest c.enter.new.seat.me.1 in
    let is = rested p.badge.views _ c.into_seat-seat.result.me.0 p.rests (ap (λ b. b.views) c.replace.ensures.value) c.into_seat-seat.ensures.2 in
    let from : c.enter.new.seat.me.0.account ≡ account_of p.badge.views = c.enter.ensures.same ∙ ap (λ v. v.account) is in
    let alone : slots ≡ [] = ap rest c.enter.ensures.took.2.1 ∙ c.into_seat-seat.ensures.3 in
    let here : c.enter.new.seat.me.1 ≡ (0, Some c.in-Some.home) ∷ slots = c.slot_mut.ensures.value ∙ ap (λ o. (0, o) ∷ slots) c.in-Some.is in
    let n : ℕ = vec_len c.ask_all.new.replies in
    let added : List Entry = all_recorded (take n c.args.commands.now) c.ask_all.new.replies.items in
    let number : p.number ≡ c.enter.new.seat.me.0.account.number = sym (ap (λ a. a.number) from ∙ p.numbered) in
    let grows = grown_in_turn _ _ _ _ _ _ _ ask.told in
    let grown = grown_by _ _ added _ _ c.length-before.ensures.length c.length-at.ensures.length grows in record {
      desk = d';
      more = added;
      count = omega (arith, grown);
      slot = ap (λ l. (0, Some d') ∷ l) alone;
      has = refl;
      stops = refl;
      becomes = becomes (of_desk g.T.Desk.history) (of_desk g.T.Desk.figures) (of_desk g.T.Desk.stopped) c.enter.new.seat.me (c.enter.new.seat.me.0, slots) _ _ _ c.in-Some.home d' added c.enter.ensures.took here refl (ap (λ a. a.spent) from ∙ p.live)
          (subst (λ (k : ℕ). AreOf k added) number (front_of p.number n c.args.commands.now c.ask_all.new.replies.items c.requires.seats)) grows ask.legal ask.short (stays_in_turn _ _ _ _ _ _ _ ask.told);
    }

pub pass_on-requires-clause-turn : goal.pass_on-requires-clause-turn
pass_on-requires-clause-turn g c κs within =
    let p = c.args.pass.now in let noted = c.note.ensures.noted in
    let is = rested p.badge.views _ c.into_seat-seat.result.me.0 p.rests (ap (λ b. b.views) c.replace.ensures.value) c.into_seat-seat.ensures.2 in
    (noted.0, ap (λ a. a.spent) noted.3 ∙ (ap (λ a. a.spent) c.enter.ensures.same ∙ (ap (λ v. v.account.spent) is ∙ p.live)))

pub pass_on-requires-clause-home : goal.pass_on-requires-clause-home
pass_on-requires-clause-home g c κs within =
    let d' = c.ask_all.new.self in let slots = rest c.enter.new.seat.me.1 in let noted = c.note.ensures.noted in
    let alone : slots ≡ [] = ap rest c.enter.ensures.took.2.1 ∙ c.into_seat-seat.ensures.3 in
    let here : c.enter.new.seat.me.1 ≡ (0, Some c.in-Some.home) ∷ slots = c.slot_mut.ensures.value ∙ ap (λ o. (0, o) ∷ slots) c.in-Some.is in (
      d',
      noted.4 ∙ ap (λ l. (0, Some d') ∷ l) alone,
      seen_after (of_desk g.T.Desk.history) (of_desk g.T.Desk.figures) (of_desk g.T.Desk.stopped) (g.T.Desk.figures c.in-Some.home.desk) _ _ _ c.enter.new.seat.me (c.enter.new.seat.me.0, (0, Some d') ∷ slots) c.note.new.seat.me c.in-Some.home d' c.enter.ensures.took here refl c.ask_all.ensures.figures c.ask_all.ensures.base noted,
    )

-- what is recorded of the front that was answered
abbrev added_in : (g : Over) → goal.After-pass-1 g → List Entry
added_in g c = all_recorded (take (vec_len c.ask_all.new.replies) c.args.commands.now) c.ask_all.new.replies.items

-- what the call has done
done : (g : Over) (c : goal.After-pass-1 g)
    → Called (account_of c.args.pass.now.badge.views) (account_of c.into_badge.result.views) (g.T.Desk.figures c.in-Some.home.desk) (g.T.Desk.history c.ask_all.new.self.desk)
    (g.T.Desk.stopped c.in-Some.home.desk) (g.T.Desk.stopped c.ask_all.new.self.desk) (added_in g c)
done g c =
    let p = c.args.pass.now in let d' = c.ask_all.new.self in let slots = rest c.enter.new.seat.me.1 in
    let is = rested p.badge.views _ c.into_seat-seat.result.me.0 p.rests (ap (λ b. b.views) c.replace.ensures.value) c.into_seat-seat.ensures.2 in
    let from : c.enter.new.seat.me.0.account ≡ account_of p.badge.views = c.enter.ensures.same ∙ ap (λ v. v.account) is in
    let here : c.enter.new.seat.me.1 ≡ (0, Some c.in-Some.home) ∷ slots = c.slot_mut.ensures.value ∙ ap (λ o. (0, o) ∷ slots) c.in-Some.is in
    called (of_desk g.T.Desk.history) (of_desk g.T.Desk.figures) (of_desk g.T.Desk.stopped) (account_of p.badge.views) c.enter.new.seat.me (c.enter.new.seat.me.0, (0, Some d') ∷ slots) c.note.new.seat.me
    _ _ _ c.into_badge.result.views c.in-Some.home d' _ from c.enter.ensures.took here refl (grown_in_turn _ _ _ _ _ _ _ c.ask_all.ensures.told) c.note.ensures.noted
    (c.into_badge.ensures.2 ∙ ap (λ m. m.0 ∷ []) c.pass_on.ensures.rests)

pub returns-clause-seen : goal.returns-clause-seen
returns-clause-seen g c = let t = done g c in continues _ _ _ _ t.figures t.extends

pub returns-clause-told : goal.returns-clause-told
returns-clause-told g c =
    let p = c.args.pass.now in let t = done g c in let slots = rest c.enter.new.seat.me.1 in
    let is = rested p.badge.views _ c.into_seat-seat.result.me.0 p.rests (ap (λ b. b.views) c.replace.ensures.value) c.into_seat-seat.ensures.2 in
    let here : c.enter.new.seat.me.1 ≡ (0, Some c.in-Some.home) ∷ slots = c.slot_mut.ensures.value ∙ ap (λ o. (0, o) ∷ slots) c.in-Some.is in
    record {
      from = g.T.Desk.history c.in-Some.home.desk;
      before = g.T.Desk.stopped c.in-Some.home.desk;
      goes_on = asked_behind (of_desk g.T.Desk.history) (of_desk g.T.Desk.figures) (of_desk g.T.Desk.stopped) (account_of p.badge.views) c.enter.new.seat.me _ _ c.in-Some.home (c.enter.ensures.same ∙ ap (λ v. v.account) is) c.enter.ensures.took here;
      knew = t.halted;
      told = told_all_of _ _ _ _ _ _ _ _ t _ _ c.ask_all.ensures.told;
    }

-- all that was added is the pass's own
own : (g : Over) (c : goal.After-pass-1 g) → AreOf c.args.pass.now.number (added_in g c)
own g c = front_of c.args.pass.now.number (vec_len c.ask_all.new.replies) c.args.commands.now c.ask_all.new.replies.items c.requires.seats

made_more : (g : Over) (c : goal.After-pass-1 g) → let a = account_of c.args.pass.now.badge.views in let a' = account_of c.into_badge.result.views in
    by c.args.pass.now.number (drop (opening_count a'.figures) a'.seen) ≡ by c.args.pass.now.number (drop (opening_count a.figures) a.seen) ++ added_in g c
made_more g c =
    let p = c.args.pass.now in let a = account_of p.badge.views in let t = done g c in
    t.made p.number (subst (λ (n : ℕ). 1 ≤ times n a.stands) p.numbered t.mine)
    ∙ ap (λ (x : List Entry). by p.number (drop (opening_count a.figures) a.seen) ++ x) (by_self p.number _ (own g c))

pub returns-clause-made : goal.returns-clause-made
returns-clause-made g c = made_more g c

pub returns-clause-others : goal.returns-clause-others
returns-clause-others g c =
    let p = c.args.pass.now in let a = account_of p.badge.views in let t = done g c in
    λ n stands ne. t.made n stands ∙ (ap (λ (x : List Entry). by n (drop (opening_count a.figures) a.seen) ++ x) (by_others n p.number _ (own g c) ne) ∙ append-nil _)

pub returns-clause-later : goal.returns-clause-later
returns-clause-later g c =
    let p = c.args.pass.now in let a = account_of p.badge.views in let t = done g c in
    made_later a.figures _ p.number a.seen _ _ t.figures (omega (arith, p.opened, p.place)) t.extends (made_more g c)
