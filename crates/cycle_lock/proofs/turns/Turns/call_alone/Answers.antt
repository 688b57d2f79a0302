use Rattle.cycle_lock.specs.Home.{of_desk}
use Rattle.std.proofs.Common.{rules, ◌∙◌, ◌≡◌, List, [], ◌∷◌, Some, sym, ap, subst, ◌++◌, drop, refl, arith}
use Rattle.atomic_table.specs.Table.{rest}
use Rattle.command_types.specs.History.{recorded, IsLegal, end_of}
use Rattle.command_types.specs.declared.ask.Entry.{Entry}
use Rattle.cycle_lock.specs.Accounts.{by, opening_count}
use Rattle.cycle_lock.specs.Views.{account_of}
use Rattle.std.proofs.lemmas.List.{append-nil}
use Rattle.cycle_lock.proofs.Histories.{continues}
use Rattle.cycle_lock.proofs.Joins.{made_later}
use Rattle.command_types.proofs.StopFacts.{told_stop}
use Rattle.cycle_lock.proofs.Steps.{seen_after}
use Rattle.cycle_lock.proofs.Owners.{by_self, by_others, recorded_of}
use Rattle.cycle_lock.proofs.Calls.{rested, becomes, grown_by, called, told_of, Called}
use Rattle.cycle_lock.proofs.turns.Turns.call_alone.Goals as goal

pub slot_mut-requires : goal.slot_mut-requires
slot_mut-requires g c = let t = c.enter.ensures.took.2 in (search rules, (Some t.0, t.1 ∙ (λ i. (0, Some t.0) ∷ sym (ap rest t.1) i)))

pub note-requires-clause-desk : goal.note-requires-clause-desk
note-requires-clause-desk g c κs within =
    let p = c.args.pass.now in let ask = c.ask-reply.ensures in let d' = c.ask-reply.new.self in let slots = rest c.enter.new.seat.me.1 in
    let is = rested p.badge.views _ c.into_seat-seat.result.me.0 p.rests (ap (λ b. b.views) c.replace.ensures.value) c.into_seat-seat.ensures.2 in
    let from : c.enter.new.seat.me.0.account ≡ account_of p.badge.views = c.enter.ensures.same ∙ ap (λ v. v.account) is in
    let alone : slots ≡ [] = ap rest c.enter.ensures.took.2.1 ∙ c.into_seat-seat.ensures.3 in
    let here : c.enter.new.seat.me.1 ≡ (0, Some c.in-Some.home) ∷ slots = c.slot_mut.ensures.value ∙ ap (λ o. (0, o) ∷ slots) c.in-Some.is in
    let added : List Entry = recorded p.number c.args.ask c.ask-reply.result.answer in
    let grown = grown_by _ _ added _ _ c.length-before.ensures.length ask.place ask.grows in record {
      desk = d';
      more = added;
      count = omega (arith, grown);
      slot = ap (λ l. (0, Some d') ∷ l) alone;
      has = refl;
      stops = refl;
      becomes = becomes (of_desk g.T.Desk.history) (of_desk g.T.Desk.figures) (of_desk g.T.Desk.stopped) c.enter.new.seat.me (c.enter.new.seat.me.0, slots) _ _ _ c.in-Some.home d' added c.enter.ensures.took here refl (ap (λ a. a.spent) from ∙ p.live)
          (recorded_of p.number c.enter.new.seat.me.0.account.number c.args.ask c.ask-reply.result.answer (sym (ap (λ a. a.number) from ∙ p.numbered))) ask.grows ask.legal ask.short ask.stays;
    }

pub pass_on-requires-clause-turn : goal.pass_on-requires-clause-turn
pass_on-requires-clause-turn g c κs within =
    let p = c.args.pass.now in let noted = c.note.ensures.noted in
    let is = rested p.badge.views _ c.into_seat-seat.result.me.0 p.rests (ap (λ b. b.views) c.replace.ensures.value) c.into_seat-seat.ensures.2 in
    (noted.0, ap (λ a. a.spent) noted.3 ∙ (ap (λ a. a.spent) c.enter.ensures.same ∙ (ap (λ v. v.account.spent) is ∙ p.live)))

pub pass_on-requires-clause-home : goal.pass_on-requires-clause-home
pass_on-requires-clause-home g c κs within =
    let d' = c.ask-reply.new.self in let slots = rest c.enter.new.seat.me.1 in let noted = c.note.ensures.noted in
    let alone : slots ≡ [] = ap rest c.enter.ensures.took.2.1 ∙ c.into_seat-seat.ensures.3 in
    let here : c.enter.new.seat.me.1 ≡ (0, Some c.in-Some.home) ∷ slots = c.slot_mut.ensures.value ∙ ap (λ o. (0, o) ∷ slots) c.in-Some.is in (
      d',
      noted.4 ∙ ap (λ l. (0, Some d') ∷ l) alone,
      seen_after (of_desk g.T.Desk.history) (of_desk g.T.Desk.figures) (of_desk g.T.Desk.stopped) (g.T.Desk.figures c.in-Some.home.desk) _ _ _ c.enter.new.seat.me (c.enter.new.seat.me.0, (0, Some d') ∷ slots) c.note.new.seat.me c.in-Some.home d' c.enter.ensures.took here refl c.ask-reply.ensures.figures c.ask-reply.ensures.base noted,
    )

pub returns : goal.returns
returns g c =
    let p = c.args.pass.now in let a = account_of p.badge.views in let a' = account_of c.into_badge.result.views in let d' = c.ask-reply.new.self in let slots = rest c.enter.new.seat.me.1 in
    let ask = c.ask-reply.ensures in let added : List Entry = recorded p.number c.args.ask c.ask-reply.result.answer in
    let is = rested p.badge.views _ c.into_seat-seat.result.me.0 p.rests (ap (λ b. b.views) c.replace.ensures.value) c.into_seat-seat.ensures.2 in
    let from : c.enter.new.seat.me.0.account ≡ a = c.enter.ensures.same ∙ ap (λ v. v.account) is in
    let here : c.enter.new.seat.me.1 ≡ (0, Some c.in-Some.home) ∷ slots = c.slot_mut.ensures.value ∙ ap (λ o. (0, o) ∷ slots) c.in-Some.is in
    let t : Called a a' (g.T.Desk.figures c.in-Some.home.desk) (g.T.Desk.history d'.desk) (g.T.Desk.stopped c.in-Some.home.desk) (g.T.Desk.stopped d'.desk) added =
    called (of_desk g.T.Desk.history) (of_desk g.T.Desk.figures) (of_desk g.T.Desk.stopped) a c.enter.new.seat.me (c.enter.new.seat.me.0, (0, Some d') ∷ slots) c.note.new.seat.me
    _ _ _ c.into_badge.result.views c.in-Some.home d' added from c.enter.ensures.took here refl ask.grows c.note.ensures.noted (c.into_badge.ensures.2 ∙ ap (λ m. m.0 ∷ []) c.pass_on.ensures.rests) in
    let all = recorded_of p.number p.number c.args.ask c.ask-reply.result.answer refl in
    let more : by p.number (drop (opening_count a'.figures) a'.seen) ≡ by p.number (drop (opening_count a.figures) a.seen) ++ added =
    t.made p.number p.mine ∙ ap (λ (x : List Entry). by p.number (drop (opening_count a.figures) a.seen) ++ x) (by_self p.number added all) in
    record {
      called = record {
        own = search rules;
        seat = refl;
        figures = t.figures;
        stands = (t.stands, t.left);
        goes_on = continues a'.figures a.figures a'.seen a.seen t.figures t.extends;
        place = ask.place ∙ ap end_of t.history;
        legal = subst IsLegal t.history ask.legal;
        told = told_of _ _ _ _ _ _ _ t p.number c.args.ask c.ask-reply.result ask.told ask.stays;
        entries = more;
        others = λ n stands ne. t.made n stands ∙ (ap (λ (x : List Entry). by n (drop (opening_count a.figures) a.seen) ++ x) (by_others n p.number added all ne) ∙ append-nil _);
        later = made_later a.figures a'.figures p.number a.seen a'.seen added t.figures (omega (arith, p.opened, p.place)) t.extends more;
        stop = λ tells. sym t.stop ∙ told_stop _ _ _ _ _ _ _ ask.told ask.stays tells;
        stays = λ saw. sym t.stop ∙ ask.stays (t.halted saw);
        runs = λ keeps. sym t.stop ∙ ask.runs keeps;
      };
    }
