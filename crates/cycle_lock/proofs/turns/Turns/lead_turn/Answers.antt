use Rattle.std.proofs.Common.{[], ◌∷◌, None, map, reverse, ap, sym, refl, subst, ◌∙◌}
use Rattle.std.proofs.lemmas.List.{reverse-reverse}
use Rattle.publication_list.specs.Tokens.{claims, key_of}
use Rattle.cycle_lock.specs.declared.home.Home.{Home}
use Rattle.cycle_lock.specs.Errands.{command_of, pass_of}
use Rattle.cycle_lock.specs.Home.{of_desk}
use Rattle.cycle_lock.specs.Kept.{IsDesk}
use Rattle.cycle_lock.specs.Passes.{lock_of}
use Rattle.cycle_lock.specs.Turn.{IsAhead}
use Rattle.cycle_lock.proofs.Own.{begins, gathered}
use Rattle.cycle_lock.proofs.Steps.{taken}
use Rattle.cycle_lock.proofs.turns.Turns.lead_turn.Goals as goal

pub note_own-reply-requires-clause-ahead : goal.note_own-reply-requires-clause-ahead
note_own-reply-requires-clause-ahead g c κs within =
    let took = c.take_out-home.ensures in let at = c.length-at.ensures in let turned = c.turn_round.ensures in let more = c.claim_all.ensures.gathers in
    let v = c.args.seat.now.me.0 in let home : Home g.row.T.Denot = record { desk = c.take_out-home.result.desk; batch = c.turn_round.new.self } in
    let t = taken (of_desk g.T.Desk.history) (of_desk g.T.Desk.figures) (of_desk g.T.Desk.stopped) (g.T.Desk.figures c.take_out-home.result.desk) [] [] c.args.seat.now.me c.take_out-home.result c.requires.took took.desk in
    let all = gathered (lock_of (key_of c.args.list.now).value) c.begin.new.self c.claim_all.new.batch (claims c.server-clerk.result) (claims c.claim_all.new.clerk) c.of-what.result.value more c.server-clerk.ensures.claims
    (c.begin.ensures.commands ∙ ap (λ o. o ∷ []) (sym c.of-what.ensures)) c.begin.ensures.passes in
    let first = subst (λ m. IsAhead g.T.Desk.history g.T.Desk.figures g.T.Desk.stopped m home (c.of-what.result.value ∷ map command_of (claims c.claim_all.new.clerk)) (map pass_of (claims c.claim_all.new.clerk))) (sym took.seat)
    (begins g.T.Desk.history g.T.Desk.figures g.T.Desk.stopped (v, (0, None) ∷ []) home c.of-what.result.value (map command_of (claims c.claim_all.new.clerk)) (map pass_of (claims c.claim_all.new.clerk)) c.requires.took.0 c.requires.mine.1 refl
    record { same = t.2; base = at.base; legal = at.legal; short = at.short } t.0 t.1 (turned.at ∙ (more.6 ∙ (c.begin.ensures.at ∙ at.length))) (turned.commands ∙ all.0)
    (ap reverse turned.passes ∙ (reverse-reverse c.claim_all.new.batch.passes.items ∙ all.1)) (turned.replies ∙ (more.5 ∙ c.begin.ensures.replies))) in
    c.refill.ensures.ahead c.take_out-home.new.seat.me [] (c.of-what.result.value ∷ map command_of (claims c.claim_all.new.clerk)) (map pass_of (claims c.claim_all.new.clerk)) refl (turned.commands ∙ all.0) first

pub returns-clause-home : goal.returns-clause-home
returns-clause-home g c = (
  c.serve_all.new.home,
  ap (λ m. m.1) c.put_in.ensures.seat,
  subst (λ m. IsDesk (of_desk g.T.Desk.history) (of_desk g.T.Desk.figures) (of_desk g.T.Desk.stopped) m.0.known m.0.halted m.0.account.figures c.serve_all.new.home) (sym c.put_in.ensures.seat) c.serve_all.ensures.desk,
)
