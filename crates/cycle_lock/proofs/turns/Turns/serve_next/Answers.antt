use Rattle.std.proofs.Common.{◌∷◌, [], ◌++◌, ◌-◌, ap, sym, refl, subst, ◌∙◌}
use Rattle.cycle_lock.specs.declared.errands.Done.{Done}
use Rattle.cycle_lock.specs.declared.errands.Errand.{Errand}
use Rattle.cycle_lock.specs.declared.home.Home.{Home}
use Rattle.cycle_lock.specs.Errands.{IsCalled}
use Rattle.publication_list.specs.Tokens.{claims, AnswersFirst}
use Rattle.cycle_lock.proofs.Ahead.{opened, taken_last}
use Rattle.cycle_lock.proofs.Served.{guest_of, next_is, called_guest, ahead_of_others}
use Rattle.cycle_lock.proofs.turns.Turns.serve_next.Goals as goal

pub note_guest-pass-requires-clause-own : goal.note_guest-pass-requires-clause-own
note_guest-pass-requires-clause-own g c κs within =
    let ps = c.next_pass-pass.ensures.passes ∙ ap (λ xs. xs ++ c.next_pass-pass.result ∷ []) (sym c.next_reply-reply.ensures.passes) in
    let rs = sym c.next_pass-pass.ensures.replies ∙ c.next_reply-reply.ensures.replies in
    let home : Home g.row.T.Denot = c.args.home.now in let left : Home g.row.T.Denot = record { desk = home.desk; batch = c.next_reply-reply.new.self } in
    let o = opened g.T.Desk.history g.T.Desk.figures g.T.Desk.stopped c.args.seat.now.me home left c.next_pass-pass.result c.next_reply-reply.result (claims c.args.clerk.now) c.requires.ahead ps rs (c.next_reply-reply.ensures.commands ∙ c.next_pass-pass.ensures.commands) in
    let r = taken_last g.T.Desk.history g.T.Desk.figures g.T.Desk.stopped home.batch.replies.items left.batch.replies.items c.next_reply-reply.result rs in
    (c.requires.own.0, guest_of g.T.Desk.history g.T.Desk.figures g.T.Desk.stopped c.args.seat.now.me home left c.next_pass-pass.result c.next_reply-reply.result (claims c.args.clerk.now) o rs r _ c.requires.guests)

pub note_guest-pass-requires-clause-next : goal.note_guest-pass-requires-clause-next
note_guest-pass-requires-clause-next g c κs within =
    let ps = c.next_pass-pass.ensures.passes ∙ ap (λ xs. xs ++ c.next_pass-pass.result ∷ []) (sym c.next_reply-reply.ensures.passes) in
    let rs = sym c.next_pass-pass.ensures.replies ∙ c.next_reply-reply.ensures.replies in
    let home : Home g.row.T.Denot = c.args.home.now in let left : Home g.row.T.Denot = record { desk = home.desk; batch = c.next_reply-reply.new.self } in
    let o = opened g.T.Desk.history g.T.Desk.figures g.T.Desk.stopped c.args.seat.now.me home left c.next_pass-pass.result c.next_reply-reply.result (claims c.args.clerk.now) c.requires.ahead ps rs (c.next_reply-reply.ensures.commands ∙ c.next_pass-pass.ensures.commands) in
    let r = taken_last g.T.Desk.history g.T.Desk.figures g.T.Desk.stopped home.batch.replies.items left.batch.replies.items c.next_reply-reply.result rs in
    next_is g.T.Desk.history g.T.Desk.figures g.T.Desk.stopped c.args.seat.now.me home left c.next_pass-pass.result c.next_reply-reply.result (claims c.args.clerk.now) o rs r g.M.Next.next _ c.requires.ahead (ap (λ n. c.next_reply-reply.result.at - n) (c.next_reply-reply.ensures.at ∙ c.next_pass-pass.ensures.at)) c.requires.to

pub answer-place-requires-clause-reply : goal.answer-place-requires-clause-reply
answer-place-requires-clause-reply g c =
    let ps = c.next_pass-pass.ensures.passes ∙ ap (λ xs. xs ++ c.next_pass-pass.result ∷ []) (sym c.next_reply-reply.ensures.passes) in
    let rs = sym c.next_pass-pass.ensures.replies ∙ c.next_reply-reply.ensures.replies in
    let home : Home g.row.T.Denot = c.args.home.now in let left : Home g.row.T.Denot = record { desk = home.desk; batch = c.next_reply-reply.new.self } in
    let o = opened g.T.Desk.history g.T.Desk.figures g.T.Desk.stopped c.args.seat.now.me home left c.next_pass-pass.result c.next_reply-reply.result (claims c.args.clerk.now) c.requires.ahead ps rs (c.next_reply-reply.ensures.commands ∙ c.next_pass-pass.ensures.commands) in
    let r = taken_last g.T.Desk.history g.T.Desk.figures g.T.Desk.stopped home.batch.replies.items left.batch.replies.items c.next_reply-reply.result rs in
    subst (λ es. AnswersFirst (λ (e : Errand) (d : Done). IsCalled e.pass e.ask d.pass d.reply) es record { pass = c.note_guest-pass.result; reply = c.next_reply-reply.result }) (sym o.split)
    (called_guest g.T.Desk.history g.T.Desk.figures g.T.Desk.stopped c.args.seat.now.me home left c.next_pass-pass.result c.next_reply-reply.result (claims c.args.clerk.now) o rs r g.M.Next.next c.note_guest-pass.new.seat.me c.note_guest-pass.result c.requires.ahead.sound c.requires.from c.note_guest-pass.ensures.noted c.note_guest-pass.ensures.number c.note_guest-pass.ensures.own.2)

pub returns-clause-ahead : goal.returns-clause-ahead
returns-clause-ahead g c =
    let ps = c.next_pass-pass.ensures.passes ∙ ap (λ xs. xs ++ c.next_pass-pass.result ∷ []) (sym c.next_reply-reply.ensures.passes) in
    let rs = sym c.next_pass-pass.ensures.replies ∙ c.next_reply-reply.ensures.replies in
    let home : Home g.row.T.Denot = c.args.home.now in let left : Home g.row.T.Denot = record { desk = home.desk; batch = c.next_reply-reply.new.self } in
    let o = opened g.T.Desk.history g.T.Desk.figures g.T.Desk.stopped c.args.seat.now.me home left c.next_pass-pass.result c.next_reply-reply.result (claims c.args.clerk.now) c.requires.ahead ps rs (c.next_reply-reply.ensures.commands ∙ c.next_pass-pass.ensures.commands) in
    let r = taken_last g.T.Desk.history g.T.Desk.figures g.T.Desk.stopped home.batch.replies.items left.batch.replies.items c.next_reply-reply.result rs in
    ahead_of_others g.T.Desk.history g.T.Desk.figures g.T.Desk.stopped c.args.seat.now.me home left c.next_pass-pass.result c.next_reply-reply.result (claims c.args.clerk.now) o rs r g.M.Next.next c.note_guest-pass.new.seat.me _ _ _ _ c.requires.ahead c.requires.from c.note_guest-pass.ensures.noted c.answer-place.ensures.rest refl refl refl refl refl
