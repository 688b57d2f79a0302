use denote.Param.Send.{param_send, arg_send}
use Rattle.std.proofs.Common.{◌∙◌, ap}
use Rattle.cycle_lock.specs.Passes.{lock_of}
use Rattle.house.proofs.Sends.{house_send}
use Rattle.session.specs.Serving.{Seat, of_pass}
use Rattle.compress_server.proofs.RunFacts.{script_ends, first_at, closed_on, seat_stays}
use Rattle.compress_server.proofs.script.Script.serve_house.Goals as goal

-- ---- the house may go to another thread, as its disk may

pub new-requires-send-T : goal.new-requires-send-T
new-requires-send-T g c κs within = let disk = c.type_bounds.send-D in search (param_send, arg_send, house_send)

pub serve-end-requires-send-T : goal.serve-end-requires-send-T
serve-end-requires-send-T g c κs within = let disk = c.type_bounds.send-D in search (param_send, arg_send, house_send)

pub close-requires-send-T : goal.close-requires-send-T
close-requires-send-T g c κs within = let disk = c.type_bounds.send-D in search (param_send, arg_send, house_send)

pub returns-clause-ends : goal.returns-clause-ends
returns-clause-ends g c =
    let pass = c.in-Ok.lock.1 in
    let after = c.serve-end.result.1 in
    let e = c.in-Ok.ensures in
    let done = c.close.ensures in
    let ends = c.serve-end.ensures.ends in
    let seat = seat_stays (g.T.Clock.tells c.args.self.now.with.now.clock.now) (of_pass pass) _ _ _ _ (of_pass after) c.serve-end.result.0 ends in
    script_ends (g.T.Clock.tells c.args.self.now.with.now.clock.now) (lock_of pass) c.args.house c.close.result (of_pass pass) _ _ _ _ (of_pass after) c.serve-end.result.0
    (first_at c.args.house pass e.figures e.seat.0 e.seen (e.stop ∙ c.requires.running) e.left)
    (closed_on c.args.house c.close.result after c.requires.opened (ap (λ (s : Seat). s.number) seat ∙ e.seat.0) (ap (λ (s : Seat). s.figures) seat ∙ e.figures) done.figures done.seen after.mine done.made done.numbers done.stop done.lone)
    ends

pub returns-clause-figures : goal.returns-clause-figures
returns-clause-figures g c =
    let pass = c.in-Ok.lock.1 in
    let after = c.serve-end.result.1 in
    let seat = seat_stays (g.T.Clock.tells c.args.self.now.with.now.clock.now) (of_pass pass) _ _ _ _ (of_pass after) c.serve-end.result.0 c.serve-end.ensures.ends in
    c.close.ensures.figures ∙ (ap (λ (s : Seat). s.figures) seat ∙ c.in-Ok.ensures.figures)
