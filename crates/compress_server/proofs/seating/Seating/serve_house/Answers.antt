use denote.Param.Send.{param_send, arg_send}
use Rattle.std.proofs.Common.{◌≡◌, ◌∙◌, ◌+◌, ◌<◌, length, sym, subst, ap, arith, rules}
use Rattle.std.proofs.lemmas.List.{length-map}
use Rattle.command_types.specs.declared.figures.Figures.{Figures}
use Rattle.command_types.specs.History.{end_of, entries_of_seat}
use Rattle.cycle_lock.specs.Passes.{lock_of, Continues}
use Rattle.house.specs.House.{figures_of}
use Rattle.house.proofs.Sends.{house_send}
use Rattle.session.specs.Serving.{of_pass}
use Rattle.seats.specs.Final.{seated}
use Rattle.seats.proofs.VisitFacts.{rose_from_none}
use Rattle.compress_server.specs.Runs.{run_of}
use Rattle.compress_server.specs.Serve.{final_of}
use Rattle.compress_server.proofs.ServeFacts.{seats_of, seat_stands, seated_at, given_since}
use Rattle.compress_server.proofs.seating.Seating.serve_house.Goals as goal

-- ---- the house may go to another thread, as its disk may

pub new-requires-send-T : goal.new-requires-send-T
new-requires-send-T g c κs within = let disk = c.type_bounds.send-D in search (param_send, arg_send, house_send)

pub serve-requires-send-T : goal.serve-requires-send-T
serve-requires-send-T g c κs within = let disk = c.type_bounds.send-D in search (param_send, arg_send, house_send)

pub returns-clause-served : goal.returns-clause-served
returns-clause-served g c =
    let v = c.args.house in
    let most = c.args.self.now.words.now.connections in
    let w = c.serve.result in
    let pass = c.in-Ok.lock.1 in
    let e = c.in-Ok.ensures in
    let done = c.serve.ensures in
    let opening : (figures_of w).opening ≡ end_of v.history = ap (λ (f : Figures). f.opening) (done.figures ∙ e.figures) ∙ sym c.requires.opened in
    let same : length c.serve.new.places ≡ length c.args.places.now = search rules in
    record {
      count = length-map c.serve.new.places run_of ∙ (same ∙ c.requires.count);
      goes_on = subst (λ h. Continues w.history h) e.seen done.seen;
      others = λ n past. ap (λ k. entries_of_seat w.history n k) (sym opening) ∙ done.others n (omega (arith, past, c.requires.count));
      none = ap (λ k. entries_of_seat w.history 0 k) (sym opening) ∙ (ap (λ n. entries_of_seat w.history n (figures_of w).opening) (sym e.seat.0) ∙ (done.own ∙ e.made));
      lock = lock_of pass;
      each = seats_of (g.T.Clock.tells c.args.self.now.with.now.clock.now) g.C.Door.visits most (lock_of pass) v w 1 c.serve.new.places (λ k other lt.
          let there : k < length c.args.places.now = omega (arith, lt, same) in
          seat_stands most (lock_of pass) v w (k + 1) (g.T.Clock.tells c.args.self.now.with.now.clock.now) (seated (of_pass pass) (k + 1)) _ _ _ (seated_at v pass (k + 1) e.figures e.seen (e.stop ∙ c.requires.running)) (c.requires.new k other there).0 (done.seats k other there).served);
    }

pub returns-clause-given : goal.returns-clause-given
returns-clause-given g c = λ k other there. given_since (g.T.Clock.tells c.args.self.now.with.now.clock.now) (final_of c.serve.result) (seated (of_pass c.in-Ok.lock.1) (k + 1)) _ _ _ _ (c.requires.new k other there).0 (c.serve.ensures.seats k other there).served

pub returns-clause-counted : goal.returns-clause-counted
returns-clause-counted g c = λ k other lt is.
    let same : length c.serve.new.places ≡ length c.args.places.now = search rules in
    let there : k < length c.args.places.now = omega (arith, lt, same) in
    rose_from_none _ _ (c.requires.new k other there).1 ((c.serve.ensures.seats k other there).counts.failed is)
