use Rattle.std.proofs.Common.{Err, ◌≡◌, ◌∙◌, inl, inr, refl, sym, subst, ap, true, ◌++◌, take, drop, length, map, All, arith}
use Rattle.std.specs.Prelude.{nat_lt, slice_index_or, ◌<◌}
use Rattle.std.specs.List.{list_any}
use Rattle.std.proofs.lemmas.List.{length-map}
use Rattle.outside.specs.Faults.{Rose}
use Rattle.doors.specs.Visits.{IsNew}
use Rattle.compress_server.specs.Seen.{output_of, listener_of}
use Rattle.compress_server.specs.declared.serve.ServiceEnd.TheVariants.{Memory}
use Rattle.compress_server.specs.Runs.{run_of, runs_of}
use Rattle.compress_server.specs.Serve.{IsWritten, history_line, AreLent, HasGivenSince, TakesBackAll, had_no_memory, had_door_fault, end_of_seats}
use Rattle.compress_server.proofs.EndFacts.{rose_later}
use Rattle.compress_server.proofs.PlaceFacts.{rose_stays, lent_of, have_given, bound_given}
use Rattle.compress_server.proofs.ServiceFacts.{unbegun_at_once, unbegun_back, written_anew, seats_returned, any_run, some_failed, why_trouble}
use Rattle.compress_server.proofs.seating.Seating.serve_at.Goals as goal

pub returns-in_default-clause-serves : goal.returns-in_default-clause-serves
returns-in_default-clause-serves g c = inl (unbegun_at_once g.L.Door.Door.visits c.args.self.now.words.now.address.now c.args.house _ _ _ _ refl (inl refl))

pub returns-in-Err-clause-serves : goal.returns-in-Err-clause-serves
returns-in-Err-clause-serves g c =
    inl (unbegun_at_once g.L.Door.Door.visits c.args.self.now.words.now.address.now c.args.house _ _ _ _ c.in-Err.ensures.nothing
    (why_trouble c.in-Err.trouble c.end_of_trouble.result (Rose (g.L.Listener.faults c.args.listener.now) (g.L.Listener.faults c.bind.new.self)) c.end_of_trouble.ensures
    (λ e. c.in-Err.ensures.counts.1 (ap (λ t. Err t) e))))

pub returns-in-Err-take_places-clause-serves : goal.returns-in-Err-take_places-clause-serves
returns-in-Err-take_places-clause-serves g c =
    let faults = g.L.Listener.faults in
    let told = c.in-Err-take_places.ensures in
    inl (unbegun_back g.L.Door.Door.visits c.args.self.now.words.now.address.now c.args.house c.args.house (output_of (g.K.Sink.taken c.args.output.now) (g.K.Sink.faults c.args.output.now)) (listener_of (g.L.Listener.doors c.args.listener.now) (faults c.args.listener.now)) (listener_of (g.L.Listener.doors c.give_back.new.listener) (faults c.give_back.new.listener)) (g.L.Listener.doors c.bind.new.self) (g.L.Listener.doors c.take_places.new.listener) c.take_places.new.places.items c.end_of_trouble-in-Err-take_places.result refl c.in_default-bind.ensures.binds told.lends c.give_back.ensures.returned (λ k other lt. (told.new k other lt).0)
    (why_trouble c.in-Err-take_places.trouble c.end_of_trouble-in-Err-take_places.result (Rose (faults c.args.listener.now) (faults c.give_back.new.listener)) c.end_of_trouble-in-Err-take_places.ensures
    (λ e. rose_stays (faults c.args.listener.now) (faults c.take_places.new.listener) (faults c.give_back.new.listener) (omega (arith, c.in_default-bind.ensures.counts.0, told.never_falls)) c.give_back.ensures.never_falls
    (rose_later (faults c.args.listener.now) (faults c.bind.new.self) (faults c.take_places.new.listener) c.in_default-bind.ensures.counts.0 (told.failed (ap (λ t. Err t) e))))))

pub serve_house-requires-clause-new : goal.serve_house-requires-clause-new
serve_house-requires-clause-new g c = λ κs within.
    subst (λ ps. All (λ place. IsNew (g.L.Door.Door.visits place.door) × (g.L.Door.Door.faults place.door ≡ 0)) ps) (sym c.deref_mut.ensures.value) c.in_default-take_places.ensures.new

pub returns-in-Ok-serve_house-clause-serves : goal.returns-in-Ok-serve_house-clause-serves
returns-in-Ok-serve_house-clause-serves g c =
    let faults = g.L.Listener.faults in
    let visits = g.L.Door.Door.visits in
    let places = c.serve_house.new.places in
    let told = c.in_default-take_places.ensures in
    let out = c.in-Ok-serve_house.ensures in
    let back = c.give_back-in-Ok-serve_house.ensures in
    let begun = output_of (g.K.Sink.taken c.args.output.now) (g.K.Sink.faults c.args.output.now) in
    let taken = output_of (g.K.Sink.taken c.tell_history-written.new.output) (g.K.Sink.faults c.tell_history-written.new.output) in
    let old = c.take_places.new.places in
    let count : length places ≡ c.args.self.now.words.now.seats.value = sym (length-map places run_of) ∙ out.served.count in
    let many : length places ≡ old.len = omega (arith, count, told.all, old.ok.0) in
    let anew : take old.len (places ++ drop (length places) old.items) ≡ places = written_anew old.len places old.items many in
    let taken_back = subst (λ ps. TakesBackAll visits (g.L.Listener.doors c.take_places.new.listener) (g.L.Listener.doors c.give_back-in-Ok-serve_house.new.listener) (map (λ place. place.door) ps)) anew back.returned in
    let ended = subst (λ ps. c.end_of_seats-end.result ≡ end_of_seats (list_any (λ place. had_no_memory place.end) ps) (list_any (λ place. had_door_fault place.end) ps) c.is_stopped.result c.tell_history-written.result) (c.deref.ensures.value ∙ anew) c.end_of_seats-end.ensures in
    let failed = subst (λ ps. list_any (λ place. nat_lt 0 (g.L.Door.Door.faults place.door)) ps ≡ true → Rose (faults c.take_places.new.listener) (faults c.give_back-in-Ok-serve_house.new.listener)) anew back.failed in
    inr (record {
      seats = runs_of places;
      served = out.served;
      returned = seats_returned visits c.args.self.now.words.now.address.now _ _ _ _ (length old.items) places (count ∙ sym told.all) c.in_default-bind.ensures.binds told.lends taken_back;
      given = bound_given visits (g.L.Listener.doors c.args.listener.now) c.args.self.now.words.now.address.now (g.L.Listener.doors c.bind.new.self) c.in_default-bind.ensures.binds 0 (runs_of places)
          (have_given visits (g.L.Listener.doors c.bind.new.self) 0 old.items places (count ∙ sym told.all) told.planned
          (λ k other lt. subst (λ ps. HasGivenSince (visits (slice_index_or ps k other).door) (visits (slice_index_or places k other).door)) c.deref_mut.ensures.value (out.given k other (subst (λ ps. k < length ps) (sym c.deref_mut.ensures.value) lt))));
      written = c.tell_history-written.result;
      wrote = subst (λ n. IsWritten begun taken (history_line n) c.tell_history-written.result) c.length.ensures.length c.tell_history-written.ensures;
      told = ended ∙ (ap (λ b. end_of_seats b (list_any (λ place. had_door_fault place.end) places) c.is_stopped.result c.tell_history-written.result) (any_run visits had_no_memory places)
          ∙ (ap (λ b. end_of_seats (list_any (λ seat. had_no_memory seat.end) (runs_of places)) b c.is_stopped.result c.tell_history-written.result) (any_run visits had_door_fault places)
          ∙ ap (λ b. end_of_seats (list_any (λ seat. had_no_memory seat.end) (runs_of places)) (list_any (λ seat. had_door_fault seat.end) (runs_of places)) b c.tell_history-written.result) c.is_stopped.ensures.stopped));
      counted = λ any.
          rose_later (faults c.args.listener.now) (faults c.take_places.new.listener) (faults c.give_back-in-Ok-serve_house.new.listener) (omega (arith, c.in_default-bind.ensures.counts.0, told.never_falls))
          (failed (some_failed visits g.L.Door.Door.faults places out.counted (any_run visits had_door_fault places ∙ any)));
    })

-- the places are as many as were taken
pub give_back-requires-in-Ok-serve_house-clause-lent : goal.give_back-requires-in-Ok-serve_house-clause-lent
give_back-requires-in-Ok-serve_house-clause-lent g c κs within =
    let old = c.take_places.new.places in
    let places = c.serve_house.new.places in
    let told = c.in_default-take_places.ensures in
    let count : length places ≡ c.args.self.now.words.now.seats.value = sym (length-map places run_of) ∙ c.in-Ok-serve_house.ensures.served.count in
    let anew : take old.len (places ++ drop (length places) old.items) ≡ places = written_anew old.len places old.items (omega (arith, count, told.all, old.ok.0)) in
    let lent = lent_of (length old.items) (g.L.Listener.doors c.bind.new.self) (g.L.Listener.doors c.take_places.new.listener) told.lends in
    subst (λ n. AreLent n (g.L.Listener.doors c.take_places.new.listener)) (told.all ∙ sym count ∙ ap length (sym anew)) lent

-- the places are those that were taken
pub give_back-requires-in-Err-serve_house-clause-lent : goal.give_back-requires-in-Err-serve_house-clause-lent
give_back-requires-in-Err-serve_house-clause-lent g c κs within =
    let old = c.take_places.new.places in
    let places = c.serve_house.new.places in
    let same : places ≡ old.items = c.in-Err-serve_house.ensures.untouched ∙ c.deref_mut.ensures.value in
    let anew : take old.len (places ++ drop (length places) old.items) ≡ old.items = written_anew old.len places old.items (ap length same ∙ sym old.ok.0) ∙ same in
    let lent = lent_of (length old.items) (g.L.Listener.doors c.bind.new.self) (g.L.Listener.doors c.take_places.new.listener) c.in_default-take_places.ensures.lends in
    subst (λ ps. AreLent (length ps) (g.L.Listener.doors c.take_places.new.listener)) (sym anew) lent

pub returns-in-Err-serve_house-clause-serves : goal.returns-in-Err-serve_house-clause-serves
returns-in-Err-serve_house-clause-serves g c =
    let told = c.in_default-take_places.ensures in
    let old = c.take_places.new.places in
    let places = c.serve_house.new.places in
    let same : places ≡ old.items = c.in-Err-serve_house.ensures.untouched ∙ c.deref_mut.ensures.value in
    let anew : take old.len (places ++ drop (length places) old.items) ≡ old.items = written_anew old.len places old.items (ap length same ∙ sym old.ok.0) ∙ same in
    let taken_back = subst (λ ps. TakesBackAll g.L.Door.Door.visits (g.L.Listener.doors c.take_places.new.listener) (g.L.Listener.doors c.give_back-in-Err-serve_house.new.listener) (map (λ place. place.door) ps)) anew c.give_back-in-Err-serve_house.ensures.returned in
    inl (unbegun_back g.L.Door.Door.visits c.args.self.now.words.now.address.now c.args.house c.in-Err-serve_house.house (output_of (g.K.Sink.taken c.args.output.now) (g.K.Sink.faults c.args.output.now)) (listener_of (g.L.Listener.doors c.args.listener.now) (g.L.Listener.faults c.args.listener.now)) (listener_of (g.L.Listener.doors c.give_back-in-Err-serve_house.new.listener) (g.L.Listener.faults c.give_back-in-Err-serve_house.new.listener)) (g.L.Listener.doors c.bind.new.self) (g.L.Listener.doors c.take_places.new.listener) c.take_places.new.places.items Memory c.in-Err-serve_house.ensures.refused c.in_default-bind.ensures.binds told.lends taken_back (λ k other lt. (told.new k other lt).0) (inl refl))
