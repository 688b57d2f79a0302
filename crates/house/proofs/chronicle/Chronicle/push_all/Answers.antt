use Rattle.std.proofs.Common.{◌≡◌, ◌+◌, ◌-◌, ◌<◌, ℕ, List, [], ◌∷◌, length, get_or, map, take, ◌∙◌, ap, arith, length-append, length-take}
use Rattle.std.proofs.lemmas.List.{length-map}
use Rattle.command_types.specs.History.{History, longer}
use Rattle.house.proofs.PushFacts.{as_many_spelled, bytes_at, frame_at, longer_at, longer_none, spelled_at, votes_there}
use Rattle.house.proofs.chronicle.Chronicle.push_all.Goals as goal

pub loop-place-init : goal.loop-place-init
loop-place-init c = record { history = longer_none c.args.self.now.history; small = c.requires.small; room = c.requires.room }

pub bounds-records-place : goal.bounds-records-place
bounds-records-place c =
    let records = map (λ r. r.items) c.args.records.now in
    omega (arith, as_many_spelled records c.args.entries.now c.requires.spells, length-map c.args.records.now (λ r. r.items), c.loop-place-test.true)

pub push-requires : goal.push-requires
push-requires c =
    let records = map (λ r. r.items) c.args.records.now in
    let n = c.loop-place.place in
    let bytes : List ℕ = c.deref.result.now in
    let many = as_many_spelled records c.args.entries.now c.requires.spells in
    let within : n < length c.args.records.now = omega (arith, many, length-map c.args.records.now (λ r. r.items), c.loop-place-test.true) in
    let at : bytes ≡ get_or records n bytes = bytes_at (λ r. r.items) c.args.records.now n c.index-records-place.result bytes within c.index-records-place.is c.deref.ensures.value in
    let first = frame_at records n bytes (omega (arith, many, c.loop-place-test.true)) at in
    record {
      few = omega (arith, ap (λ (h : History). length h.entries) c.loop-place.invariant.history, length-append c.args.self.now.history.entries (take n c.args.entries.now), length-take n c.args.entries.now, c.loop-place-test.true, c.requires.few);
      spells = spelled_at records c.args.entries.now n bytes c.index-entries-place.result c.requires.spells c.loop-place-test.true at c.index-entries-place.is;
      small = omega (arith, first, c.loop-place.invariant.small);
      room = omega (arith, first, c.loop-place.invariant.room);
      votes = votes_there (longer c.loop-place.self.history (c.index-entries-place.result ∷ [])) (c.loop-place.self.room - (5 + length bytes)) (omega (arith, first, c.loop-place.invariant.room));
    }

pub loop-place-preserved : goal.loop-place-preserved
loop-place-preserved c =
    let records = map (λ r. r.items) c.args.records.now in
    let n = c.loop-place.place in
    let bytes : List ℕ = c.deref.result.now in
    let many = as_many_spelled records c.args.entries.now c.requires.spells in
    let within : n < length c.args.records.now = omega (arith, many, length-map c.args.records.now (λ r. r.items), c.loop-place-test.true) in
    let at : bytes ≡ get_or records n bytes = bytes_at (λ r. r.items) c.args.records.now n c.index-records-place.result bytes within c.index-records-place.is c.deref.ensures.value in
    let first = frame_at records n bytes (omega (arith, many, c.loop-place-test.true)) at in
    record {
      history = c.push.ensures.history ∙ ap (λ (h : History). longer h (c.index-entries-place.result ∷ [])) c.loop-place.invariant.history
          ∙ longer_at c.args.self.now.history c.args.entries.now n c.index-entries-place.result c.loop-place-test.true c.index-entries-place.is;
      small = omega (arith, first, c.loop-place.invariant.small);
      room = omega (arith, first, c.loop-place.invariant.room, c.push.ensures.left);
    }
