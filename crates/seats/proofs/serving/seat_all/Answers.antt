use Rattle.std.proofs.Common.{◌+◌, ◌<◌, ◌∙◌, length, sym, subst, ap, arith}
use Rattle.std.proofs.lemmas.List.{length-set}
use Rattle.session.specs.Serving.{of_pass}
use Rattle.seats.specs.Final.{seated}
use Rattle.seats.specs.Places.{HasPass}
use Rattle.seats.proofs.SeatedFacts.{seated_any}
use Rattle.seats.proofs.PlaceFacts.{set_hold, each_same}
use Rattle.seats.proofs.serving.seat_all.Goals as goal

pub loop-k-preserved : goal.loop-k-preserved
loop-k-preserved g c =
    let i = c.loop-k.invariant in
    let now = c.loop-k.places in
    let initial = c.args.places.now in
    let first = c.args.pass.now in
    let k = c.loop-k.k in
    let item = c.index-places-k.result in
    let within : k < length now = omega (arith, c.loop-k-test.true, i.size, c.loop-k.auto.k-end, c.loop-k.auto.places) in
    let t = c.seat_one.ensures in
    let same = seated_any (of_pass c.loop-k.pass) (of_pass first) (k + 1) i.main in
    let seat = t.seat (k + 1) (omega (arith, i.left, c.requires.first)) in
    record {
      own = t.own;
      numbers = t.main.0 ∙ i.numbers;
      main = t.main.1 ∙ i.main;
      left = omega (arith, t.left, i.left);
      size = length-set now k c.seat_one.new.place ∙ i.size;
      seats = set_hold (λ j place. HasPass c.args.turns.now (seated (of_pass first) (j + 1)) place.pass) now k c.seat_one.new.place within (subst (λ s. HasPass c.args.turns.now s c.seat_one.new.place.pass) same seat) i.seats;
      doors = each_same (λ place. place.door) now initial k item c.seat_one.new.place within i.size (sym c.index-places-k.is) (t.door ∙ ap (λ place. place.door) (sym c.index-places-k.is)) i.doors;
    }
