use Rattle.std.proofs.Common.{◌<◌, ◌∙◌, length, sym, subst, ap, arith}
use Rattle.std.proofs.lemmas.List.{length-set}
use Rattle.seats.specs.Places.{TakesIn}
use Rattle.seats.proofs.FinalFacts.{through, taken_through}
use Rattle.seats.proofs.PlaceFacts.{later_stay, first_hold, each_same}
use Rattle.seats.proofs.serving.take_in_all.Goals as goal

pub loop-k-preserved : goal.loop-k-preserved
loop-k-preserved g c =
    let i = c.loop-k.invariant in
    let now = c.loop-k.places in
    let initial = c.args.places.now in
    let k = c.loop-k.k in
    let item = c.index-places-k.result in
    let within : k < length now = omega (arith, c.loop-k-test.true, i.size, c.loop-k.auto.k-end, c.loop-k.auto.places) in
    let t = c.take_in.ensures in
    record {
      own = t.own;
      figures = t.figures ∙ i.figures;
      old = through c.take_in.new.pass c.loop-k.pass c.args.pass.now t.old i.old;
      left = omega (arith, t.left, i.left);
      size = length-set now k c.take_in.new.place ∙ i.size;
      rest = later_stay now initial k c.take_in.new.place i.rest;
      taken = first_hold (λ place. TakesIn c.take_in.new.pass place.pass) now initial k item (omega (arith, within, i.size)) (sym c.index-places-k.is) i.rest (subst (λ place. TakesIn c.take_in.new.pass place.pass) (sym c.index-places-k.is) t.taken)
          (λ j d lt. taken_through c.take_in.new.pass c.loop-k.pass _ t.old (i.taken j d lt));
      doors = each_same (λ place. place.door) now initial k item c.take_in.new.place within i.size (sym c.index-places-k.is) (t.rest.0 ∙ ap (λ place. place.door) (sym c.index-places-k.is)) i.doors;
      ends = each_same (λ place. place.end) now initial k item c.take_in.new.place within i.size (sym c.index-places-k.is) (t.rest.1 ∙ ap (λ place. place.end) (sym c.index-places-k.is)) i.ends;
    }
