use Rattle.std.proofs.Common.{◌≡◌, ◌∙◌, ◌<◌, ◌+◌, ◌++◌, ℕ, List, [], length, get_or, take, drop, ap, sym, subst, arith, refl}
use Rattle.std.proofs.lemmas.List.{get_or_default}
use Rattle.split_parts.specs.declared.places.Place.{Place}
use Rattle.split_parts.specs.Own.{number_in}
use Rattle.split_parts.specs.Places.{ArePlaces, place_or}
use Rattle.split_parts.proofs.Good.{whole_front}
use Rattle.split_parts.proofs.Placed.{places_none, places_more}
use Rattle.split_parts.proofs.places.places_of.Goals as goal

pub loop-part-init : goal.loop-part-init
loop-part-init c = places_none c.args.parts.now c.args.members (record { part = length c.args.parts.now; number = 0 }) c.in_ok-places.places.items refl (c.in_ok-places.ensures.items_if_clones_equal (λ y e. e))

pub loop-part-preserved : goal.loop-part-preserved
loop-part-preserved c =
    let parts = c.args.parts.now in
    let k = c.loop-part.part in
    let new = c.put_part.new.places in
    let value = c.deref_mut.ensures.value in
    let whole : take c.loop-part.places.len (new ++ drop (length new) c.loop-part.places.items) ≡ new = whole_front c.loop-part.places.len new (drop (length new) c.loop-part.places.items) (omega (arith, c.put_part.auto.places, c.deref_mut.ensures.len)) in
    let size : length new ≡ length c.loop-part.places.items = c.put_part.auto.places ∙ ap length value in
    let is : (m : ℕ) (d : Place) → m < length c.loop-part.places.items → get_or new m d ≡ place_or (number_in (get_or parts k []) m) k (get_or c.loop-part.places.items m d) =
    λ m d l.
    c.put_part.ensures m d (let s = ap length value in omega arith) ∙ ap (λ p. place_or (number_in p m) k (get_or c.deref_mut.result.now m d)) (c.members.ensures ∙ c.index-parts-part.is ∙ get_or_default parts k c.index-parts-part.result [] c.loop-part-test.true)
    ∙ ap (λ (xs : List Place). place_or (number_in (get_or parts k []) m) k (get_or xs m d)) value in
    subst (λ (xs : List Place). ArePlaces parts c.args.members (k + 1) xs) (sym whole)
    (places_more parts c.args.members k c.loop-part.places.items new c.requires.apart c.loop-part-test.true size c.loop-part.invariant is)
