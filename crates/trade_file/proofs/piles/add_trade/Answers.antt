use Rattle.std.proofs.Common.{◌≡◌, ◌<◌, ◌++◌, ◌∷◌, [], length, map, set, sym, ap, ◌∙◌, arith}
use Rattle.std.proofs.lemmas.List.{map-set, get_or-map}
use Rattle.trade_file.specs.Piles.{items_of, pile_of}
use Rattle.trade_file.proofs.piles.add_trade.Goals as goal

pub returns : goal.returns
returns c =
    let piles = c.args.piles.now in
    let trade = c.args.trade in
    let i = c.index.result in
    let e : i ≡ trade.product = c.index.ensures in
    let inside : i < length piles = omega (arith, e, c.requires) in
    map-set items_of piles i c.push.new.self ∙ ap (set (map items_of piles) i) (c.in_ok-push.ensures.items ∙ ap (λ xs. xs ++ trade ∷ []) (sym (get_or-map items_of piles i c.index-piles-index.result [] inside)))
    ∙ ap (λ j. set (map items_of piles) j (pile_of (map items_of piles) j ++ trade ∷ [])) e
