use Rattle.std.proofs.Common.{◌≡◌, ◌∷◌, [], ◌++◌, length, sym, ap, subst, arith}
use Rattle.std.proofs.lemmas.List.{length_push}
use Rattle.pair_table.specs.Buyers.{AreEmpty}
use Rattle.pair_table.proofs.Listed.{none_more}
use Rattle.pair_table.proofs.table.no_buyers.Goals as goal

pub loop-seller-init : goal.loop-seller-init
loop-seller-init c = (ap length c.new-buyers.ensures.items, λ i j l. absurd (omega (arith, l, ap length c.new-buyers.ensures.items)))

pub loop-seller-preserved : goal.loop-seller-preserved
loop-seller-preserved c =
    let items : c.push.new.self.items ≡ c.loop-seller.buyers.items ++ c.new.result ∷ [] = c.in_ok-push.ensures.items in (
      omega (arith, ap length items, length_push c.loop-seller.buyers.items c.new.result, c.loop-seller.invariant.0),
      subst AreEmpty (sym items) (none_more c.loop-seller.buyers.items c.new.result c.loop-seller.invariant.1 c.new.ensures),
    )
