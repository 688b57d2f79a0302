use Rattle.std.proofs.Common.{rules, arith, ◌∷◌, ◌∙◌}
use Rattle.std.specs.Prelude.{Some}
use Rattle.atomic_table.specs.Table.{rest}
use Rattle.publication_list.specs.declared.rule.Letter.TheVariants.{Request}
use Rattle.publication_list.proofs.Moves.{sets_bits, sits}
use Rattle.publication_list.proofs.Steps.{reserves, publishes}
use Rattle.publication_list.proofs.list.PublicationList.publish.Goals as goal

pub load_new_seat-seat-requires : goal.load_new_seat-seat-requires
load_new_seat-seat-requires g c = (search rules, sits g.P.Service.fits g.P.Service.answers _ _ _)

pub compare_exchange-requires : goal.compare_exchange-requires
compare_exchange-requires g c = let seat = c.load_new_seat-seat.ensures in (seat.0, search rules, reserves g.P.Service.fits g.P.Service.answers _ _ _ _ _ _ seat.2 c.requires.lies c.args.self.now.counts.1)

pub store-requires : goal.store-requires
store-requires g c =
    let had = c.compare_exchange.ensures.2.0 c.if-compare_exchange-ne-FREE.false in (
      search rules,
      search rules,
      publishes g.P.Service.fits g.P.Service.answers _ _ _ _ _ c.args.request _ (c.fetch_or.ensures.2 ∙ (c.exchange-empty.ensures.3 ∙ (λ i. ((had i).0, (c.args.place, Some (Request c.args.request)) ∷ rest (had i).1)))) c.requires.lies c.args.self.now.counts.1
          c.requires.fits,
    )

pub fetch_or-requires : goal.fetch_or-requires
fetch_or-requires g c = (search rules, search rules, sets_bits g.P.Service.fits g.P.Service.answers _ _ _ _ _ _ (omega arith))
