use Rattle.std.proofs.Common.{rules, ◌∷◌, ap, sym, ◌∙◌}
use Rattle.std.specs.Prelude.{Some, None}
use Rattle.atomic_table.specs.Table.{rest}
use Rattle.publication_list.specs.declared.rule.Letter.TheVariants.{Reply}
use Rattle.publication_list.proofs.Steps.{collects, frees}
use Rattle.publication_list.proofs.list.PublicationList.collect.Goals as goal

pub compare_exchange-requires : goal.compare_exchange-requires
compare_exchange-requires g c = (c.requires.own, search rules, collects g.P.Service.fits g.P.Service.answers _ _ _ _ _ _ _ c.args.published.asks c.args.published.lies c.args.self.now.counts.1)

pub exchange-letter-requires : goal.exchange-letter-requires
exchange-letter-requires g c =
    let got = c.compare_exchange.ensures.2.0 c.if-compare_exchange-ne-ANSWERED.false in
    let has = ap (λ m. m.1) got.4 in
    (search rules, (Some (Reply got.1), has ∙ (λ i. (c.args.published.place, Some (Reply got.1)) ∷ sym (ap rest has) i)))

pub store-requires : goal.store-requires
store-requires g c =
    let got = c.compare_exchange.ensures.2.0 c.if-compare_exchange-ne-ANSWERED.false in (
      search rules,
      search rules,
      frees g.P.Service.fits g.P.Service.answers _ _ _ _ _ _ (c.exchange-letter.ensures.3 ∙ (λ i. ((got.4 i).0, (c.args.published.place, None) ∷ rest (got.4 i).1))) c.args.published.lies c.args.self.now.counts.1,
    )
