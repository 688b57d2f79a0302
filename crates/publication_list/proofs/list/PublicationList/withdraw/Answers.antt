use Rattle.std.proofs.Common.{rules, arith, ◌∷◌, ap, sym, ◌∙◌}
use Rattle.std.specs.Prelude.{Some, None}
use Rattle.atomic_table.specs.Table.{rest}
use Rattle.publication_list.specs.declared.rule.Letter.TheVariants.{Request}
use Rattle.publication_list.proofs.Moves.{leaves_bits}
use Rattle.publication_list.proofs.Steps.{withdraws, frees}
use Rattle.publication_list.proofs.list.PublicationList.withdraw.Goals as goal

pub compare_exchange-requires : goal.compare_exchange-requires
compare_exchange-requires g c = (c.requires.own, search rules, withdraws g.P.Service.fits g.P.Service.answers _ _ _ _ _ _ _ c.args.published.asks c.args.published.lies c.args.self.now.counts.1)

pub exchange-letter-requires : goal.exchange-letter-requires
exchange-letter-requires g c =
    let got = c.compare_exchange.ensures.2.0 c.if-compare_exchange-ne-PUBLISHED.false in
    let has = ap (λ m. m.1) (c.fetch_and.ensures.2 ∙ got.2) in
    (search rules, (Some (Request got.0), has ∙ (λ i. (c.args.published.place, Some (Request got.0)) ∷ sym (ap rest has) i)))

pub store-requires : goal.store-requires
store-requires g c =
    let got = c.compare_exchange.ensures.2.0 c.if-compare_exchange-ne-PUBLISHED.false in (
      search rules,
      search rules,
      frees g.P.Service.fits g.P.Service.answers _ _ _ _ _ _ (c.exchange-letter.ensures.3 ∙ (λ i. let m = (c.fetch_and.ensures.2 ∙ got.2) i in (m.0, (c.args.published.place, None) ∷ rest m.1))) c.args.published.lies c.args.self.now.counts.1,
    )

pub fetch_and-requires : goal.fetch_and-requires
fetch_and-requires g c = (search rules, search rules, leaves_bits g.P.Service.fits g.P.Service.answers _ _ _ _ _ _ (omega arith))
