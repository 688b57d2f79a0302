use Rattle.std.proofs.Common.{rules, arith, ◌∷◌, ap, sym, ◌∙◌}
use Rattle.std.specs.Prelude.{Some}
use Rattle.atomic_table.specs.Table.{rest}
use Rattle.publication_list.specs.declared.rule.Letter.TheVariants.{Request}
use Rattle.publication_list.proofs.Moves.{leaves_bits}
use Rattle.publication_list.proofs.Steps.{claims_one}
use Rattle.publication_list.proofs.list.PublicationList.claim.Goals as goal

pub compare_exchange-requires : goal.compare_exchange-requires
compare_exchange-requires g c = (c.requires.own.0, search rules, claims_one g.P.Service.fits g.P.Service.answers _ _ _ _ _ c.requires.lies c.args.self.now.counts.1)

pub exchange-letter-requires : goal.exchange-letter-requires
exchange-letter-requires g c =
    let got = c.compare_exchange.ensures.2.0 c.if-compare_exchange-ne-PUBLISHED.false in
    let has = ap (λ m. m.1) (c.fetch_and.ensures.2 ∙ got.2) in
    (search rules, (Some (Request got.0), has ∙ (λ i. (c.args.place, Some (Request got.0)) ∷ sym (ap rest has) i)))

pub fetch_and-requires : goal.fetch_and-requires
fetch_and-requires g c = (search rules, search rules, leaves_bits g.P.Service.fits g.P.Service.answers _ _ _ _ _ _ (omega arith))
