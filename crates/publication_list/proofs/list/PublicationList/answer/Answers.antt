use Rattle.std.proofs.Common.{rules, arith, ◌∷◌, map, drop, ap, sym, ◌∙◌}
use Rattle.std.specs.Prelude.{None}
use Rattle.atomic_table.specs.Table.{rest}
use Rattle.publication_list.specs.Places.{emptied}
use Rattle.publication_list.proofs.Steps.{answers_one}
use Rattle.publication_list.proofs.Letters.{slot_is, first_of}
use Rattle.publication_list.proofs.list.PublicationList.answer.Goals as goal

pub exchange-empty-requires : goal.exchange-empty-requires
exchange-empty-requires g c =
    let first = first_of g.P.Service.answers _ _ _ _ c.args.server.now.number c.requires.reply c.remove-place.ensures.value c.args.server.now.lie in
    let has = c.args.server.now.holds ∙ ap emptied first.is in
    (c.requires.own.0, (None, has ∙ (λ i. (c.remove-place.result, None) ∷ sym (ap rest has) i)))

pub unreachable-requires : goal.unreachable-requires
unreachable-requires g c =
    let first = first_of g.P.Service.answers _ _ _ _ c.args.server.now.number c.requires.reply c.remove-place.ensures.value c.args.server.now.lie in
    c.in_default.not-None (sym (slot_is _ _ _ _ _ _ _ (c.args.server.now.holds ∙ ap emptied first.is) c.exchange-empty.ensures.2))

pub store-requires : goal.store-requires
store-requires g c =
    let first = first_of g.P.Service.answers _ _ _ _ c.args.server.now.number c.requires.reply c.remove-place.ensures.value c.args.server.now.lie in
    let new = c.exchange-empty.ensures.3 in (
      search rules,
      omega (arith, first.lies, c.args.self.now.counts.0),
      answers_one g.P.Service.fits g.P.Service.answers _ _ _ _ first.request first.more c.args.reply _ _ (ap (λ m. m.0.claims) new ∙ first.is) (ap (λ m. m.1) new) first.right first.lies c.args.self.now.counts.1,
    )

pub returns-clause-place : goal.returns-clause-place
returns-clause-place g c =
    let first = first_of g.P.Service.answers _ _ _ _ c.args.server.now.number c.requires.reply c.remove-place.ensures.value c.args.server.now.lie in
    first.lies

pub returns-clause-first : goal.returns-clause-first
returns-clause-first g c =
    let first = first_of g.P.Service.answers _ _ _ _ c.args.server.now.number c.requires.reply c.remove-place.ensures.value c.args.server.now.lie in
    let before = ap (λ m. m.0.claims) c.exchange-empty.ensures.3 ∙ first.is in
    ap (map (λ claim. claim.0)) first.is ∙ ap (λ l. c.remove-place.result ∷ map (λ claim. claim.0) (drop 1 l)) (sym before)
    ∙ ap (λ m. c.remove-place.result ∷ map (λ claim. claim.0) m.0.claims) (sym c.store.ensures.2)
