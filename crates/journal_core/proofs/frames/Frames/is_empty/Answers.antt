use Rattle.std.proofs.Common.{◌≡◌, length, arith, sym, ◌∙◌}
use Rattle.std.proofs.lemmas.Bool.{eq-eqb, eqb-true}
use Rattle.journal_core.proofs.FrameFacts.{none_of_one, one_of_none}
use Rattle.journal_core.proofs.frames.Frames.is_empty.Goals as goal

pub returns : goal.returns
returns c =
    let i = c.self.inside in
    let size : c.len.result ≡ length i.bytes.items = omega (arith, c.len.ensures, i.bytes.ok.0) in (
      λ one. sym c.self.view_is ∙ none_of_one i.log.items i.bytes.items c.self.invariant.0 (sym size ∙ eqb-true c.len.result 1 one),
      λ none. eq-eqb c.len.result 1 (size ∙ one_of_none i.log.items i.bytes.items c.self.invariant.0 (c.self.view_is ∙ none)),
    )
