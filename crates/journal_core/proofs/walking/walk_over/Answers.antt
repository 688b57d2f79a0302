use Rattle.std.proofs.Common.{List, ℕ, refl, subst}
use Rattle.journal_core.specs.Lead.{IsLed, EndsLed}
use Rattle.journal_core.specs.declared.walked.Walked.{Walked}
use Rattle.journal_core.proofs.LeadFacts.{led_order, walked_by}
use Rattle.journal_core.proofs.walking.walk_over.Goals as goal

pub returns-clause-walked : goal.returns-clause-walked
returns-clause-walked c =
    let lead = c.in_ok-lead.lead in
    let led = subst (λ (l : List ℕ). IsLed l lead.form lead.base lead.gate) c.deref.ensures.value c.in_ok-lead.ensures.led in
    let ends = subst (λ (l : List ℕ). EndsLed lead.form l lead.gate c.in_ok-end.end) c.deref-2.ensures.value c.in_ok-end.ensures.ends in
    let w : Walked = record { bytes = c.args.bytes; base = lead.base; gate = lead.gate; form = lead.form; end = c.in_ok-end.end; within = led_order lead.form c.args.bytes.items lead.base lead.gate led } in
    (walked_by lead.form w refl led ends, refl)
