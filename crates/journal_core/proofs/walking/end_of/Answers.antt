use Rattle.std.proofs.Common.{◌≡◌, List, ℕ, Err, IfErr, sym, subst, rules}
use Rattle.std.proofs.lemmas.List.{take_rest}
use Rattle.journal_core.specs.Lead.{IsLed}
use Rattle.journal_core.specs.Walk.{IsBreak, IsBadLead}
use Rattle.journal_core.specs.declared.form.Form.{Form}
use Rattle.journal_core.specs.declared.form.Form.TheVariants.{Plain, Slots}
use Rattle.journal_core.proofs.LeadFacts.{broken_by}
use Rattle.journal_core.proofs.walking.end_of.Goals as goal

pub returns-in_err-end-in-Plain-clause-fault : goal.returns-in_err-end-in-Plain-clause-fault
returns-in_err-end-in-Plain-clause-fault c =
    let file = c.args.bytes.now in
    let lead = c.args.lead.now in
    let is : c.from_residual.result ≡ Err c.in_err-end-in-Plain.field-0.0 = search rules in
    let led = subst (λ (f : Form). IsLed file f lead.base lead.gate) c.in-Plain.is c.requires in
    subst (λ r. IfErr r (IsBadLead file)) (sym is)
    (broken_by Plain file lead.base lead.gate c.in_err-end-in-Plain.field-0.0 led (subst (λ (l : List ℕ). IsBreak lead.gate l c.in_err-end-in-Plain.field-0.0) (take_rest file lead.gate) c.in_err-end-in-Plain.ensures.fault))

pub returns-in_err-end-in-Slots-clause-fault : goal.returns-in_err-end-in-Slots-clause-fault
returns-in_err-end-in-Slots-clause-fault c =
    let file = c.args.bytes.now in
    let lead = c.args.lead.now in
    let is : c.from_residual-in_err-end-in-Slots.result ≡ Err c.in_err-end-in-Slots.field-0.0 = search rules in
    let led = subst (λ (f : Form). IsLed file f lead.base lead.gate) c.in-Slots.is c.requires in
    subst (λ r. IfErr r (IsBadLead file)) (sym is)
    (broken_by (Slots c.in-Slots.selected c.in-Slots.offset) file lead.base lead.gate c.in_err-end-in-Slots.field-0.0 led
    (subst (λ (l : List ℕ). IsBreak lead.gate l c.in_err-end-in-Slots.field-0.0) (take_rest file lead.gate) c.in_err-end-in-Slots.ensures.fault))
