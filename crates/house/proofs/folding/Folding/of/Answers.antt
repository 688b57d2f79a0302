use Rattle.std.proofs.Common.{◌≡◌, ◌∙◌, List, ℕ, length, sym, subst, ap, arith}
use Rattle.journal_core.specs.Form.{IsSlots}
use Rattle.house.specs.Due.{IsFoldOf}
use Rattle.house.proofs.DueFacts.{due_written, due_fold}
use Rattle.house.proofs.folding.Folding.of.Goals.{in-Slots, in_default}
use Rattle.house.proofs.folding.Folding.of.Goals as goal

pub encode_base-requires : goal.encode_base-requires
encode_base-requires c =
    let due = rw c.in-Some.is at c.in_ok-base.ensures in
    due_written c.args.machine.now.state c.args.past.now c.requires.replayed c.requires.writable due.0 c.in-Some.base due.1

pub returns : goal.returns
returns c =
    let due = rw c.in-Some.is at c.in_ok-base.ensures in
    let bytes : List ℕ = c.in_ok-bytes.bytes.items in
    let same : c.in_ok-frame.frame ≡ bytes = c.in_ok-frame.ensures ∙ c.deref.ensures.value in
    let slots : IsSlots c.args.form = elim c.match-matches.branch [
      | in-Slots w ↦ subst IsSlots (sym w.in-Slots.is) tt
      | in_default w ↦ absurd (let bad = w.matches-is in let good = c.if-not-matches.false in cc)
    ] in (
      slots,
      due.0,
      subst (IsFoldOf c.args.past.now) (sym same)
          (due_fold c.args.machine.now.state c.args.past.now c.requires.replayed c.requires.writable due.0 c.in-Some.base bytes due.1 c.in_ok-bytes.ensures.exact c.in_ok-bytes.ensures.spells),
      omega (arith, c.len-size.ensures, c.in_ok-bytes.bytes.ok, c.deref.ensures.len, ap length c.deref.ensures.value, ap length same),
    )
