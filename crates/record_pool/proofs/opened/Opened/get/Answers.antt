use Rattle.std.proofs.Common.{◌+◌, ◌<◌, List, [], length, get_or, sym, ◌∙◌, ap, arith}
use Rattle.command_types.specs.declared.spelling.Spelling.TheVariants.{Second}
use Rattle.recovery.specs.Bodies.{Written}
use Rattle.record_pool.specs.Parts.{in_second}
use Rattle.record_pool.proofs.PartFacts.{parted_length, second_at}
use Rattle.record_pool.proofs.opened.Opened.get.Goals as goal

pub overflow_add-number : goal.overflow_add-number
overflow_add-number c =
    let o = c.self.inside in
    omega (arith, c.requires, ap length c.self.view_is, parted_length o.marks.records o.first o.skipped c.self.invariant.within, c.self.invariant.few)

pub returns : goal.returns
returns c =
    let o = c.self.inside in
    let n = c.args.number in
    let inside : n + o.skipped < length o.marks.records = omega (arith, c.requires, ap length c.self.view_is, parted_length o.marks.records o.first o.skipped c.self.invariant.within) in
    ap in_second c.record_of-2.ensures ∙ sym (second_at o.marks.records o.first o.skipped n c.self.invariant.within c.if-number-self.false inside)
    ∙ ap (λ (l : List Written). get_or l n (Second, [])) c.self.view_is
