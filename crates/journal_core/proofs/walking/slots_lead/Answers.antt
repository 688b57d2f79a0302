use Rattle.std.proofs.Common.{◌<◌, ◌^◌, sym, ◌∙◌, arith, rules}
use Rattle.std.proofs.lemmas.List.{take_rest}
use Rattle.journal_core.proofs.LeadFacts.{named_by, low_offset, far_offset, no_record, far_base, slots_led}
use Rattle.journal_core.proofs.walking.slots_lead.Goals as goal

pub returns-then-offset-lt-FIRST_BODY-clause-fault : goal.returns-then-offset-lt-FIRST_BODY-clause-fault
returns-then-offset-lt-FIRST_BODY-clause-fault c =
    let file = c.args.bytes.now in
    let offset = c.offset_of-offset.result in
    let bits : offset < 2 ^ 64 = search rules in
    low_offset file c.selected_in-selected.result c.place_of-slot.result offset c.requires.long c.requires.header c.selected_in-selected.ensures c.place_of-slot.ensures
    (named_by c.place_of-slot.result offset file c.offset_of-offset.ensures) bits (omega (arith, c.if-offset-lt-FIRST_BODY.true))

pub returns-then-offset-bytes-clause-fault : goal.returns-then-offset-bytes-clause-fault
returns-then-offset-bytes-clause-fault c =
    let file = c.args.bytes.now in
    let offset = c.offset_of-offset.result in
    let bits : offset < 2 ^ 64 = search rules in
    far_offset file c.selected_in-selected.result c.place_of-slot.result offset c.requires.long c.requires.header c.selected_in-selected.ensures c.place_of-slot.ensures
    (named_by c.place_of-slot.result offset file c.offset_of-offset.ensures) bits (omega (arith, c.if-offset-bytes.true))

pub returns-in_default-clause-fault : goal.returns-in_default-clause-fault
returns-in_default-clause-fault c =
    let file = c.args.bytes.now in
    let offset = c.offset_of-offset.result in
    let bits : offset < 2 ^ 64 = search rules in
    no_record file c.selected_in-selected.result c.place_of-slot.result offset c.requires.long c.requires.header c.selected_in-selected.ensures c.place_of-slot.ensures
    (named_by c.place_of-slot.result offset file c.offset_of-offset.ensures) bits _ (take_rest file offset) c.in_default.ensures.none

pub returns-then-gate-ge-LIMIT-clause-fault : goal.returns-then-gate-ge-LIMIT-clause-fault
returns-then-gate-ge-LIMIT-clause-fault c =
    let file = c.args.bytes.now in
    let offset = c.offset_of-offset.result in
    let bits : offset < 2 ^ 64 = search rules in
    far_base file c.selected_in-selected.result c.place_of-slot.result offset c.requires.long c.requires.header c.selected_in-selected.ensures c.place_of-slot.ensures
    (named_by c.place_of-slot.result offset file c.offset_of-offset.ensures) bits c.in-Some.base.now c.in-Some.field-0-1.now (sym (take_rest file offset) ∙ c.in-Some.ensures.found) c.in-Some.ensures.small (omega (arith, c.if-gate-ge-LIMIT.true))

pub returns-clause-led : goal.returns-clause-led
returns-clause-led c =
    let file = c.args.bytes.now in
    let offset = c.offset_of-offset.result in
    let bits : offset < 2 ^ 64 = search rules in
    slots_led file c.selected_in-selected.result c.place_of-slot.result offset c.requires.long c.requires.header c.selected_in-selected.ensures c.place_of-slot.ensures
    (named_by c.place_of-slot.result offset file c.offset_of-offset.ensures) bits c.in-Some.base.now c.in-Some.field-0-1.now (sym (take_rest file offset) ∙ c.in-Some.ensures.found) c.in-Some.ensures.small
    (omega (arith, c.if-offset-lt-FIRST_BODY.false)) (omega (arith, c.if-offset-bytes.false)) (omega (arith, c.if-gate-ge-LIMIT.false))
