use Rattle.std.proofs.Common.{◌≡◌, ◌-◌, ◌∙◌, sym, ap, set, length, arith}
use Rattle.linked_rows.specs.Links.{without_place}
use Rattle.linked_rows.proofs.LinkFacts.{after_read}
use Rattle.linked_rows.proofs.TakingFacts.{new_place, new_links, new_values, first_place, first_links, first_values}
use Rattle.linked_rows.proofs.pool.take_free.Goals as goal

pub push_reserved-requires : goal.push_reserved-requires
push_reserved-requires g c =
    let here = after_read c.args.links.now.items c.args.free c.args.links.now.len c.index.result.now c.index.ensures (omega arith) c.args.links.now.ok.0 in
    omega (arith, c.requires.new_link (omega (arith, here)), c.args.links.now.ok.0)

pub push_reserved-requires-then-first-free : goal.push_reserved-requires-then-first-free
push_reserved-requires-then-first-free g c =
    let here = after_read c.args.links.now.items c.args.free c.args.links.now.len c.index.result.now c.index.ensures (omega arith) c.args.links.now.ok.0 in
    omega (arith, c.requires.new_value (omega (arith, here)), c.args.values.now.ok.0)

pub take_out-requires-clause-place : goal.take_out-requires-clause-place
take_out-requires-clause-place g c =
    let here = after_read c.args.links.now.items c.args.free c.args.links.now.len c.index.result.now c.index.ensures (omega arith) c.args.links.now.ok.0 in
    omega (arith, c.requires.first, here)

pub take_out-requires-clause-first : goal.take_out-requires-clause-first
take_out-requires-clause-first g c =
    let here = after_read c.args.links.now.items c.args.free c.args.links.now.len c.index.result.now c.index.ensures (omega arith) c.args.links.now.ok.0 in
    rw here (c.requires.before (λ e. omega (arith, here, e)))

pub take_out-requires-clause-next : goal.take_out-requires-clause-next
take_out-requires-clause-next g c =
    let here = after_read c.args.links.now.items c.args.free c.args.links.now.len c.index.result.now c.index.ensures (omega arith) c.args.links.now.ok.0 in
    rw here (c.requires.next (λ e. omega (arith, here, e)))

pub overflow_sub-first : goal.overflow_sub-first
overflow_sub-first g c =
    let here = after_read c.args.links.now.items c.args.free c.args.links.now.len c.index.result.now c.index.ensures (omega arith) c.args.links.now.ok.0 in
    omega (arith, c.requires.above (λ e. omega (arith, here, e)), here)

pub overflow_sub-first-else-first-free : goal.overflow_sub-first-else-first-free
overflow_sub-first-else-first-free g c =
    let here = after_read c.args.links.now.items c.args.free c.args.links.now.len c.index.result.now c.index.ensures (omega arith) c.args.links.now.ok.0 in
    omega (arith, c.requires.above (λ e. omega (arith, here, e)), here)

pub index_mut-requires : goal.index_mut-requires
index_mut-requires g c =
    let here = after_read c.args.links.now.items c.args.free c.args.links.now.len c.index.result.now c.index.ensures (omega arith) c.args.links.now.ok.0 in
    omega (arith, c.requires.above (λ e. omega (arith, here, e)), here, c.requires.first, c.requires.size, c.args.values.now.ok.0)

pub returns-then-first-free-clause-place : goal.returns-then-first-free-clause-place
returns-then-first-free-clause-place g c =
    let here = after_read c.args.links.now.items c.args.free c.args.links.now.len c.index.result.now c.index.ensures (omega arith) c.args.links.now.ok.0 in
    omega (arith, new_place c.args.links.now.items c.args.free (omega (arith, here)), c.args.links.now.ok.0)

pub returns-then-first-free-clause-links : goal.returns-then-first-free-clause-links
returns-then-first-free-clause-links g c =
    let here = after_read c.args.links.now.items c.args.free c.args.links.now.len c.index.result.now c.index.ensures (omega arith) c.args.links.now.ok.0 in
    let is = new_links c.args.links.now.items c.args.free (omega (arith, here)) in
    let place : c.len-place.result ≡ length c.args.links.now.items = omega (arith, c.args.links.now.ok.0) in
    let pushed = rw place at c.push_reserved.ensures.items in
    pushed ∙ sym is

pub returns-then-first-free-clause-values : goal.returns-then-first-free-clause-values
returns-then-first-free-clause-values g c =
    let here = after_read c.args.links.now.items c.args.free c.args.links.now.len c.index.result.now c.index.ensures (omega arith) c.args.links.now.ok.0 in
    c.push_reserved-then-first-free.ensures.items ∙ sym (new_values c.args.links.now.items c.args.free (omega (arith, here)) c.args.values.now.items c.args.value)

pub returns-else-first-free-clause-place : goal.returns-else-first-free-clause-place
returns-else-first-free-clause-place g c =
    let here = after_read c.args.links.now.items c.args.free c.args.links.now.len c.index.result.now c.index.ensures (omega arith) c.args.links.now.ok.0 in
    here ∙ sym (first_place c.args.links.now.items c.args.free (λ e. omega (arith, here, e)))

pub returns-else-first-free-clause-links : goal.returns-else-first-free-clause-links
returns-else-first-free-clause-links g c =
    let here = after_read c.args.links.now.items c.args.free c.args.links.now.len c.index.result.now c.index.ensures (omega arith) c.args.links.now.ok.0 in
    c.take_out.ensures.items ∙ ap (λ x. without_place c.args.links.now.items x) here ∙ sym (first_links c.args.links.now.items c.args.free (λ e. omega (arith, here, e)))

pub returns-else-first-free-clause-values : goal.returns-else-first-free-clause-values
returns-else-first-free-clause-values g c =
    let here = after_read c.args.links.now.items c.args.free c.args.links.now.len c.index.result.now c.index.ensures (omega arith) c.args.links.now.ok.0 in
    ap (λ x. set c.args.values.now.items (x - c.args.free - 1) c.args.value) here ∙ sym (first_values c.args.links.now.items c.args.free (λ e. omega (arith, here, e)) c.args.values.now.items c.args.value)
