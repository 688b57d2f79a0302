use Rattle.std.proofs.Common.{◌-◌, ◌∙◌, None, refl, sym, arith}
use Rattle.std.proofs.lemmas.List.{get_or_read}
use Rattle.std.specs.Vec.{vec_len, vec_capacity}
use Rattle.product_book.proofs.EntryFacts.{taken, taken_numbers, none_numbers}
use Rattle.product_book.proofs.open_lists.OpenLists.take_out.Goals as goal

pub invariant_of-self : goal.invariant_of-self
invariant_of-self c =
    let high = rw (← c.self.view_is) at c.requires.there in
    let found = sym (get_or_read c.self.inside.nodes.items (c.args.number - 1) c.index.result.now (omega (arith, high, c.requires.some)) c.index.ensures None) ∙ c.in-Some.is in
    rw c.unlink.ensures.lists
    (taken c.self.inside.rows.lists c.self.inside.nodes.items c.self.inside.size c.self.inside.spare c.self.inside.rows.spare (vec_capacity c.self.inside.nodes - vec_len c.self.inside.nodes) c.self.invariant
    c.args.number c.in-Some.node c.requires.some found c.unlink.new.self.spare (vec_capacity c.self.inside.nodes - vec_len c.self.inside.nodes) c.unlink.ensures.spare refl)

pub returns-in-Some-clause-numbers : goal.returns-in-Some-clause-numbers
returns-in-Some-clause-numbers c =
    let high = rw (← c.self.view_is) at c.requires.there in
    let found = sym (get_or_read c.self.inside.nodes.items (c.args.number - 1) c.index.result.now (omega (arith, high, c.requires.some)) c.index.ensures None) ∙ c.in-Some.is in
    rw (c.unlink.ensures.lists, ← c.self.view_is)
    (taken_numbers c.self.inside.rows.lists c.self.inside.nodes.items c.self.inside.size c.self.inside.spare c.self.inside.rows.spare (vec_capacity c.self.inside.nodes - vec_len c.self.inside.nodes) c.self.invariant
    c.args.number c.in-Some.node c.requires.some found)

pub returns-in_default-clause-numbers : goal.returns-in_default-clause-numbers
returns-in_default-clause-numbers c =
    let high = rw (← c.self.view_is) at c.requires.there in
    let found = sym (get_or_read c.self.inside.nodes.items (c.args.number - 1) c.index.result.now (omega (arith, high, c.requires.some)) c.index.ensures None) ∙ c.in_default.is in
    rw (← c.self.view_is)
    (none_numbers c.self.inside.rows.lists c.self.inside.nodes.items c.self.inside.size c.self.inside.spare c.self.inside.rows.spare (vec_capacity c.self.inside.nodes - vec_len c.self.inside.nodes) c.self.invariant c.args.number found)
