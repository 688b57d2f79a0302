use Rattle.std.proofs.Common.{◌≡◌, ◌≤◌, ◌-◌, ◌∙◌, ℕ, length, None, get_or, sym, ap, arith}
use Rattle.std.proofs.lemmas.List.{get_or_read}
use Rattle.std.specs.Vec.{vec_len, vec_capacity}
use Rattle.product_book.proofs.EntryFacts.{forgotten, forgotten_numbers, forgotten_none, forgotten_none_numbers}
use Rattle.product_book.proofs.open_lists.OpenLists.forget_last.Goals as goal

pub invariant_of-self : goal.invariant_of-self
invariant_of-self c =
    let i = c.self.inside in
    let nodes = i.nodes.items in
    let some : 1 ≤ length nodes = rw (← c.self.view_is) at c.requires in
    let same : c.len-at.result - 1 ≡ length nodes - 1 = omega (arith, c.len-at.ensures, i.nodes.ok.0) in
    let found = ap (λ (k : ℕ). get_or nodes k None) (sym same) ∙ sym (get_or_read nodes (c.len-at.result - 1) c.index.result.now (omega (arith, same, some)) c.index.ensures None) ∙ c.in_default.is in
    rw (c.truncate.ensures.items, same)
    (forgotten_none i.rows.lists nodes i.size i.spare i.rows.spare (vec_capacity i.nodes - vec_len i.nodes) (vec_capacity c.truncate.new.self - vec_len c.truncate.new.self) c.self.invariant some (omega (arith, c.truncate.ensures.len, c.truncate.ensures.capacity, c.len-at.ensures)) found)

pub returns-in_default-clause-numbers : goal.returns-in_default-clause-numbers
returns-in_default-clause-numbers c =
    let i = c.self.inside in
    let nodes = i.nodes.items in
    let some : 1 ≤ length nodes = rw (← c.self.view_is) at c.requires in
    let same : c.len-at.result - 1 ≡ length nodes - 1 = omega (arith, c.len-at.ensures, i.nodes.ok.0) in
    let found = ap (λ (k : ℕ). get_or nodes k None) (sym same) ∙ sym (get_or_read nodes (c.len-at.result - 1) c.index.result.now (omega (arith, same, some)) c.index.ensures None) ∙ c.in_default.is in
    rw (← c.self.view_is)
    (forgotten_none_numbers i.rows.lists nodes i.size i.spare i.rows.spare (vec_capacity i.nodes - vec_len i.nodes) (vec_capacity c.truncate.new.self - vec_len c.truncate.new.self) c.self.invariant some (omega (arith, c.truncate.ensures.len, c.truncate.ensures.capacity, c.len-at.ensures)) found)

pub invariant_of-self-2 : goal.invariant_of-self-2
invariant_of-self-2 c =
    let i = c.self.inside in
    let nodes = i.nodes.items in
    let some : 1 ≤ length nodes = rw (← c.self.view_is) at c.requires in
    let same : c.len-at.result - 1 ≡ length nodes - 1 = omega (arith, c.len-at.ensures, i.nodes.ok.0) in
    let found = ap (λ (k : ℕ). get_or nodes k None) (sym same) ∙ sym (get_or_read nodes (c.len-at.result - 1) c.index.result.now (omega (arith, same, some)) c.index.ensures None) ∙ c.in-Some.is in
    rw (c.truncate-2.ensures.items, c.unlink.ensures.lists, same)
    (forgotten i.rows.lists nodes i.size i.spare i.rows.spare (vec_capacity i.nodes - vec_len i.nodes) (vec_capacity c.truncate-2.new.self - vec_len c.truncate-2.new.self) c.self.invariant some (omega (arith, c.truncate-2.ensures.len, c.truncate-2.ensures.capacity, c.len-at.ensures)) c.in-Some.node found c.unlink.new.self.spare c.unlink.ensures.spare)

pub returns-clause-numbers : goal.returns-clause-numbers
returns-clause-numbers c =
    let i = c.self.inside in
    let nodes = i.nodes.items in
    let some : 1 ≤ length nodes = rw (← c.self.view_is) at c.requires in
    let same : c.len-at.result - 1 ≡ length nodes - 1 = omega (arith, c.len-at.ensures, i.nodes.ok.0) in
    let found = ap (λ (k : ℕ). get_or nodes k None) (sym same) ∙ sym (get_or_read nodes (c.len-at.result - 1) c.index.result.now (omega (arith, same, some)) c.index.ensures None) ∙ c.in-Some.is in
    rw (c.unlink.ensures.lists, ← c.self.view_is)
    (forgotten_numbers i.rows.lists nodes i.size i.spare i.rows.spare (vec_capacity i.nodes - vec_len i.nodes) (vec_capacity c.truncate-2.new.self - vec_len c.truncate-2.new.self) c.self.invariant some (omega (arith, c.truncate-2.ensures.len, c.truncate-2.ensures.capacity, c.len-at.ensures)) c.in-Some.node found)
