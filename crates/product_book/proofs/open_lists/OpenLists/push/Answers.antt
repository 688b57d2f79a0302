use Rattle.std.proofs.Common.{◌≡◌, ◌+◌, ◌-◌, length, arith}
use Rattle.std.specs.Vec.{vec_len, vec_capacity}
use Rattle.product_book.proofs.EntryFacts.{pushed, numbers_push}
use Rattle.product_book.proofs.open_lists.OpenLists.push.Goals as goal

pub invariant_of-self : goal.invariant_of-self
invariant_of-self c =
    let number : c.len.result + 1 ≡ length c.self.inside.nodes.items + 1 = omega (arith, c.len.ensures, c.self.inside.nodes.ok.0) in
    rw (c.push_back-node.ensures.lists, c.push_reserved.ensures.items, number)
    (pushed c.self.inside.rows.lists c.self.inside.nodes.items c.self.inside.size c.self.inside.spare c.self.inside.rows.spare (vec_capacity c.self.inside.nodes - vec_len c.self.inside.nodes) c.self.invariant c.args.list c.push_back-node.result
    (rw (← c.self.view_is) at c.requires.list) c.push_back-node.ensures.fresh c.push_back-node.new.self.spare (vec_capacity c.push_reserved.new.self - vec_len c.push_reserved.new.self) (rw (← c.self.view_is) at c.requires.room)
    c.push_back-node.ensures.spare (omega (arith, c.push_reserved.ensures.len, c.push_reserved.ensures.capacity)))

pub returns-clause-numbers : goal.returns-clause-numbers
returns-clause-numbers c =
    let number : c.len.result + 1 ≡ length c.self.inside.nodes.items + 1 = omega (arith, c.len.ensures, c.self.inside.nodes.ok.0) in
    rw (c.push_back-node.ensures.lists, number, ← c.self.view_is) (numbers_push c.self.inside.rows.lists c.args.list c.push_back-node.result.place (length c.self.inside.nodes.items + 1))
