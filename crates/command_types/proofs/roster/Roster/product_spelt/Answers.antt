use Rattle.std.proofs.Common.{◌≡◌, ◌≤◌, ◌∙◌, true, map, length, get_or, List, Option, None, ℕ, subst, sym, ap, cond, arith}
use Rattle.units_core.specs.Name.{is_name}
use Rattle.command_types.specs.declared.roster.ProductRow.{ProductRow}
use Rattle.command_types.specs.Roster.{Rows, are_different, product_place}
use Rattle.command_types.specs.Stamps.{stamp}
use Rattle.command_types.proofs.RosterFacts.{products_different}
use Rattle.command_types.proofs.StampFacts.{found}
use Rattle.command_types.proofs.roster.Roster.product_spelt.Goals as goal

pub product_at-requires : goal.product_at-requires
product_at-requires c =
    let r = c.self.inside in
    let rows : Rows = record { members = r.members.items; products = r.products.items; operator = r.operator } in
    subst (λ (products : List ProductRow). are_different (map (λ row. row.name) products) ≡ true) (sym c.deref.ensures.value) (products_different rows c.self.invariant.roster)

pub returns-then-has_stamp-clause-place : goal.returns-then-has_stamp-clause-place
returns-then-has_stamp-clause-place c =
    let r = c.self.inside in
    let rows : Rows = record { members = r.members.items; products = r.products.items; operator = r.operator } in
    let has : (length c.args.text.now ≤ 6) × (get_or r.product_index c.place-place.result 0 ≡ stamp c.args.text.now) = c.has_stamp.ensures c.if-has_stamp.true in
    let at = found (λ (row : ProductRow). row.name) r.products.items r.product_index c.args.text.now c.place-place.result
    (products_different rows c.self.invariant.roster) c.self.invariant.products has.0 (λ i. omega (arith, c.type_inv.text i)) has.1 in
    at.1 ∙ ap (λ (rs : Rows). cond {A = Option ℕ} (is_name c.args.text.now) (product_place rs c.args.text.now) None) c.self.view_is

pub returns-then-has_stamp-clause-few : goal.returns-then-has_stamp-clause-few
returns-then-has_stamp-clause-few c =
    let r = c.self.inside in
    let rows : Rows = record { members = r.members.items; products = r.products.items; operator = r.operator } in
    let has : (length c.args.text.now ≤ 6) × (get_or r.product_index c.place-place.result 0 ≡ stamp c.args.text.now) = c.has_stamp.ensures c.if-has_stamp.true in
    let at = found (λ (row : ProductRow). row.name) r.products.items r.product_index c.args.text.now c.place-place.result
    (products_different rows c.self.invariant.roster) c.self.invariant.products has.0 (λ i. omega (arith, c.type_inv.text i)) has.1 in
    omega (arith, at.0, c.self.invariant.roster.few_products)
