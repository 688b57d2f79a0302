use Rattle.std.proofs.Common.{◌≡◌, ◌≤◌, ◌∙◌, true, map, length, get_or, List, Option, None, ℕ, subst, sym, ap, cond, arith}
use Rattle.units_core.specs.Name.{is_name}
use Rattle.command_types.specs.declared.roster.MemberRow.{MemberRow}
use Rattle.command_types.specs.Roster.{Rows, are_different, member_place}
use Rattle.command_types.specs.Stamps.{stamp}
use Rattle.command_types.proofs.RosterFacts.{members_different}
use Rattle.command_types.proofs.StampFacts.{found}
use Rattle.command_types.proofs.roster.Roster.member_spelt.Goals as goal

pub member_at-requires : goal.member_at-requires
member_at-requires c =
    let r = c.self.inside in
    let rows : Rows = record { members = r.members.items; products = r.products.items; operator = r.operator } in
    subst (λ (members : List MemberRow). are_different (map (λ row. row.name) members) ≡ true) (sym c.deref.ensures.value) (members_different rows c.self.invariant.roster)

pub returns-then-has_stamp : goal.returns-then-has_stamp
returns-then-has_stamp c =
    let r = c.self.inside in
    let rows : Rows = record { members = r.members.items; products = r.products.items; operator = r.operator } in
    let has : (length c.args.text.now ≤ 6) × (get_or r.member_index c.place-place.result 0 ≡ stamp c.args.text.now) = c.has_stamp.ensures c.if-has_stamp.true in
    let at = found (λ (row : MemberRow). row.name) r.members.items r.member_index c.args.text.now c.place-place.result
    (members_different rows c.self.invariant.roster) c.self.invariant.members has.0 (λ i. omega (arith, c.type_inv.text i)) has.1 in
    at.1 ∙ ap (λ (rs : Rows). cond {A = Option ℕ} (is_name c.args.text.now) (member_place rs c.args.text.now) None) c.self.view_is
