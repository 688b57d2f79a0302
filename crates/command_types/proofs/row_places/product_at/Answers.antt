use Rattle.std.proofs.Common.{◌≡◌, true, get_or, subst, arith}
use Rattle.std.proofs.lemmas.Slice.Eq.{bytes_eq-Decides}
use Rattle.std.specs.Str.{bytes_eq}
use Rattle.units_core.specs.Name.{is_name}
use Rattle.command_types.specs.declared.roster.ProductRow.{ProductRow}
use Rattle.command_types.proofs.RosterFacts.{first_place}
use Rattle.command_types.proofs.row_places.product_at.Goals as goal

pub returns-then-is_same-clause-place : goal.returns-then-is_same-clause-place
returns-then-is_same-clause-place c =
    let row : ProductRow = get_or c.args.products.now c.args.place c.index-products-place.result in
    let here : bytes_eq row.name c.args.text.now ≡ true = grind (arith, c.text.ensures.text, c.is_same.ensures, c.if-is_same.true) in
    let named : is_name c.args.text.now ≡ true = subst (λ n. is_name n ≡ true) ((bytes_eq-Decides row.name c.args.text.now).0 here) c.text.ensures.form in
    rw named (first_place (λ row. row.name) c.args.products.now c.args.place c.index-products-place.result c.args.text.now (omega arith) c.requires here)
