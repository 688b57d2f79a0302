use Rattle.std.proofs.Common.{rules, ◌≡◌, ◌∙◌, sym, refl, true, false}
use Rattle.std.specs.Result.{is_ok}
use Rattle.trade_file.specs.declared.draft.Draft.{Draft}
use Rattle.trade_file.specs.declared.roster_row.RosterRow.{RosterRow}
use Rattle.trade_file.specs.declared.roster_row.RosterRow.TheVariants.{Product}
use Rattle.trade_file.specs.RosterFile.{comes_twice, is_one_too_many, with_row}
use Rattle.trade_file.specs.Draft.{rows_of}
use Rattle.trade_file.proofs.DraftFacts.{added, taken}
use Rattle.trade_file.proofs.draft.Draft.add_product.Goals as goal

pub returns : goal.returns
returns c =
    let d : Draft = c.args.self.now in
    let new : Draft = record d { products = c.push.new.self; names = c.add.new.self } in
    let row : RosterRow = Product c.args.row in
    let once : comes_twice (rows_of d) row ≡ false = sym (c.requires.names c.args.row.name) ∙ sym c.has.ensures ∙ c.if-has.false in
    let few : is_one_too_many (rows_of d) row ≡ false = sym (rw c.deref.ensures.value at c.is_full_of_products.ensures) ∙ c.if-is_full_of_products.false in
    let good : is_ok c.push.result ≡ true = search rules in
    let items = rw good at c.push.ensures.items in
    let named : is_ok c.add.result ≡ true = search rules in
    let names = taken c.add.result _ named c.add.ensures in
    let rows : rows_of new ≡ with_row (rows_of d) row = rw items refl in
    added d new c.args.number row c.requires once few rows names
