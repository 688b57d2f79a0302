use Rattle.std.proofs.Common.{rules, ◌≡◌, ◌∙◌, sym, refl, true, false, Some}
use Rattle.std.specs.Result.{is_ok}
use Rattle.trade_file.specs.declared.draft.Draft.{Draft}
use Rattle.trade_file.specs.declared.roster_row.RosterRow.{RosterRow}
use Rattle.trade_file.specs.declared.roster_row.RosterRow.TheVariants.{Operator}
use Rattle.trade_file.specs.RosterFile.{is_taken, comes_twice}
use Rattle.trade_file.specs.Draft.{rows_of}
use Rattle.trade_file.proofs.DraftFacts.{added, taken}
use Rattle.trade_file.proofs.draft.Draft.add_operator.Goals as goal

pub returns : goal.returns
returns c =
    let d : Draft = c.args.self.now in
    let new : Draft = record d { operator = Some c.args.row; names = c.add.new.self } in
    let row : RosterRow = Operator c.args.row in
    let free : is_taken (rows_of d) c.args.row.name ≡ false = sym (c.requires.names c.args.row.name) ∙ sym c.has.ensures ∙ c.if-has.false in
    let none = sym c.is_some.ensures ∙ c.if-is_some.false in
    let once : comes_twice (rows_of d) row ≡ false = rw (free, none) refl in
    let named : is_ok c.add.result ≡ true = search rules in
    let names = taken c.add.result _ named c.add.ensures in
    added d new c.args.number row c.requires once refl refl names
