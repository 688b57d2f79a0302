use Rattle.std.proofs.Common.{Some}
use Rattle.indexmap.specs.IndexMap.{Updates}
use Rattle.units_core.specs.contracts.name.NamePartialEq.TheImpl.{eq-value as name_eq}
use Rattle.session.proofs.DraftNoteFacts.{found_after, sums_after, within_after, parted_after}
use Rattle.session.proofs.InsertFacts.{on_ok, one_more, sum_looks}
use Rattle.session.proofs.draft_rows.DraftRows.note.Goals as goal

pub invariant_of-self : goal.invariant_of-self
invariant_of-self c =
    let self = c.args.self.now in
    let key = c.args.key in
    let next = c.insert.new.self.entries in
    let one = one_more self.rows.entries next key c.args.amount c.get.result c.get.ensures.value c.in-Ok.ensures.entries c.in-Ok.ensures.updates.0 in
    let updates =
    on_ok c.insert-2.result (Updates name_eq.it self.sums c.insert-2.new.self key.product (Some c.sum_with-sum.result)) (c.insert-2.ensures.succeeds c.requires.room.1) c.insert-2.ensures.updates in
    let looks = sum_looks self.sums.entries c.insert-2.new.self.entries key.product c.sum_with-sum.result updates.0 in
    record {
      found = found_after self.rows.entries next key c.args.amount one self.found;
      summed = sums_after self.rows.entries next self.sums.entries c.insert-2.new.self.entries key c.args.amount c.sum_with-sum.result one c.sum_with-sum.ensures looks self.summed;
      within = within_after self.rows.entries next key c.args.amount one c.requires.within self.within;
      parted = parted_after self.rows.entries next key c.args.amount one c.requires.parties self.parted;
    }

pub returns : goal.returns
returns c =
    let one = one_more c.args.self.now.rows.entries c.insert.new.self.entries c.args.key c.args.amount c.get.result c.get.ensures.value c.in-Ok.ensures.entries c.in-Ok.ensures.updates.0 in
    one.rows
