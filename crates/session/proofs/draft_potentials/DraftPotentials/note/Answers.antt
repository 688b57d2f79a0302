use Rattle.std.proofs.Common.{Some}
use Rattle.std.proofs.lemmas.Int.{to_z-of_z}
use Rattle.indexmap.specs.IndexMap.{Updates}
use Rattle.session.specs.contracts.draft_potentials.PlaceKeyPartialEq.TheImpl.{eq-value as place_eq}
use Rattle.session.proofs.InsertFacts.{on_ok, one_potential, range_insert}
use Rattle.session.proofs.draft_potentials.DraftPotentials.note.Goals as goal
use mir.Syntax.{w32}
use mir.Val.{to_z, of_z}

pub invariant_of-self : goal.invariant_of-self
invariant_of-self c =
    let updates =
    on_ok c.insert.result (Updates place_eq.it c.args.self.now.values c.insert.new.self c.args.key (Some (to_z w32 (of_z w32 c.args.value)))) (c.insert.ensures.succeeds c.requires.room) c.insert.ensures.updates in
    record {
      in_range = range_insert c.args.self.now.values.entries c.insert.new.self.entries c.args.key c.args.value (to_z w32 (of_z w32 c.args.value)) (to_z-of_z w32 c.args.value c.ranges.value) c.requires.in_range updates.0 c.args.self.now.in_range;
    }

pub returns : goal.returns
returns c =
    one_potential c.args.self.now.values.entries c.insert.new.self.entries c.args.key c.args.value (to_z w32 (of_z w32 c.args.value)) (to_z-of_z w32 c.args.value c.ranges.value) c.in-Ok.ensures.entries
