use Rattle.std.proofs.Common.{◌+◌, [], ◌∷◌, length}
use Rattle.command_types.specs.History.{longer}
use Rattle.command_types.specs.declared.spelling.Spelling.TheVariants.{Second}
use Rattle.recovery.specs.StandsFor.{SpellsAs}
use Rattle.recovery.proofs.EntryFacts.{AllZip-more}
use Rattle.house.proofs.ChronicleFacts.{room_behind}
use Rattle.house.proofs.chronicle.Chronicle.push.Goals as goal

pub invariant_of-self : goal.invariant_of-self
invariant_of-self c =
    let i = c.self.inside in (
      rw (c.push-2.ensures.changes, c.push.ensures)
          (AllZip-more SpellsAs i.pool.changes i.past.entries (Second, c.args.record_bytes.now) c.args.entry.now c.self.invariant.0 c.requires.spells),
      room_behind (longer i.past (c.args.entry.now ∷ [])) c.push.new.self i.pool.room c.push-2.new.self.room (5 + length c.args.record_bytes.now) c.push.ensures c.push-2.ensures.room
          (rw (← c.self.view_is) at c.requires.votes),
    )
