use Rattle.std.proofs.Common.{refl}
use Rattle.compress_server.specs.declared.ending.End.TheVariants.{BadWords, SourceFault, SinkFault, DiskFault, Damaged, Limit, ListenerFault, FilesFault, PeerRefused, PeerBroken, JournalFull, Unrolled}
use Rattle.compress_server.specs.Seen.{output_by}
use Rattle.compress_server.proofs.StatusFacts.{fixed_told, made_told}
use Rattle.compress_server.proofs.ending.tell_end.Goals as goal

pub returns-in-BadWords : goal.returns-in-BadWords
returns-in-BadWords g c = fixed_told (output_by g.E.Sink c.args.errors.now) (output_by g.E.Sink c.tell.new.errors) c.args.end BadWords c.tell.result c.in-BadWords.is c.tell.ensures.status c.tell.ensures.line

pub returns-in-SourceFault : goal.returns-in-SourceFault
returns-in-SourceFault g c = fixed_told (output_by g.E.Sink c.args.errors.now) (output_by g.E.Sink c.tell-in-SourceFault.new.errors) c.args.end SourceFault c.tell-in-SourceFault.result c.in-SourceFault.is c.tell-in-SourceFault.ensures.status c.tell-in-SourceFault.ensures.line

pub returns-in-SinkFault : goal.returns-in-SinkFault
returns-in-SinkFault g c = fixed_told (output_by g.E.Sink c.args.errors.now) (output_by g.E.Sink c.tell-in-SinkFault.new.errors) c.args.end SinkFault c.tell-in-SinkFault.result c.in-SinkFault.is c.tell-in-SinkFault.ensures.status c.tell-in-SinkFault.ensures.line

pub returns-in-DiskFault : goal.returns-in-DiskFault
returns-in-DiskFault g c = fixed_told (output_by g.E.Sink c.args.errors.now) (output_by g.E.Sink c.tell-in-DiskFault.new.errors) c.args.end DiskFault c.tell-in-DiskFault.result c.in-DiskFault.is c.tell-in-DiskFault.ensures.status c.tell-in-DiskFault.ensures.line

pub returns-in-Limit : goal.returns-in-Limit
returns-in-Limit g c = fixed_told (output_by g.E.Sink c.args.errors.now) (output_by g.E.Sink c.tell-in-Limit.new.errors) c.args.end Limit c.tell-in-Limit.result c.in-Limit.is c.tell-in-Limit.ensures.status c.tell-in-Limit.ensures.line

pub returns-in-ListenerFault : goal.returns-in-ListenerFault
returns-in-ListenerFault g c = fixed_told (output_by g.E.Sink c.args.errors.now) (output_by g.E.Sink c.tell-in-ListenerFault.new.errors) c.args.end ListenerFault c.tell-in-ListenerFault.result c.in-ListenerFault.is c.tell-in-ListenerFault.ensures.status c.tell-in-ListenerFault.ensures.line

pub returns-in-FilesFault : goal.returns-in-FilesFault
returns-in-FilesFault g c = fixed_told (output_by g.E.Sink c.args.errors.now) (output_by g.E.Sink c.tell-in-FilesFault.new.errors) c.args.end FilesFault c.tell-in-FilesFault.result c.in-FilesFault.is c.tell-in-FilesFault.ensures.status c.tell-in-FilesFault.ensures.line

pub returns-in-Damaged : goal.returns-in-Damaged
returns-in-Damaged g c =
    made_told (λ v. v.items) (output_by g.E.Sink c.args.errors.now) (output_by g.E.Sink c.tell_made-in-Damaged.new.errors) c.args.end (Damaged c.in-Damaged.place) c.tell_made-in-Damaged.result c.damage_line.result c.in-Damaged.is refl c.damage_line.ensures c.tell_made-in-Damaged.ensures.told c.tell_made-in-Damaged.ensures.memory

pub returns-in-Unrolled : goal.returns-in-Unrolled
returns-in-Unrolled g c =
    made_told (λ v. v.items) (output_by g.E.Sink c.args.errors.now) (output_by g.E.Sink c.tell_made-in-Unrolled.new.errors) c.args.end (Unrolled c.in-Unrolled.obstacle) c.tell_made-in-Unrolled.result c.obstacle_line.result c.in-Unrolled.is refl c.obstacle_line.ensures c.tell_made-in-Unrolled.ensures.told c.tell_made-in-Unrolled.ensures.memory

pub returns-in-PeerRefused : goal.returns-in-PeerRefused
returns-in-PeerRefused g c =
    made_told (λ v. v.items) (output_by g.E.Sink c.args.errors.now) (output_by g.E.Sink c.tell_made-in-PeerRefused.new.errors) c.args.end (PeerRefused c.in-PeerRefused.number) c.tell_made-in-PeerRefused.result c.refused_line.result c.in-PeerRefused.is refl c.refused_line.ensures c.tell_made-in-PeerRefused.ensures.told c.tell_made-in-PeerRefused.ensures.memory

pub returns-in-PeerBroken : goal.returns-in-PeerBroken
returns-in-PeerBroken g c =
    made_told (λ v. v.items) (output_by g.E.Sink c.args.errors.now) (output_by g.E.Sink c.tell_made-in-PeerBroken.new.errors) c.args.end (PeerBroken c.in-PeerBroken.at) c.tell_made-in-PeerBroken.result c.broken_line.result c.in-PeerBroken.is refl c.broken_line.ensures c.tell_made-in-PeerBroken.ensures.told c.tell_made-in-PeerBroken.ensures.memory

pub returns-in-JournalFull : goal.returns-in-JournalFull
returns-in-JournalFull g c =
    made_told (λ v. v.items) (output_by g.E.Sink c.args.errors.now) (output_by g.E.Sink c.tell_made-in-JournalFull.new.errors) c.args.end (JournalFull c.in-JournalFull.size) c.tell_made-in-JournalFull.result c.full_line.result c.in-JournalFull.is refl c.full_line.ensures c.tell_made-in-JournalFull.ensures.told c.tell_made-in-JournalFull.ensures.memory
