use Rattle.std.proofs.Common.{◌≡◌, ◌<◌, ◌≤◌, ◌^◌, ◌∷◌, ◌++◌, [], length, take, IsTrue, rules}
use Rattle.units_core.specs.Name.{is_name}
use Rattle.std.specs.Int.{w32, w64, to_le_bytes}
use Rattle.record_codec.proofs.ShortFacts.{pieces}
use Rattle.record_codec.proofs.short.encode_short.Goals as goal

pub returns-clause-exact : goal.returns-clause-exact
returns-clause-exact c =
    let name = c.args.by.now in
    let t : take c.put_at-end.result c.put_at-end.new.into ≡ to_le_bytes w64 c.args.moment = search rules in
    let a : take c.put_at-end-2.result c.put_at-end-2.new.into ≡ take c.put_at-end.result c.put_at-end.new.into ++ to_le_bytes w32 c.args.seat = search rules in
    let b : take c.put_at-end-3.result c.put_at-end-3.new.into ≡ take c.put_at-end-2.result c.put_at-end-2.new.into ++ length name ∷ [] = search rules in
    let n : take c.put_at-end-4.result c.put_at-end-4.new.into ≡ take c.put_at-end-3.result c.put_at-end-3.new.into ++ name = search rules in
    let d : take c.put_at-end-5.result c.put_at-end-5.new.into ≡ take c.put_at-end-4.result c.put_at-end-4.new.into ++ 10 ∷ [] = search rules in
    let e : take c.put_at-end-6.result c.put_at-end-6.new.into ≡ take c.put_at-end-5.result c.put_at-end-5.new.into ++ to_le_bytes w64 c.args.cycle = search rules in
    let f : take c.put_at.result c.put_at.new.into ≡ take c.put_at-end-6.result c.put_at-end-6.new.into ++ to_le_bytes w64 c.args.version = search rules in
    pieces c.args.moment c.args.seat c.args.cycle c.args.version name _ _ _ _ _ _ _ t a b n d e f

pub returns-clause-spells : goal.returns-clause-spells
returns-clause-spells c =
    let moment : c.args.moment ≤ 253402300799 = search rules in
    let seat : c.args.seat < 2 ^ 32 = search rules in
    let party : IsTrue (is_name c.args.by.now) = search rules in
    let cycle : c.args.cycle < 2 ^ 64 = search rules in
    let version : c.args.version < 2 ^ 64 = search rules in
    record { change = record { moment = moment; seat = seat; party = party; fields = (cycle, version) }; same = returns-clause-exact c }
