use Rattle.std.proofs.Common.{◌≡◌, ◌++◌, take, All}
use Rattle.std.specs.List.{flat_map}
use Rattle.command_types.specs.Spelling.{name_spelling}
use Rattle.base_codec.proofs.BaseKinds.{IsName}
use Rattle.base_codec.proofs.put.put_each_name.Given as goal

abbrev pub invariant-loop-name : goal.invariant-loop-name
invariant-loop-name l =
    (l.out.items ≡ l.fn.out.items ++ flat_map name_spelling (take l.name-index l.names)) × All IsName (take l.name-index l.names)
