use Rattle.std.proofs.Common.{◌≡◌, ◌≤◌, ◌<◌, ◌^◌, take}
use Rattle.command_types.specs.Stamps.{key_number}
use Rattle.command_types.proofs.name_index.key_of.Given as goal

abbrev pub invariant-loop-byte : goal.invariant-loop-byte
invariant-loop-byte l = record {
  key : l.byte-index ≤ 6 → l.key ≡ key_number (take l.byte-index l.text);
  few : l.byte-index ≤ 6 → l.key < 1034 ^ l.byte-index;
}
