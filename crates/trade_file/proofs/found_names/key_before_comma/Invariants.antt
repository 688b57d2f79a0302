use Rattle.std.proofs.Common.{◌≡◌, ◌<◌, ◌^◌, take}
use Rattle.command_types.specs.Stamps.{key_number}
use Rattle.trade_file.proofs.found_names.key_before_comma.Given as goal

abbrev pub invariant-loop-at : goal.invariant-loop-at
invariant-loop-at l = record {
  key : l.key ≡ key_number (take l.at l.text);
  few : l.key < 1034 ^ l.at;
}
