use Rattle.std.proofs.Common.{◌≡◌, ◌<◌, ◌^◌, ℕ, take, get_or, true}
use Rattle.units_core.specs.Number.{is_digit, value_of}
use Rattle.units_core.proofs.amount.read_few_digits.Given as goal

abbrev pub invariant-loop-byte : goal.invariant-loop-byte
invariant-loop-byte l = record {
  value : l.value ≡ value_of (take l.byte-index l.text);
  few : l.value < 10 ^ l.byte-index;
  digits : (k : ℕ) → k < l.byte-index → is_digit (get_or l.text k 0) ≡ true;
}
