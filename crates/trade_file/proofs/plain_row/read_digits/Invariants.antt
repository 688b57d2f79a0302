use Rattle.std.proofs.Common.{◌≡◌, ◌<◌, ◌^◌, ℕ, take, get_or, true}
use Rattle.units_core.specs.Number.{is_digit, value_of}
use Rattle.trade_file.proofs.plain_row.read_digits.Given as goal

abbrev pub invariant-loop-at : goal.invariant-loop-at
invariant-loop-at l = record {
  value : l.value ≡ value_of (take l.at l.text);
  few : l.value < 10 ^ l.at;
  digits : (k : ℕ) → k < l.at → is_digit (get_or l.text k 0) ≡ true;
}
