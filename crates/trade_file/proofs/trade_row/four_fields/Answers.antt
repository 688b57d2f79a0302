use Rattle.std.proofs.Common.{◌≡◌, length, arith}
use Rattle.csv.specs.Records.{fields_of}
use Rattle.trade_file.proofs.TradeFieldFacts.{none_at, four}
use Rattle.trade_file.proofs.trade_row.four_fields.Goals as goal

pub returns-in_default : goal.returns-in_default
returns-in_default c = absurd (none_at _ 0 c.in_default.ensures.value (omega arith))

pub returns-in_default-get : goal.returns-in_default-get
returns-in_default-get c = absurd (none_at _ 1 c.in_default-get.ensures.value (omega arith))

pub returns-in_default-get-2 : goal.returns-in_default-get-2
returns-in_default-get-2 c = absurd (none_at _ 2 c.in_default-get-2.ensures.value (omega arith))

pub returns-in_default-get-3 : goal.returns-in_default-get-3
returns-in_default-get-3 c = absurd (none_at _ 3 c.in_default-get-3.ensures.value (omega arith))

pub returns : goal.returns
returns c =
    let size : length (fields_of c.args.record.now) ≡ 4 = omega arith in
    record {
      some = four (fields_of c.args.record.now) c.in-Some.first.now c.in-Some-get.second.now c.in-Some-get-2.third.now c.in-Some-get-3.fourth.now size c.in-Some.ensures.value c.in-Some-get.ensures.value c.in-Some-get-2.ensures.value c.in-Some-get-3.ensures.value;
      none = tt;
    }
