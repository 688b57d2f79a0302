use Rattle.std.proofs.Common.{◌≡◌, length, arith}
use Rattle.csv.specs.Records.{fields_of}
use Rattle.trade_file.proofs.FieldFacts.{none_at_0, none_at_1, none_at_2, three}
use Rattle.trade_file.proofs.roster_row.three_fields.Goals as goal

pub returns-in_default : goal.returns-in_default
returns-in_default c = absurd (none_at_0 _ c.in_default.ensures.value (omega arith))

pub returns-in_default-get : goal.returns-in_default-get
returns-in_default-get c = absurd (none_at_1 _ c.in_default-get.ensures.value (omega arith))

pub returns-in_default-get-2 : goal.returns-in_default-get-2
returns-in_default-get-2 c = absurd (none_at_2 _ c.in_default-get-2.ensures.value (omega arith))

pub returns : goal.returns
returns c =
    let size : length (fields_of c.args.record.now) ≡ 3 = omega arith in
    record {
      some = three (fields_of c.args.record.now) c.in-Some.first.now c.in-Some-get.second.now c.in-Some-get-2.third.now size c.in-Some.ensures.value c.in-Some-get.ensures.value c.in-Some-get-2.ensures.value;
      none = tt;
    }
