use Rattle.std.proofs.Common.{None, ◌*◌, arith}
use Rattle.network_laws.specs.declared.rows.LimitRow.{LimitRow}
use Rattle.network_laws.specs.Limits.{limit_place}
use Rattle.split_parts.proofs.Sellers.{behind_one}
use Rattle.split_parts.proofs.own.limits_from.Goals as goal

pub returns-then-rows-from-clause-cursor : goal.returns-then-rows-from-clause-cursor
returns-then-rows-from-clause-cursor c =
    let rows = c.args.rows.now in
    let here = c.if-rows-from.true in
    let blank : LimitRow = record { seller = 0; buyer = 0; lower = 0; upper = None } in
    record {
      before = λ k d lk. c.requires.before k d lk;
      behind = behind_one limit_place rows c.args.from (c.args.seller * 65536) blank c.requires.rising c.if-from-rows.true (omega arith);
    }
