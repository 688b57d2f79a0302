use Rattle.std.proofs.Common.{◌≤◌, Fits, w32, rules, arith}
use Rattle.dual_certificate.proofs.PairFacts.{limit_not_before, row_not_before, limit_raised, row_raised, next_of_members, have_no_row}
use Rattle.dual_certificate.proofs.pair_cursor.PairCursor.found.Goals as goal

pub returns-clause-behind : goal.returns-clause-behind
returns-clause-behind c =
    let pairs = c.args.pairs.now in
    let at = c.args.self in
    let limit = c.requires.at.limit in
    let row = c.requires.at.row in
    omega (arith, limit.knows, row.knows, c.min.ensures, limit_not_before pairs.limits.now at.limit.at at.place c.requires.within limit.first, row_not_before pairs.rows.now at.row.at at.place c.requires.within row.first)

pub returns-clause-pair : goal.returns-clause-pair
returns-clause-pair c =
    let pairs = c.args.pairs.now in
    let at = c.args.self in
    let p = c.min.result in
    let limit = c.requires.at.limit in
    let row = c.requires.at.row in
    let behind : at.place ≤ p = returns-clause-behind c in
    let fits : Fits w32 p = search rules in
    record {
      cursors = record {
        limit = record {
          end = limit.end;
          first = limit_raised pairs.limits.now at.limit.at at.place p c.requires.pairs.limits.rising limit.first behind (omega (arith, limit.knows, c.min.ensures));
          knows = limit.knows;
        };
        row = record {
          end = row.end;
          first = row_raised pairs.rows.now at.row.at at.place p c.requires.pairs.rows.rising row.first behind (omega (arith, row.knows, c.min.ensures));
          knows = row.knows;
        };
      };
      end = omega (arith, fits);
      seller = λ l. (next_of_members pairs at.limit.at at.row.at p c.requires.pairs (omega (arith, limit.knows, row.knows, c.min.ensures)) l).0;
      buyer = λ l. (next_of_members pairs at.limit.at at.row.at p c.requires.pairs (omega (arith, limit.knows, row.knows, c.min.ensures)) l).1;
    }

pub returns-clause-passed : goal.returns-clause-passed
returns-clause-passed c =
    let pairs = c.args.pairs.now in
    let at = c.args.self in
    let pair = returns-clause-pair c in
    have_no_row pairs at.limit.at at.row.at at.place c.min.result c.requires.at.limit.first pair.cursors.limit.first c.requires.at.row.first pair.cursors.row.first
