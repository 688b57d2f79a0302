use Rattle.std.proofs.Common.{sym, subst}
use Rattle.network_laws.specs.Networks.{IsCursor}
use Rattle.cycle_states.specs.PairPlaces.{IsPastRows, pair_place}
use Rattle.cycle_states.proofs.PlaceFacts.{rows_before}
use Rattle.cycle_states.proofs.machine.proof_rows.to_amount.Goals as goal

pub row_from-now-requires-clause-past : goal.row_from-now-requires-clause-past
row_from-now-requires-clause-past c = subst (λ rows. IsPastRows rows c.args.before.now (pair_place c.args.seller c.args.buyer)) (sym c.rows_now.ensures.rows) c.requires.now

pub returns-clause-past : goal.returns-clause-past
returns-clause-past c = record {
  limit = c.requires.limit;
  now = rows_before c.rows_now.result.now c.args.part.now.problem.now.network.rows c.row_from-now.result (pair_place c.args.seller c.args.buyer) c.rows_now.ensures.rows c.row_from-now.ensures.end c.row_from-now.ensures.cursor;
  next = c.requires.next;
}

pub returns-clause-now : goal.returns-clause-now
returns-clause-now c = subst (λ rows. IsCursor rows c.row_from-now.result (pair_place c.args.seller c.args.buyer)) c.rows_now.ensures.rows c.row_from-now.ensures.cursor
