use Rattle.std.proofs.Common.{sym, subst}
use Rattle.network_laws.specs.Limits.{IsLimitCursor}
use Rattle.network_laws.specs.Networks.{IsCursor}
use Rattle.cycle_states.specs.PairPlaces.{IsPastLimits, IsPastRows, pair_place}
use Rattle.cycle_states.proofs.PlaceFacts.{limits_before, rows_before}
use Rattle.cycle_states.proofs.machine.pair_places.PairPlaces.to.Goals as goal

pub limit_from-limit-requires-clause-past : goal.limit_from-limit-requires-clause-past
limit_from-limit-requires-clause-past c = subst (λ rows. IsPastLimits rows c.args.self.limit (pair_place c.args.seller c.args.buyer)) (sym c.limit_rows.ensures.rows) c.requires.limit

pub row_from-now-requires-clause-past : goal.row_from-now-requires-clause-past
row_from-now-requires-clause-past c = subst (λ rows. IsPastRows rows c.args.self.now (pair_place c.args.seller c.args.buyer)) (sym c.rows_now.ensures.rows) c.requires.now

pub row_from-next-requires-clause-past : goal.row_from-next-requires-clause-past
row_from-next-requires-clause-past c = subst (λ rows. IsPastRows rows c.args.self.next (pair_place c.args.seller c.args.buyer)) (sym c.rows_next.ensures.rows) c.requires.next

pub returns-clause-pair : goal.returns-clause-pair
returns-clause-pair c =
    let part = c.args.part.now in
    let place = pair_place c.args.seller c.args.buyer in
    let limit = c.limit_from-limit in
    let now = c.row_from-now in
    let next = c.row_from-next in
    record {
      past = record {
        limit = limits_before c.limit_rows.result.now part.problem.now.limits.rows limit.result place c.limit_rows.ensures.rows limit.ensures.end limit.ensures.cursor;
        now = rows_before c.rows_now.result.now part.problem.now.network.rows now.result place c.rows_now.ensures.rows now.ensures.end now.ensures.cursor;
        next = rows_before c.rows_next.result.now part.solution.now.network.rows next.result place c.rows_next.ensures.rows next.ensures.end next.ensures.cursor;
      };
      limit = subst (λ rows. IsLimitCursor rows limit.result place) c.limit_rows.ensures.rows limit.ensures.cursor;
      now = subst (λ rows. IsCursor rows now.result place) c.rows_now.ensures.rows now.ensures.cursor;
      next = subst (λ rows. IsCursor rows next.result place) c.rows_next.ensures.rows next.ensures.cursor;
    }
