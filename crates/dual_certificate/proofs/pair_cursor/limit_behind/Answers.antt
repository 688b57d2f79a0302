use Rattle.std.proofs.Common.{sym, ◌∙◌, arith}
use Rattle.dual_certificate.proofs.CursorFacts.{limit_stands, limit_past, limit_stays}
use Rattle.dual_certificate.proofs.pair_cursor.limit_behind.Goals as goal

pub returns-then-cursor-place : goal.returns-then-cursor-place
returns-then-cursor-place c =
    let rows = c.args.limits.now in
    let at = c.args.cursor.at in
    let here = sym c.requires.cursor.knows ∙ c.if-cursor-place.true in
    record {
      end = omega (arith, limit_stands rows at c.args.place here c.requires.within);
      first = limit_past rows at c.args.place c.requires.rising c.requires.cursor.first here c.requires.within;
      knows = c.limit_from.ensures;
    }

pub returns-else-cursor-place : goal.returns-else-cursor-place
returns-else-cursor-place c = record {
  end = c.requires.cursor.end;
  first = limit_stays c.args.limits.now c.args.cursor.at c.args.place c.requires.rising c.requires.cursor.first (λ e. c.if-cursor-place.false (c.requires.cursor.knows ∙ e));
  knows = c.requires.cursor.knows;
}
