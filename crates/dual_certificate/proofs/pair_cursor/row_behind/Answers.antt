use Rattle.std.proofs.Common.{sym, ◌∙◌, arith}
use Rattle.dual_certificate.proofs.CursorFacts.{row_stands, row_past, row_stays}
use Rattle.dual_certificate.proofs.pair_cursor.row_behind.Goals as goal

pub returns-then-cursor-place : goal.returns-then-cursor-place
returns-then-cursor-place c =
    let rows = c.args.rows.now in
    let at = c.args.cursor.at in
    let here = sym c.requires.cursor.knows ∙ c.if-cursor-place.true in
    record {
      end = omega (arith, row_stands rows at c.args.place here c.requires.within);
      first = row_past rows at c.args.place c.requires.rising c.requires.cursor.first here c.requires.within;
      knows = c.row_from.ensures;
    }

pub returns-else-cursor-place : goal.returns-else-cursor-place
returns-else-cursor-place c = record {
  end = c.requires.cursor.end;
  first = row_stays c.args.rows.now c.args.cursor.at c.args.place c.requires.rising c.requires.cursor.first (λ e. c.if-cursor-place.false (c.requires.cursor.knows ∙ e));
  knows = c.requires.cursor.knows;
}
