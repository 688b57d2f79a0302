use Rattle.std.proofs.Common.{List, sym, subst}
use Rattle.trade_file.specs.declared.file_trade.FileTrade.{FileTrade}
use Rattle.trade_file.specs.Pieces.{ReadsRows}
use Rattle.trade_file.specs.TradeDraft.{trades_of_draft}
use Rattle.trade_file.proofs.PieceFacts.{reads_none, reads_more}
use Rattle.trade_file.proofs.pieces.read_rows.Goals as goal

pub loop-init : goal.loop-init
loop-init c = record {
  draft = c.new-draft.ensures.draft;
  names = c.new-names.ensures c.args.roster.now;
  so_far = subst (λ (ts : List FileTrade). ReadsRows c.args.roster.now c.args.text.now ts c.args.text.now) (sym c.new-draft.ensures.trades) (reads_none c.args.roster.now c.args.text.now);
}

pub loop-preserved : goal.loop-preserved
loop-preserved c =
    let rows = c.args.roster.now in
    let rest = c.skip_line_ends-rest.result.now in
    let step = rw c.in-Some.is at c.in_ok-behind.ensures.taken in
    let read = reads_more rows c.args.text.now (trades_of_draft c.loop.draft) c.loop.rest.now step.trade c.in-Some.behind.now rest c.loop.invariant.so_far step.reads c.skip_line_ends-rest.ensures in
    record {
      draft = rw c.in-Some.is at c.in_ok-behind.ensures.draft;
      names = c.take_row.ensures.names;
      so_far = subst (λ (ts : List FileTrade). ReadsRows rows c.args.text.now ts rest) (sym step.all_are) read;
    }
