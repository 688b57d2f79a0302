use Rattle.std.proofs.Common.{◌∙◌, ◌+◌, List, [], Some, length, sym, ap, subst, arith}
use Rattle.std.proofs.lemmas.List.Elements.{All-pop}
use Rattle.csv.specs.Reading.{strip_bom}
use Rattle.trade_file.specs.declared.file_trade.FileTrade.{FileTrade}
use Rattle.trade_file.specs.TradeDraft.{trades_of_draft}
use Rattle.trade_file.specs.PlainRow.{first_record}
use Rattle.trade_file.specs.Pieces.{HasRead}
use Rattle.trade_file.proofs.PlainReadFacts.{IsUpTo, up_to_header, up_to_skipped, up_to_end, none_left}
use Rattle.trade_file.proofs.PieceFacts.{up_to_piece, draft_within}
use Rattle.trade_file.proofs.plain_file.read_plain.Goals as goal

pub loop-piece-init : goal.loop-piece-init
loop-piece-init g c =
    let rows = c.args.roster.now in
    let text = strip_bom c.args.bytes.now in
    let same = c.skip_line_ends.ensures ∙ ap first_record c.skip_mark.ensures in
    let header = up_to_header rows text c.skip_line_ends.result.now c.in-Some.behind.now same c.in-Some.ensures in
    let first = up_to_skipped rows text 2 [] c.in-Some.behind.now c.skip_line_ends-rest.result.now header c.skip_line_ends-rest.ensures in
    record {
      read = c.in_ok-pieces.ensures;
      draft = c.new-draft.ensures.draft;
      so_far = subst (λ (ts : List FileTrade). IsUpTo rows text (2 + length ts) ts c.skip_line_ends-rest.result.now) (sym c.new-draft.ensures.trades) first;
    }

pub loop-piece-preserved : goal.loop-piece-preserved
loop-piece-preserved g c =
    let rows = c.args.roster.now in
    let text = strip_bom c.args.bytes.now in
    let i = c.loop-piece.invariant in
    let pieces = All-pop (HasRead rows) c.loop-piece.pieces.items c.pop.new.self.items (Some c.in-Some-pop.piece) c.in-Some-pop.ensures.items i.read in
    let piece = pieces.1 in
    let draft = rw c.in-Some-2.is at c.in_ok-left.ensures.draft in
    let takes = rw c.in-Some-2.is at (c.in_ok-left.ensures.rows rows piece.rows_read) in
    record {
      read = pieces.0;
      draft = draft;
      so_far = up_to_piece rows text (trades_of_draft c.loop-piece.draft) (trades_of_draft c.take_piece.new.draft) c.loop-piece.rest.now c.in-Some-2.left.now i.so_far takes (draft_within c.take_piece.new.draft draft);
    }

pub returns-then-is_empty : goal.returns-then-is_empty
returns-then-is_empty g c =
    let rows = c.args.roster.now in
    let text = strip_bom c.args.bytes.now in
    up_to_end rows text (2 + length (trades_of_draft c.loop-piece.draft)) (trades_of_draft c.loop-piece.draft) c.loop-piece.rest.now c.loop-piece.invariant.so_far (none_left c.loop-piece.rest.now (grind arith))
