use Rattle.std.proofs.Common.{◌+◌, length, vec_len}
use Rattle.std.specs.Prelude.{All}
use Rattle.csv.specs.Reading.{strip_bom}
use Rattle.trade_file.specs.Pieces.{HasRead}
use Rattle.trade_file.specs.TradeDraft.{IsTradeDraft, trades_of_draft}
use Rattle.trade_file.proofs.PlainReadFacts.{IsUpTo}
use Rattle.trade_file.proofs.plain_file.read_plain.Given as goal

abbrev pub invariant-loop-piece : goal.invariant-loop-piece
invariant-loop-piece g l = record {
  read : All (HasRead l.fn.roster) l.pieces.items;
  draft : IsTradeDraft l.draft;
  so_far : IsUpTo l.fn.roster (strip_bom l.fn.bytes) (2 + length (trades_of_draft l.draft)) (trades_of_draft l.draft) l.rest;
}

abbrev pub decreases-loop-piece : goal.decreases-loop-piece
decreases-loop-piece g l = vec_len l.pieces
