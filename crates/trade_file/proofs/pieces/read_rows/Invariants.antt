use Rattle.trade_file.specs.FoundNames.{AreFound}
use Rattle.trade_file.specs.Pieces.{ReadsRows}
use Rattle.trade_file.specs.TradeDraft.{IsTradeDraft, trades_of_draft}
use Rattle.trade_file.proofs.pieces.read_rows.Given as goal

abbrev pub invariant-loop : goal.invariant-loop
invariant-loop l = record {
  draft : IsTradeDraft l.draft;
  names : AreFound l.fn.roster l.names;
  so_far : ReadsRows l.fn.roster l.fn.text (trades_of_draft l.draft) l.rest;
}
