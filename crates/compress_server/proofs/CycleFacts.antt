-- The laws of cycles hold in each legal history over a roster.
use Rattle.command_types.specs.Roster.{Rows}
use Rattle.command_types.specs.History.{History, IsLegal}
use Rattle.trade_history.specs.Book.{IsClosedBase}
use Rattle.trade_history.proofs.Positions.{trades_follow_at_each_position}
use Rattle.trade_history.proofs.Replay.{answers_tell_executions}
use Rattle.cycle_laws.specs.Histories.{IsMarketBase, IsMarketHistory}
use Rattle.cycle_laws.proofs.Changes.{nets_stay_at_executions, postings_are_least, executions_follow_the_posting}
use Rattle.compress_server.specs.Cycles.{KeepsLaws}

module _ (rows : Rows) (h : History) (base : IsMarketBase rows h.base.state) (legal : IsLegal h) where
  market : IsMarketHistory rows h
  market = record { base = base; legal = legal }

  closed : IsClosedBase h.base.state
  closed = base.closed

  pub keeps_laws : KeepsLaws rows h
  keeps_laws = record {
    trades = λ position. trades_follow_at_each_position h closed legal position;
    changes = λ before entry after split. record {
      tells = answers_tell_executions h closed legal before entry after split;
      executes = λ told. executions_follow_the_posting rows h market before entry after split told;
      nets = λ told. nets_stay_at_executions rows h market before entry after split told;
      least = λ cycle version solutions command. postings_are_least rows h market before entry after split cycle version solutions command;
    };
  }
