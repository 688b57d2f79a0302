use Rattle.std.proofs.Common.{rules, ◌∙◌, Option, inl, inr, refl, subst}
use Rattle.outside.specs.Files.{Folder}
use Rattle.outside.specs.Flow.{TakesFront}
use Rattle.program_words.specs.Words.{read_market}
use Rattle.compress_server.specs.Files.{SaysProposal, files_by}
use Rattle.compress_server.proofs.CheckFacts.{says_both, verdict}
use Rattle.compress_server.proofs.EndFacts.{load_later}
use Rattle.compress_server.proofs.ServeFacts.{err_holds}
use Rattle.compress_server.proofs.check.run_check.Goals as goal

pub returns-in-Err-load_trades-clause-runs : goal.returns-in-Err-load_trades-clause-runs
returns-in-Err-load_trades-clause-runs g c =
    let files = files_by g.F.Files c.args.files.now in
    let mid = files_by g.F.Files c.load_roster.new.files in
    let files' = files_by g.F.Files c.load_trades.new.files in
    let first = c.in-Ok in
    (refl, inl (inr (first.roster, first.ensures.says, load_later files mid files' _ _ _ c.in-Err-load_trades.fault first.ensures.stays c.load_roster.ensures.never_falls c.in-Err-load_trades.ensures.fault)))

pub returns-in-Err-load_proposal-clause-runs : goal.returns-in-Err-load_proposal-clause-runs
returns-in-Err-load_proposal-clause-runs g c =
    let files = files_by g.F.Files c.args.files.now in
    let mid = files_by g.F.Files c.load_roster.new.files in
    let later = files_by g.F.Files c.load_trades.new.files in
    let files' = files_by g.F.Files c.load_proposal.new.files in
    let first = c.in-Ok in
    let second = c.in-Ok-load_trades in
    let market = read_market c.args.words.now.market in
    let says = says_both files.folder market first.roster second.trades.items first.ensures.says mid.folder first.ensures.stays second.ensures.says in
    let late = load_later mid later files' _ _ _ c.in-Err-load_proposal.fault second.ensures.stays c.load_trades.ensures.never_falls c.in-Err-load_proposal.ensures.fault in
    (refl, inr (first.roster, second.trades.items, says, load_later files mid files' _ _ _ c.in-Err-load_proposal.fault first.ensures.stays c.load_roster.ensures.never_falls late))

pub returns-then-is_err-clause-runs : goal.returns-then-is_err-clause-runs
returns-then-is_err-clause-runs g c =
    let files = files_by g.F.Files c.args.files.now in
    let mid = files_by g.F.Files c.load_roster.new.files in
    let later = files_by g.F.Files c.load_trades.new.files in
    let first = c.in-Ok in
    let second = c.in-Ok-load_trades in
    let third = c.in-Ok-load_proposal in
    let found = c.in-Ok-verdict_on in
    let market = read_market c.args.words.now.market in
    let proposal = c.args.words.now.proposal.now in
    let taken = g.K.Sink.taken in
    let says = says_both files.folder market first.roster second.trades.items first.ensures.says mid.folder first.ensures.stays second.ensures.says in
    let said = subst (λ (folder : Option Folder). SaysProposal folder proposal first.roster third.parts.items) (second.ensures.stays ∙ first.ensures.stays) third.ensures.says in
    let is = verdict files.folder market proposal first.roster second.trades.items third.parts.items found.failing found.text.items says said first.ensures.roster second.ensures.within third.ensures.within (search (rules, found)) (search (rules, found)) in
    let front = err_holds c.write_all.result c.is_err.result _ c.is_err.ensures.value c.if-is_err.true c.write_all.ensures.front in
    let rose = err_holds c.write_all.result c.is_err.result _ c.is_err.ensures.value c.if-is_err.true c.write_all.ensures.counts.1 in
    ((found.failing, found.text.items, is, subst (λ t. TakesFront (taken c.args.output.now) (taken c.write_all.new.sink) t) c.deref-3.ensures.value front), rose)
