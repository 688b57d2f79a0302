use Rattle.std.proofs.Common.{◌≡◌, ◌∙◌, get_or, length, sym, ap, subst, refl}
use Rattle.std.proofs.lemmas.Option.{slice_get_read}
use Rattle.command_types.specs.declared.roster.MemberRow.{MemberRow}
use Rattle.command_types.specs.Roster.{Rows, IsRoster}
use Rattle.command_types.specs.CycleSteps.{rows_of_member}
use Rattle.compress_server.proofs.StatementFacts.{statement_told, same_rows}
use Rattle.compress_server.proofs.replay_text.trades_of.Goals as goal

pub unreachable-requires : goal.unreachable-requires
unreachable-requires c =
    let s = c.args.machine.now.state in
    let row : MemberRow = c.index-members-from.result in
    let members : c.members.result.now ≡ s.roster.members = c.members.ensures.rows ∙ ap (λ (r : Rows). r.members) c.roster.ensures in
    let is : row ≡ get_or s.roster.members c.args.member row = c.index-members-from.is ∙ (λ i. get_or (members i) (c.from.ensures i) row) in
    let told = statement_told s c.args.member row (subst (λ (r : Rows). IsRoster r) c.roster.ensures c.members.ensures.roster) (slice_get_read s.roster.members (length s.roster.members) c.args.member row refl c.requires.there is) c.new.result in
    c.in_default.not-Statement (rows_of_member c.args.member s.trades) (c.in_ok-rows.ensures.answer ∙ told)

pub returns : goal.returns
returns c =
    let s = c.args.machine.now.state in
    let row : MemberRow = c.index-members-from.result in
    let members : c.members.result.now ≡ s.roster.members = c.members.ensures.rows ∙ ap (λ (r : Rows). r.members) c.roster.ensures in
    let is : row ≡ get_or s.roster.members c.args.member row = c.index-members-from.is ∙ (λ i. get_or (members i) (c.from.ensures i) row) in
    let told = statement_told s c.args.member row (subst (λ (r : Rows). IsRoster r) c.roster.ensures c.members.ensures.roster) (slice_get_read s.roster.members (length s.roster.members) c.args.member row refl c.requires.there is) c.new.result in
    same_rows c.in-Statement.rows (rows_of_member c.args.member s.trades) (sym c.in-Statement.is ∙ c.in_ok-rows.ensures.answer ∙ told)
