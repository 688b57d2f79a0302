use Rattle.std.proofs.Common.{◌≡◌, ◌==◌, ◌∙◌, List, ℕ, length, refl, ap, sym, subst}
use Rattle.command_types.specs.declared.trade.TradeRow.{TradeRow}
use Rattle.command_types.specs.Plans.{touched_by}
use Rattle.acceptance.specs.Parties.{IsPlanBelow}
use Rattle.acceptance.specs.Votes.{left_of}
use Rattle.posting.proofs.VoteFacts.{nobody_left}
use Rattle.cycle_states.proofs.SettledFacts.{posting_settled}
use Rattle.cycle_states.proofs.VoteRooms.{first_fits}
use Rattle.cycle_states.proofs.machine.ballot.ballot_on.Goals as goal

pub touched-votes-requires-clause-below : goal.touched-votes-requires-clause-below
touched-votes-requires-clause-below c =
    let members = length c.args.roster.now.members in
    let rows = c.args.book.now.rows in
    let plan = c.args.plan.now in
    let settled = posting_settled c.args.roster.now c.args.book.now.members c.args.book.now.products rows c.args.cycle.now c.requires.kept c.args.solutions.now plan
    c.requires.solving c.requires.certified c.are_solutions.ensures c.requires.planned c.rows.ensures.trades c.rows.ensures.bounded in
    subst (λ (n : ℕ). IsPlanBelow c.rows.result.now n plan) (sym c.member_count.ensures.count)
    (subst (λ (trades : List TradeRow). IsPlanBelow trades members plan) (sym c.rows.ensures.rows) settled.parties)

pub returns-clause-needed : goal.returns-clause-needed
returns-clause-needed c =
    let members = length c.args.roster.now.members in
    let rows = c.args.book.now.rows in
    let plan = c.args.plan.now in
    let settled = posting_settled c.args.roster.now c.args.book.now.members c.args.book.now.products rows c.args.cycle.now c.requires.kept c.args.solutions.now plan
    c.requires.solving c.requires.certified c.are_solutions.ensures c.requires.planned c.rows.ensures.trades c.rows.ensures.bounded in
    subst (λ (trades : List TradeRow). c.touched-votes.result.needed ≡ touched_by members trades plan) c.rows.ensures.rows
    (c.touched-votes.ensures.needed members c.requires.kept.few_members (subst (λ (trades : List TradeRow). IsPlanBelow trades members plan) (sym c.rows.ensures.rows) settled.parties))

pub returns-clause-room : goal.returns-clause-room
returns-clause-room c = first_fits (length c.args.roster.now.members) c.args.book.now.rows c.args.plan.now c.touched-votes.result.needed c.requires.kept.few_members (returns-clause-needed c)

pub returns-clause-nobody : goal.returns-clause-nobody
returns-clause-nobody c =
    let touched : List ℕ = touched_by (length c.args.roster.now.members) c.args.book.now.rows c.args.plan.now in
    nobody_left touched c.left-nobody.result (c.left-nobody.result == 0)
    (c.left-nobody.ensures ∙ ap (λ (needed : List ℕ). left_of needed c.touched-votes.result.accepted) (returns-clause-needed c) ∙ ap (left_of touched) c.touched-votes.ensures.accepted) refl

pub returns-clause-executable : goal.returns-clause-executable
returns-clause-executable c =
    let settled = posting_settled c.args.roster.now c.args.book.now.members c.args.book.now.products c.args.book.now.rows c.args.cycle.now c.requires.kept c.args.solutions.now c.args.plan.now
    c.requires.solving c.requires.certified c.are_solutions.ensures c.requires.planned c.rows.ensures.trades c.rows.ensures.bounded in
    settled.executable
