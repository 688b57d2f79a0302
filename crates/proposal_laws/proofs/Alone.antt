-- A PROPOSE that nothing comes between.
use Rattle.std.proofs.Common.{◌≡◌, ℕ, Bool, ◌+◌, ◌≤◌, List, [], ◌∷◌, ◌++◌, length, Some, Result, Ok, All, sym, subst, ap, ◌∙◌, arith}
use Rattle.std.proofs.lemmas.List.{append-nil, length-append}
use Rattle.std.proofs.lemmas.List.Elements.{All-cons, All-nil}
use Rattle.command_types.specs.declared.ask.Entry.{Entry}
use Rattle.command_types.specs.declared.answer.Reply.{Reply}
use Rattle.command_types.specs.declared.figures.Figures.{Figures}
use Rattle.command_types.specs.declared.line.Line.{Line}
use Rattle.command_types.specs.declared.line.Line.TheVariants.{Propose}
use Rattle.command_types.specs.Machine.{is_refusal}
use Rattle.command_types.specs.Roster.{Rows}
use Rattle.command_types.specs.History.{History}
use Rattle.command_types.specs.Grammar.{line_within}
use Rattle.command_types.specs.Session.{Speaker, Standing, Mark, mark_of, IsReplied, IsTalk}
use Rattle.proposal_laws.specs.Turns.{Turn, turns, begun_by}
use Rattle.proposal_laws.specs.Laws.{IsOvertaken, IsAlone, IsNotOvertaken, ProposalsAloneStand, ScriptsStandAlone}
use Rattle.proposal_laws.proofs.Overtaken.{proposals_are_overtaken}
use Rattle.proposal_laws.proofs.Positions.{replied_runs, talk_grows, talk_ends, begun_makes_nothing}

pub proposals_alone_stand : ProposalsAloneStand
proposals_alone_stand clock figures h seat from by cycle mode reply made to p here o =
    let later = proposals_are_overtaken clock figures h seat from by cycle mode reply made to p o in
    let rest : p.others ≡ [] = begun_makes_nothing p.begun.answer clock figures h seat p.mid by cycle p.begun reply p.others to p.goes_on (ap is_refusal o.refused) in
    let same : made ≡ p.first = p.order ∙ (ap (λ es. p.first ++ es) rest ∙ append-nil p.first) in
    let size : length made ≡ length p.first = ap length same in
    omega (arith, later, here, size, p.asked.later)

alone_replied : (clock : ℕ → Bool) (figures : Figures) (h : History) (seat : ℕ) (from : Mark) (rows : Rows) (speaker : Speaker) (read : Result Line ℕ) (reply : Reply) (made : List Entry) (to : Mark) →
    (r : IsReplied clock figures h seat from rows speaker read reply made to) → reply.at ≡ from.position + length made → (begun : Reply) → begun_by clock figures h seat from rows speaker read reply made to r ≡ Some begun → IsOvertaken begun reply → ⊥
alone_replied clock figures h seat from rows speaker (Ok (Propose cycle mode)) reply made to p here begun is o =
    let same : p.begun ≡ begun = cc in
    proposals_alone_stand clock figures h seat from speaker.party cycle mode reply made to p here (subst (λ (b : Reply). IsOvertaken b reply) (sym same) o)
alone_replied clock figures h seat from rows speaker read reply made to r here begun is o = cc

-- the lines of a talk that ends where its own changes do
alone_turns : (clock : ℕ → Bool) (figures : Figures) (h : History) (seat : ℕ) (from : Standing) (lines : List (List ℕ)) (text : List ℕ) (made : List Entry) (to : Standing) →
    (talk : IsTalk clock figures h seat from lines text made to) → to.position ≤ from.position + length made →
    All IsAlone (turns clock figures h seat from lines text made to talk) × All IsNotOvertaken (turns clock figures h seat from lines text made to talk)
alone_turns clock figures h seat from [] text made to talk ends = (All-nil IsAlone, All-nil IsNotOvertaken)
alone_turns clock figures h seat from (line ∷ lines) text made to (next, head, more, first, others, answered, is_text, is_made, talk) ends =
    let r = replied_runs clock figures h seat (mark_of from) h.base.state.roster from.speaker (line_within line) answered.reply first (mark_of next) answered.replied in
    let size : length made ≡ length first + length others = ap length is_made ∙ length-append first others in
    let grows = talk_grows clock figures h seat next lines more others to talk in
    let here : answered.reply.at ≡ from.position + length first = omega (arith, r.low, r.high, grows, size, ends) in
    let rest = alone_turns clock figures h seat next lines more others to talk (omega (arith, r.low, r.high, size, ends)) in
    let turn : Turn clock figures h seat = record { from = from; line = line; text = head; made = first; to = next; answered = answered } in (
      All-cons IsAlone turn (turns clock figures h seat next lines more others to talk) here rest.0,
      All-cons IsNotOvertaken turn (turns clock figures h seat next lines more others to talk)
          (alone_replied clock figures h seat (mark_of from) h.base.state.roster from.speaker (line_within line) answered.reply first (mark_of next) answered.replied here) rest.1,
    )

pub scripts_stand_alone : ScriptsStandAlone
scripts_stand_alone clock figures h seat from lines text made to talk all =
    let ends = talk_ends clock figures h seat from lines text made to talk (omega (arith, all)) in
    alone_turns clock figures h seat from lines text made to talk (omega (arith, ends, all))
