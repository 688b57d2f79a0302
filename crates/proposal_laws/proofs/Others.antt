-- What came between the changes of a session.
use Rattle.std.proofs.Common.{◌≡◌, ◌⊎◌, ℕ, ◌+◌, ◌≤◌, Bool, true, false, not, cond, List, [], ◌∷◌, ◌++◌, length, Option, Some, Result, Ok, All, refl, sym, subst, ap, ◌∙◌, inl, inr, arith}
use Rattle.std.proofs.lemmas.List.{append-nil, length-append}
use Rattle.std.proofs.lemmas.List.Elements.{All-cons, All-nil}
use Rattle.command_types.specs.declared.ask.Ask.{Ask}
use Rattle.command_types.specs.declared.ask.Entry.{Entry}
use Rattle.command_types.specs.declared.answer.Answer.{Answer}
use Rattle.command_types.specs.declared.answer.Answer.TheVariants.{Begun, Problems}
use Rattle.command_types.specs.declared.answer.Reply.{Reply}
use Rattle.command_types.specs.declared.figures.Figures.{Figures}
use Rattle.command_types.specs.declared.line.Line.{Line}
use Rattle.command_types.specs.declared.line.Line.TheVariants.{Propose}
use Rattle.command_types.specs.Machine.{is_refusal}
use Rattle.command_types.specs.Roster.{Rows}
use Rattle.command_types.specs.History.{History, is_recorded, entries_of_seat}
use Rattle.command_types.specs.Told.{IsRecorded, IsNotRecorded, IsHouse, IsMemory}
use Rattle.command_types.specs.Grammar.{line_within}
use Rattle.command_types.specs.Session.{Speaker, Standing, Mark, mark_of, IsAsked, IsLast, GoesOnFetched, GoesOnBegun, IsReplied, IsTalk, ask_begin, ask_fetch, ask_post}
use Rattle.proposal_laws.specs.Turns.{Turn, turns, begun_by}
use Rattle.proposal_laws.specs.Laws.{IsOvertaken, HasOther, IsOvertakenByOther, OthersOvertake}
use Rattle.proposal_laws.proofs.Stages.{house_refuses}
use Rattle.proposal_laws.proofs.Overtaken.{proposals_are_overtaken}
use Rattle.proposal_laws.proofs.Positions.{replied_runs, refused_makes_nothing, begun_makes_nothing}
use Rattle.proposal_laws.proofs.Counts.{own_at, own_at_grows, own_at_most, own_at_change, other_between}

pub none_recorded : (t : Bool) (e : Entry) → not t ≡ true → cond {A = List Entry} t (e ∷ []) [] ≡ []
none_recorded true e is = cc
none_recorded false e is = refl

-- up to a reply's position the seat has its own changes more
asked_own : (clock : ℕ → Bool) (figures : Figures) (h : History) (seat : ℕ) (from : Mark) (ask : Ask) (reply : Reply) (made : List Entry) (to : Mark) → IsAsked clock figures h seat from ask reply made to →
    own_at h seat from.position + length made ≤ own_at h seat to.position
asked_own clock figures h seat from ask reply made to a = by_case a.told.one
  where
    entry : Entry
    entry = record { seat = seat; ask = ask }

    nothing : made ≡ [] → own_at h seat from.position + length made ≤ own_at h seat to.position
    nothing none =
        let empty : length made ≡ 0 = ap length none in
        let less = own_at_grows h seat from.position to.position (omega (arith, a.later, a.position)) in
        omega (arith, empty, less)

    by_case : IsRecorded h.base.state a.told.front seat ask reply.answer ⊎ IsNotRecorded h.base a.told.front ask reply.answer ⊎ IsHouse figures.journal figures a.before to.stopped h.base.state a.told.front reply.at ask reply.answer ⊎ IsMemory figures ask.what reply.answer →
        own_at h seat from.position + length made ≤ own_at h seat to.position
    by_case (inl r) =
        let same : made ≡ entry ∷ [] = a.keeps ∙ ap (λ t. cond {A = List Entry} t (entry ∷ []) []) r.change in
        let size : length made ≡ 1 = ap length same in
        let split : h.entries ≡ (r.before ++ entry ∷ []) ++ a.told.back = a.told.split ∙ ap (λ es. es ++ a.told.back) r.last in
        let front : length a.told.front ≡ length r.before + 1 = ap length r.last ∙ length-append r.before (entry ∷ []) in
        let more = own_at_change h seat ask r.before a.told.back from.position to.position split (omega (arith, a.position, a.told.place, front)) (omega (arith, a.later, a.position, size)) in
        omega (arith, size, more)
    by_case (inr (inl r)) = nothing (a.keeps ∙ none_recorded (is_recorded ask.what reply.answer) entry r.no_change)
    by_case (inr (inr (inl house))) =
        nothing (refused_makes_nothing clock figures h seat from ask reply made to a (house_refuses figures.journal figures a.before to.stopped h.base.state a.told.front reply.at ask reply.answer house))
    by_case (inr (inr (inr memory))) = nothing (refused_makes_nothing clock figures h seat from ask reply made to a (ap is_refusal memory.same))

-- nothing more was asked
last_own : (h : History) (seat : ℕ) (mid : Mark) (last reply : Reply) (made : List Entry) (to : Mark) → IsLast last mid reply made to → own_at h seat mid.position + length made ≤ own_at h seat to.position
last_own h seat mid last reply made to (same, none, stays) =
    let empty : length made ≡ 0 = ap length none in
    let there : own_at h seat to.position ≡ own_at h seat mid.position = ap (λ (m : Mark). own_at h seat m.position) stays in
    omega (arith, empty, there)

fetched_own : (answer : Answer) (clock : ℕ → Bool) (figures : Figures) (h : History) (seat : ℕ) (mid : Mark) (by : Option (List ℕ)) (cycle version at : ℕ) (fetched reply : Reply) (made : List Entry) (to : Mark) →
    GoesOnFetched answer clock figures h seat mid by cycle version at fetched reply made to → own_at h seat mid.position + length made ≤ own_at h seat to.position
fetched_own (Problems problems) clock figures h seat mid by cycle version at fetched reply made to (inl unsolved) = last_own h seat mid _ reply made to unsolved
fetched_own (Problems problems) clock figures h seat mid by cycle version at fetched reply made to (inr p) = asked_own clock figures h seat mid (ask_post by cycle version p.solutions p.moment) reply made to p.asked
fetched_own answer clock figures h seat mid by cycle version at fetched reply made to last = last_own h seat mid fetched reply made to last

begun_own : (answer : Answer) (clock : ℕ → Bool) (figures : Figures) (h : History) (seat : ℕ) (mid : Mark) (by : Option (List ℕ)) (cycle : ℕ) (begun reply : Reply) (made : List Entry) (to : Mark) →
    GoesOnBegun answer clock figures h seat mid by cycle begun reply made to → own_at h seat mid.position + length made ≤ own_at h seat to.position
begun_own (Begun number version) clock figures h seat mid by cycle begun reply made to f =
    let size : length made ≡ length f.first + length f.others = ap length f.order ∙ length-append f.first f.others in
    let one = asked_own clock figures h seat mid (ask_fetch by cycle version f.moment) f.fetched f.first f.mid f.asked in
    let more = fetched_own f.fetched.answer clock figures h seat f.mid by cycle version begun.at f.fetched reply f.others to f.goes_on in
    omega (arith, size, one, more)
begun_own answer clock figures h seat mid by cycle begun reply made to last = last_own h seat mid begun reply made to last

replied_own : (clock : ℕ → Bool) (figures : Figures) (h : History) (seat : ℕ) (from : Mark) (rows : Rows) (speaker : Speaker) (read : Result Line ℕ) (reply : Reply) (made : List Entry) (to : Mark) →
    IsReplied clock figures h seat from rows speaker read reply made to → own_at h seat from.position + length made ≤ own_at h seat to.position
replied_own clock figures h seat from rows speaker (Ok (Propose cycle mode)) reply made to p =
    let size : length made ≡ length p.first + length p.others = ap length p.order ∙ length-append p.first p.others in
    let one = asked_own clock figures h seat from (ask_begin speaker.party cycle mode p.moment) p.begun p.first p.mid p.asked in
    let more = begun_own p.begun.answer clock figures h seat p.mid speaker.party cycle p.begun reply p.others to p.goes_on in
    omega (arith, size, one, more)
replied_own clock figures h seat from rows speaker read reply made to a = asked_own clock figures h seat from _ reply made to a.1

talk_own : (clock : ℕ → Bool) (figures : Figures) (h : History) (seat : ℕ) (from : Standing) (lines : List (List ℕ)) (text : List ℕ) (made : List Entry) (to : Standing) → IsTalk clock figures h seat from lines text made to →
    own_at h seat from.position + length made ≤ own_at h seat to.position
talk_own clock figures h seat from [] text made to (no_text, none, same) =
    let empty : length made ≡ 0 = ap length none in
    let there : own_at h seat to.position ≡ own_at h seat from.position = ap (λ (s : Standing). own_at h seat s.position) same in
    omega (arith, empty, there)
talk_own clock figures h seat from (line ∷ lines) text made to (next, head, more, first, others, answered, is_text, is_made, talk) =
    let one = replied_own clock figures h seat (mark_of from) h.base.state.roster from.speaker (line_within line) answered.reply first (mark_of next) answered.replied in
    let rest = talk_own clock figures h seat next lines more others to talk in
    let size : length made ≡ length first + length others = ap length is_made ∙ length-append first others in
    omega (arith, one, rest, size)

-- a PROPOSE that was overtaken, where the seat has no changes but the line's
overtaken_by_other : (clock : ℕ → Bool) (figures : Figures) (h : History) (seat : ℕ) (from : Mark) (rows : Rows) (speaker : Speaker) (read : Result Line ℕ) (reply : Reply) (made : List Entry) (to : Mark) →
    (r : IsReplied clock figures h seat from rows speaker read reply made to) → own_at h seat to.position ≤ own_at h seat from.position + length made →
    (begun : Reply) → begun_by clock figures h seat from rows speaker read reply made to r ≡ Some begun → IsOvertaken begun reply → HasOther h seat begun.at reply.at
overtaken_by_other clock figures h seat from rows speaker (Ok (Propose cycle mode)) reply made to p only begun is o =
    let same : p.begun ≡ begun = cc in
    subst (λ (b : Reply). HasOther h seat b.at reply.at) same (by_begun (subst (λ (b : Reply). IsOvertaken b reply) (sym same) o))
  where
    by_begun : IsOvertaken p.begun reply → HasOther h seat p.begun.at reply.at
    by_begun o =
        let later = proposals_are_overtaken clock figures h seat from speaker.party cycle mode reply made to p o in
        let rest : p.others ≡ [] = begun_makes_nothing p.begun.answer clock figures h seat p.mid speaker.party cycle p.begun reply p.others to p.goes_on (ap is_refusal o.refused) in
        let size : length made ≡ length p.first = ap length (p.order ∙ (ap (λ es. p.first ++ es) rest ∙ append-nil p.first)) in
        let runs = replied_runs clock figures h seat from rows speaker (Ok (Propose cycle mode)) reply made to p in
        let one = asked_own clock figures h seat from (ask_begin speaker.party cycle mode p.moment) p.begun p.first p.mid p.asked in
        let at : own_at h seat p.mid.position ≡ own_at h seat p.begun.at = ap (own_at h seat) p.asked.position in
        let up = own_at_grows h seat reply.at to.position runs.high in
        other_between h seat p.begun.at reply.at (omega (arith, one, at, up, only, size)) (omega (arith, p.asked.told.place)) later (omega (arith, runs.high, runs.end))
overtaken_by_other clock figures h seat from rows speaker read reply made to r only begun is o = cc

others_turns : (clock : ℕ → Bool) (figures : Figures) (h : History) (seat : ℕ) (from : Standing) (lines : List (List ℕ)) (text : List ℕ) (made : List Entry) (to : Standing) →
    (talk : IsTalk clock figures h seat from lines text made to) → own_at h seat to.position ≤ own_at h seat from.position + length made → All IsOvertakenByOther (turns clock figures h seat from lines text made to talk)
others_turns clock figures h seat from [] text made to talk only = All-nil IsOvertakenByOther
others_turns clock figures h seat from (line ∷ lines) text made to (next, head, more, first, others, answered, is_text, is_made, talk) only =
    let one = replied_own clock figures h seat (mark_of from) h.base.state.roster from.speaker (line_within line) answered.reply first (mark_of next) answered.replied in
    let rest = talk_own clock figures h seat next lines more others to talk in
    let size : length made ≡ length first + length others = ap length is_made ∙ length-append first others in
    let turn : Turn clock figures h seat = record { from = from; line = line; text = head; made = first; to = next; answered = answered } in
    All-cons IsOvertakenByOther turn (turns clock figures h seat next lines more others to talk)
    (overtaken_by_other clock figures h seat (mark_of from) h.base.state.roster from.speaker (line_within line) answered.reply first (mark_of next) answered.replied (omega (arith, rest, size, only)))
    (others_turns clock figures h seat next lines more others to talk (omega (arith, one, size, only)))

pub others_overtake : OthersOvertake
others_overtake clock figures h seat from lines text session =
    let most = own_at_most h seat from.position session.to.position in
    let size : length session.made ≡ length (entries_of_seat h seat from.position) = ap length session.own in
    others_turns clock figures h seat from lines text session.made session.to session.talk (omega (arith, most, size))
