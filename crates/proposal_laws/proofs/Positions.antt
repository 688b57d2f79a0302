-- Where the replies of a talk stand.
use Rattle.std.proofs.Common.{◌≡◌, ℕ, ◌+◌, ◌≤◌, ◌&&◌, Bool, true, false, not, cond, List, [], ◌∷◌, ◌++◌, length, Option, Result, Ok, refl, sym, subst, ap, ◌∙◌, inl, inr, arith}
use Rattle.std.proofs.lemmas.List.{length-append}
use Rattle.command_types.specs.declared.ask.Ask.{Ask}
use Rattle.command_types.specs.declared.ask.Entry.{Entry}
use Rattle.command_types.specs.declared.answer.Answer.{Answer}
use Rattle.command_types.specs.declared.answer.Answer.TheVariants.{Begun, Problems}
use Rattle.command_types.specs.declared.answer.Reply.{Reply}
use Rattle.command_types.specs.declared.figures.Figures.{Figures}
use Rattle.command_types.specs.declared.line.Line.{Line}
use Rattle.command_types.specs.declared.line.Line.TheVariants.{Propose}
use Rattle.command_types.specs.Machine.{is_refusal, changes}
use Rattle.command_types.specs.Roster.{Rows}
use Rattle.command_types.specs.History.{History, end_of}
use Rattle.command_types.specs.Grammar.{line_within}
use Rattle.command_types.specs.Session.{Speaker, Standing, Mark, mark_of, IsAsked, IsLast, GoesOnFetched, GoesOnBegun, IsReplied, IsTalk, ask_fetch, ask_post}

-- a reply stands no lower than the position before it and its own changes, and the session goes on from no lower and within the history
pub record Runs (h : History) (from : Mark) (reply : Reply) (made : List Entry) (to : Mark) : Type 0 where
  pub low : from.position + length made ≤ reply.at
  pub high : reply.at ≤ to.position
  pub end : to.position ≤ end_of h

pub asked_runs : (clock : ℕ → Bool) (figures : Figures) (h : History) (seat : ℕ) (from : Mark) (ask : Ask) (reply : Reply) (made : List Entry) (to : Mark) → IsAsked clock figures h seat from ask reply made to → Runs h from reply made to
asked_runs clock figures h seat from ask reply made to a =
    let t = a.told in
    let whole : length h.entries ≡ length t.front + length t.back = ap length t.split ∙ length-append t.front t.back in
    record { low = a.later; high = omega (arith, a.position); end = omega (arith, a.position, t.place, whole) }

-- nothing more was asked
last_runs : (h : History) (from mid : Mark) (last reply : Reply) (first made : List Entry) (to : Mark) → Runs h from last first mid → IsLast last mid reply made to → Runs h from reply (first ++ made) to
last_runs h from mid last reply first made to r (same, none, stays) =
    let at : reply.at ≡ last.at = ap (λ (x : Reply). x.at) same in
    let there : to.position ≡ mid.position = ap (λ (m : Mark). m.position) stays in
    let size : length (first ++ made) ≡ length first + length made = length-append first made in
    let empty : length made ≡ 0 = ap length none in
    record { low = omega (arith, r.low, at, size, empty); high = omega (arith, r.high, at, there); end = omega (arith, r.end, there) }

-- one reply after another
on_runs : (h : History) (from mid : Mark) (one reply : Reply) (first made : List Entry) (to : Mark) → Runs h from one first mid → Runs h mid reply made to → Runs h from reply (first ++ made) to
on_runs h from mid one reply first made to r more =
    let size : length (first ++ made) ≡ length first + length made = length-append first made in
    record { low = omega (arith, r.low, r.high, more.low, size); high = more.high; end = more.end }

fetched_runs : (answer : Answer) (clock : ℕ → Bool) (figures : Figures) (h : History) (seat : ℕ) (from mid : Mark) (by : Option (List ℕ)) (cycle version : ℕ) (begun fetched reply : Reply) (start first made : List Entry) (to : Mark) →
    Runs h from begun start mid → (then : Mark) → Runs h mid fetched first then → first ≡ [] → GoesOnFetched answer clock figures h seat then by cycle version begun.at fetched reply made to → Runs h from reply (start ++ (first ++ made)) to
fetched_runs (Problems problems) clock figures h seat from mid by cycle version begun fetched reply start first made to r then f reads (inl (same, none, stays)) =
    let at : reply.at ≡ begun.at = ap (λ (x : Reply). x.at) same in
    let there : to.position ≡ then.position = ap (λ (m : Mark). m.position) stays in
    let size : length (start ++ (first ++ made)) ≡ length start + length (first ++ made) = length-append start (first ++ made) in
    let empty : length (first ++ made) ≡ 0 = λ i. length (reads i ++ none i) in
    record { low = omega (arith, r.low, at, size, empty); high = omega (arith, r.high, f.low, f.high, at, there); end = omega (arith, f.end, there) }
fetched_runs (Problems problems) clock figures h seat from mid by cycle version begun fetched reply start first made to r then f reads (inr p) =
    on_runs h from mid begun reply start (first ++ made) to r
    (on_runs h mid then fetched reply first made to f (asked_runs clock figures h seat then (ask_post by cycle version p.solutions p.moment) reply made to p.asked))
fetched_runs answer clock figures h seat from mid by cycle version begun fetched reply start first made to r then f reads last =
    on_runs h from mid begun reply start (first ++ made) to r (last_runs h mid then fetched reply first made to f last)

begun_runs : (answer : Answer) (clock : ℕ → Bool) (figures : Figures) (h : History) (seat : ℕ) (from mid : Mark) (by : Option (List ℕ)) (cycle : ℕ) (begun reply : Reply) (first made : List Entry) (to : Mark) →
    Runs h from begun first mid → GoesOnBegun answer clock figures h seat mid by cycle begun reply made to → Runs h from reply (first ++ made) to
begun_runs (Begun number version) clock figures h seat from mid by cycle begun reply first made to r f =
    subst (λ es. Runs h from reply (first ++ es) to) (sym f.order)
    (fetched_runs f.fetched.answer clock figures h seat from mid by cycle version begun f.fetched reply first f.first f.others to r f.mid
    (asked_runs clock figures h seat mid (ask_fetch by cycle version f.moment) f.fetched f.first f.mid f.asked) f.asked.keeps f.goes_on)
begun_runs answer clock figures h seat from mid by cycle begun reply first made to r last = last_runs h from mid begun reply first made to r last

pub replied_runs : (clock : ℕ → Bool) (figures : Figures) (h : History) (seat : ℕ) (from : Mark) (rows : Rows) (speaker : Speaker) (read : Result Line ℕ) (reply : Reply) (made : List Entry) (to : Mark) →
    IsReplied clock figures h seat from rows speaker read reply made to → Runs h from reply made to
replied_runs clock figures h seat from rows speaker (Ok (Propose cycle mode)) reply made to p =
    subst (λ es. Runs h from reply es to) (sym p.order)
    (begun_runs p.begun.answer clock figures h seat from p.mid speaker.party cycle p.begun reply p.first p.others to (asked_runs clock figures h seat from _ p.begun p.first p.mid p.asked) p.goes_on)
replied_runs clock figures h seat from rows speaker read reply made to a = asked_runs clock figures h seat from _ reply made to a.1

-- a talk goes on by its own changes at least
pub talk_grows : (clock : ℕ → Bool) (figures : Figures) (h : History) (seat : ℕ) (from : Standing) (lines : List (List ℕ)) (text : List ℕ) (made : List Entry) (to : Standing) → IsTalk clock figures h seat from lines text made to →
    from.position + length made ≤ to.position
talk_grows clock figures h seat from [] text made to (no_text, none, same) =
    let there : to.position ≡ from.position = ap (λ (s : Standing). s.position) same in
    let empty : length made ≡ 0 = ap length none in
    omega (arith, there, empty)
talk_grows clock figures h seat from (line ∷ lines) text made to (next, head, more, first, others, answered, is_text, is_made, talk) =
    let r = replied_runs clock figures h seat (mark_of from) h.base.state.roster from.speaker (line_within line) answered.reply first (mark_of next) answered.replied in
    let size : length made ≡ length first + length others = ap length is_made ∙ length-append first others in
    let rest = talk_grows clock figures h seat next lines more others to talk in
    omega (arith, r.low, r.high, rest, size)

-- and stays within the history
pub talk_ends : (clock : ℕ → Bool) (figures : Figures) (h : History) (seat : ℕ) (from : Standing) (lines : List (List ℕ)) (text : List ℕ) (made : List Entry) (to : Standing) → IsTalk clock figures h seat from lines text made to →
    from.position ≤ end_of h → to.position ≤ end_of h
talk_ends clock figures h seat from [] text made to (no_text, none, same) within =
    let there : to.position ≡ from.position = ap (λ (s : Standing). s.position) same in
    omega (arith, there, within)
talk_ends clock figures h seat from (line ∷ lines) text made to (next, head, more, first, others, answered, is_text, is_made, talk) within =
    let r = replied_runs clock figures h seat (mark_of from) h.base.state.roster from.speaker (line_within line) answered.reply first (mark_of next) answered.replied in
    talk_ends clock figures h seat next lines more others to talk r.end

-- nothing is recorded of a refusal
unrecorded : (c r : Bool) (es : List Entry) → r ≡ true → cond {A = List Entry} (c && not r) es [] ≡ []
unrecorded true true es e = refl
unrecorded false r es e = refl
unrecorded true false es e = cc

pub refused_makes_nothing : (clock : ℕ → Bool) (figures : Figures) (h : History) (seat : ℕ) (from : Mark) (ask : Ask) (reply : Reply) (made : List Entry) (to : Mark) → IsAsked clock figures h seat from ask reply made to → is_refusal reply.answer ≡ true → made ≡ []
refused_makes_nothing clock figures h seat from ask reply made to a refused = a.keeps ∙ unrecorded (changes ask.what) (is_refusal reply.answer) (record { seat = seat; ask = ask } ∷ []) refused

fetched_makes_nothing : (answer : Answer) (clock : ℕ → Bool) (figures : Figures) (h : History) (seat : ℕ) (mid : Mark) (by : Option (List ℕ)) (cycle version at : ℕ) (fetched reply : Reply) (made : List Entry) (to : Mark) →
    GoesOnFetched answer clock figures h seat mid by cycle version at fetched reply made to → is_refusal reply.answer ≡ true → made ≡ []
fetched_makes_nothing (Problems problems) clock figures h seat mid by cycle version at fetched reply made to (inl unsolved) refused = unsolved.1
fetched_makes_nothing (Problems problems) clock figures h seat mid by cycle version at fetched reply made to (inr p) refused = refused_makes_nothing clock figures h seat mid (ask_post by cycle version p.solutions p.moment) reply made to p.asked refused
fetched_makes_nothing answer clock figures h seat mid by cycle version at fetched reply made to last refused = last.1

-- a PROPOSE that is refused has changed no more than its BEGIN has
pub begun_makes_nothing : (answer : Answer) (clock : ℕ → Bool) (figures : Figures) (h : History) (seat : ℕ) (mid : Mark) (by : Option (List ℕ)) (cycle : ℕ) (begun reply : Reply) (made : List Entry) (to : Mark) →
    GoesOnBegun answer clock figures h seat mid by cycle begun reply made to → is_refusal reply.answer ≡ true → made ≡ []
begun_makes_nothing (Begun number version) clock figures h seat mid by cycle begun reply made to f refused =
    f.order ∙ (λ i. f.asked.keeps i ++ fetched_makes_nothing f.fetched.answer clock figures h seat f.mid by cycle version begun.at f.fetched reply f.others to f.goes_on refused i)
begun_makes_nothing answer clock figures h seat mid by cycle begun reply made to last refused = last.1
