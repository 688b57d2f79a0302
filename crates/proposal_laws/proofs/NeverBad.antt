-- A PROPOSE is never refused for a bad certificate.
use Rattle.std.proofs.Common.{◌≡◌, ℕ, ◌+◌, ◌≤◌, ◌==◌, not, Bool, true, false, List, [], ◌∷◌, ◌++◌, length, Option, Some, None, unwrap_or, refl, sym, subst, ap, ◌∙◌, inl, inr, arith}
use Rattle.std.proofs.lemmas.Bool.{eqb-true}
use Rattle.network_laws.specs.Solutions.{ProblemData, SolutionData}
use Rattle.network_laws.specs.Solved.{AreSolved}
use Rattle.command_types.specs.declared.ask.Entry.{Entry}
use Rattle.command_types.specs.declared.ask.What.TheVariants.{Post}
use Rattle.command_types.specs.declared.answer.Answer.{Answer}
use Rattle.command_types.specs.declared.answer.Answer.TheVariants.{Begun, Problems, No}
use Rattle.command_types.specs.declared.answer.Reply.{Reply}
use Rattle.command_types.specs.declared.cycle.Mode.{Mode}
use Rattle.command_types.specs.declared.figures.Figures.{Figures}
use Rattle.command_types.specs.declared.figures.State.{State}
use Rattle.command_types.specs.declared.figures.Cycle.{Cycle}
use Rattle.command_types.specs.declared.refusal.BadPost.{BadPost}
use Rattle.command_types.specs.declared.refusal.Refusal.{Refusal}
use Rattle.command_types.specs.declared.refusal.Refusal.TheVariants.{BadCertificate, NotGreeted, Memory}
use Rattle.command_types.specs.Cycles.{problems_of, bad_post, has_limits, is_solving}
use Rattle.command_types.specs.CycleRefusals.{if_bad_post, if_broken, unless_operator, unless_cycle, unless_phase, unless_version}
use Rattle.command_types.specs.Machine.{first_of, refusals}
use Rattle.command_types.specs.Roster.{is_party}
use Rattle.command_types.specs.History.{History, IsLegal, replayed_from}
use Rattle.command_types.specs.Session.{Mark, IsAsked, GoesOnFetched, GoesOnBegun, ask_begin, ask_fetch, ask_post}
use Rattle.proposal_laws.specs.Laws.{ProposalsAreNeverBad}
use Rattle.proposal_laws.proofs.Refused.{told_not, told_refused, row_passed}
use Rattle.proposal_laws.proofs.Fine.{posting_is_fine}
use Rattle.proposal_laws.proofs.Stages.{roster_stays, fronts_grow, begun_stands}
use Rattle.proposal_laws.proofs.Begun.{Began, Gave, holds, began, gave, answered_post}

abbrev is_bad : Refusal → Bool
is_bad (BadCertificate post) = true
is_bad refusal = false

-- a POST that is refused for its certificate: the version is being solved, and something is wrong with the solutions
record Wrong (s : State) (cycle version : ℕ) (solutions : List SolutionData) : Type 0 where
  solving : is_solving s.cycle.phase ≡ true
  number : (cycle == s.cycle.number) ≡ true
  version_is : (version == s.cycle.version) ≡ true
  wrong : bad_post (length s.roster.members) s.cycle.begun solutions ≡ None → ⊥

wrong : (s : State) (by : Option (List ℕ)) (cycle version : ℕ) (solutions : List SolutionData) (post : BadPost) → first_of (refusals s by (Post cycle version solutions)) ≡ Some (BadCertificate post) → Wrong s cycle version solutions
wrong s by cycle version solutions post e =
    let x = BadCertificate post in
    let who = unwrap_or by [] in
    let rows7 : List (Bool × Refusal) = if_bad_post (bad_post (length s.roster.members) s.cycle.begun solutions) ∷ [] in
    let rows6 : List (Bool × Refusal) = unless_version s version ∷ rows7 in
    let rows5 : List (Bool × Refusal) = unless_phase is_solving s ∷ rows6 in
    let rows4 : List (Bool × Refusal) = if_broken s ∷ rows5 in
    let rows3 : List (Bool × Refusal) = unless_cycle s cycle ∷ rows4 in
    let rows2 : List (Bool × Refusal) = unless_operator s who ∷ rows3 in
    let greeted = row_passed is_bad (not (is_party s.roster by), NotGreeted) rows2 x refl refl e in
    let operator = row_passed is_bad (unless_operator s who) rows3 x refl refl greeted.1 in
    let number = row_passed is_bad (unless_cycle s cycle) rows4 x refl refl operator.1 in
    let broken = row_passed is_bad (if_broken s) rows5 x refl refl number.1 in
    let phase = row_passed is_bad (unless_phase is_solving s) rows6 x refl refl broken.1 in
    let last = row_passed is_bad (unless_version s version) rows7 x refl refl phase.1 in
    record {
      solving = holds (is_solving s.cycle.phase) phase.0;
      number = holds (cycle == s.cycle.number) number.0;
      version_is = holds (version == s.cycle.version) last.0;
      wrong = λ fine. (let P : Option BadPost → Type 0 = λ o. first_of (if_bad_post o ∷ []) ≡ Some x in let bad : None ≡ Some x = subst P fine last.1 in cc);
    }

limits_of_solving : (c : Cycle) → is_solving c.phase ≡ true → has_limits c.phase ≡ true
limits_of_solving c e = grind (arith)

-- what the POST of solutions of the problems that were given is not refused for
post_fine : (clock : ℕ → Bool) (figures : Figures) (h : History) → IsLegal h → (seat : ℕ) (by : Option (List ℕ)) (cycle version : ℕ) (mode : Mode) (front back : List Entry) (at : ℕ) → h.entries ≡ front ++ back → at ≡ h.base.position + length front → Began h front cycle version mode →
    (problems : List ProblemData) (front' back' : List Entry) (at' : ℕ) → h.entries ≡ front' ++ back' → at' ≡ h.base.position + length front' → at ≤ at' → Gave (replayed_from h.base.state front') cycle version problems →
    (solutions : List SolutionData) → AreSolved problems solutions → (from to : Mark) (reply : Reply) (made : List Entry) → at ≤ from.position → {moment : ℕ} → IsAsked clock figures h seat from (ask_post by cycle version solutions moment) reply made to → (post : BadPost) → reply.answer ≡ No (BadCertificate post) → ⊥
post_fine clock figures h legal seat by cycle version mode front back at split place began problems front' back' at' split' place' later given solutions solved from to reply made after asked post e =
    let t = asked.told in
    let S : List Entry → State = replayed_from h.base.state in
    let w = wrong (S t.front) by cycle version solutions post (told_refused is_bad figures asked.before to.stopped h seat _ reply (BadCertificate post) (λ n. refl) (λ n. refl) refl refl refl
    (λ s. answered_post s by cycle version solutions) (λ base entries. refl) t e) in
    let first = began.state in
    let settled : has_limits (S front).cycle.phase ≡ true = ap (λ (s : State). has_limits s.cycle.phase) first in
    let n0 : (S front).cycle.number ≡ cycle = ap (λ (s : State). s.cycle.number) first ∙ sym (eqb-true cycle began.start.cycle.number began.number) in
    let v0 : (S front).cycle.version ≡ version = ap (λ (s : State). s.cycle.version) first ∙ sym began.next in
    let b0 : (S front).cycle.begun ≡ problems_of began.start.roster began.start.trades began.start.tolerances mode = ap (λ (s : State). s.cycle.begun) first in
    let more = fronts_grow h front front' back back' at at' split split' place place' later in
    let there = begun_stands h legal front front' back' more.0 split' more.1 settled (limits_of_solving (S front').cycle given.solving) (n0 ∙ eqb-true cycle (S front').cycle.number given.number) (v0 ∙ eqb-true version (S front').cycle.version given.version_is) in
    let on = fronts_grow h front t.front back t.back at reply.at split t.split place t.place (omega (arith, after, asked.later)) in
    let here = begun_stands h legal front t.front t.back on.0 t.split on.1 settled (limits_of_solving (S t.front).cycle w.solving) (n0 ∙ eqb-true cycle (S t.front).cycle.number w.number) (v0 ∙ eqb-true version (S t.front).cycle.version w.version_is) in
    let are : problems ≡ problems_of began.start.roster began.start.trades began.start.tolerances mode = given.same ∙ (there ∙ b0) in
    let P : List ProblemData → Type 0 = λ ps. AreSolved ps solutions in
    let fine = posting_is_fine began.start.roster began.start.trades began.start.tolerances mode solutions (subst P are solved) in
    let roster : (S t.front).roster ≡ began.start.roster = roster_stays h.base.state t.front ∙ sym (sym (ap (λ (s : State). s.roster) first) ∙ roster_stays h.base.state front) in
    let now : bad_post (length (S t.front).roster.members) (S t.front).cycle.begun solutions ≡ bad_post (length began.start.roster.members) (problems_of began.start.roster began.start.trades began.start.tolerances mode) solutions =
    λ i. bad_post (length (roster i).members) ((here ∙ b0) i) solutions in
    w.wrong (now ∙ fine)

begin_fine : (clock : ℕ → Bool) (figures : Figures) (h : History) (seat : ℕ) (from : Mark) (by : Option (List ℕ)) (cycle : ℕ) (mode : Mode) (reply : Reply) (made : List Entry) (to : Mark) → {moment : ℕ} → IsAsked clock figures h seat from (ask_begin by cycle mode moment) reply made to →
    (post : BadPost) → reply.answer ≡ No (BadCertificate post) → ⊥
begin_fine clock figures h seat from by cycle mode reply made to a post e =
    told_not is_bad figures a.before to.stopped h seat _ reply (BadCertificate post) (λ n. refl) (λ n. refl) refl refl refl (λ s. refl) (λ base entries. refl) a.told refl e

fetch_fine : (clock : ℕ → Bool) (figures : Figures) (h : History) (seat : ℕ) (from : Mark) (by : Option (List ℕ)) (cycle version : ℕ) (reply : Reply) (made : List Entry) (to : Mark) → {moment : ℕ} → IsAsked clock figures h seat from (ask_fetch by cycle version moment) reply made to →
    (post : BadPost) → reply.answer ≡ No (BadCertificate post) → ⊥
fetch_fine clock figures h seat from by cycle version reply made to a post e =
    told_not is_bad figures a.before to.stopped h seat _ reply (BadCertificate post) (λ n. refl) (λ n. refl) refl refl refl (λ s. refl) (λ base entries. refl) a.told refl e

-- what follows on the problems
fetched_fine : (answer : Answer) (clock : ℕ → Bool) (figures : Figures) (h : History) → IsLegal h → (seat : ℕ) (by : Option (List ℕ)) (cycle version : ℕ) (mode : Mode) (front back : List Entry) (at : ℕ) → h.entries ≡ front ++ back → at ≡ h.base.position + length front → Began h front cycle version mode →
    (mid from to : Mark) (fetched reply : Reply) (first made : List Entry) → at ≤ from.position → {moment : ℕ} → IsAsked clock figures h seat from (ask_fetch by cycle version moment) fetched first mid → fetched.answer ≡ answer →
    GoesOnFetched answer clock figures h seat mid by cycle version at fetched reply made to → (post : BadPost) → reply.answer ≡ No (BadCertificate post) → ⊥
fetched_fine (Problems problems) clock figures h legal seat by cycle version mode front back at split place began mid from to fetched reply first made later asked is (inl unsolved) post e =
    let bad : No Memory ≡ No (BadCertificate post) = sym (ap (λ (r : Reply). r.answer) unsolved.0) ∙ e in cc
fetched_fine (Problems problems) clock figures h legal seat by cycle version mode front back at split place began mid from to fetched reply first made later asked is (inr p) post e =
    let given = gave figures asked.before mid.stopped h seat by cycle version fetched problems asked.told is in
    post_fine clock figures h legal seat by cycle version mode front back at split place began problems asked.told.front asked.told.back fetched.at asked.told.split asked.told.place (omega (arith, later, asked.later)) given
    p.solutions p.solved mid to reply made (omega (arith, later, asked.later, asked.position)) p.asked post e
fetched_fine answer clock figures h legal seat by cycle version mode front back at split place began mid from to fetched reply first made later asked is last post e =
    fetch_fine clock figures h seat from by cycle version fetched first mid asked post (sym (ap (λ (r : Reply). r.answer) last.0) ∙ e)

begun_fine : (answer : Answer) (clock : ℕ → Bool) (figures : Figures) (h : History) → IsLegal h → (seat : ℕ) (from mid to : Mark) (by : Option (List ℕ)) (cycle : ℕ) (mode : Mode) (begun reply : Reply) (first made : List Entry) → {moment : ℕ} → IsAsked clock figures h seat from (ask_begin by cycle mode moment) begun first mid → begun.answer ≡ answer →
    GoesOnBegun answer clock figures h seat mid by cycle begun reply made to → (post : BadPost) → reply.answer ≡ No (BadCertificate post) → ⊥
begun_fine (Begun number version) clock figures h legal seat from mid to by cycle mode begun reply first made asked is f post e =
    fetched_fine f.fetched.answer clock figures h legal seat by cycle version mode asked.told.front asked.told.back begun.at asked.told.split asked.told.place (began figures asked.before mid.stopped h seat by cycle mode begun number version asked.told is)
    f.mid mid to f.fetched reply f.first f.others (omega (arith, asked.position)) f.asked refl f.goes_on post e
begun_fine answer clock figures h legal seat from mid to by cycle mode begun reply first made asked is last post e =
    begin_fine clock figures h seat from by cycle mode begun first mid asked post (sym (ap (λ (r : Reply). r.answer) last.0) ∙ e)

pub proposals_are_never_bad : ProposalsAreNeverBad
proposals_are_never_bad clock figures h legal seat from by cycle mode reply made to p post e =
    begun_fine p.begun.answer clock figures h legal seat from p.mid to by cycle mode p.begun reply p.first p.others p.asked refl p.goes_on post e
