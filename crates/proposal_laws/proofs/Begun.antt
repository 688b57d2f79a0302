-- What a PROPOSE knows of its version by the replies to its BEGIN and its FETCH.
use Rattle.std.proofs.Common.{◌≡◌, ℕ, ◌+◌, ◌==◌, not, Bool, true, false, List, [], ◌∷◌, Option, None, refl, sym, ap, ◌∙◌}
use Rattle.network_laws.specs.Solutions.{ProblemData, SolutionData}
use Rattle.command_types.specs.declared.ask.Entry.{Entry}
use Rattle.command_types.specs.declared.ask.What.TheVariants.{Begin, Fetch, Post}
use Rattle.command_types.specs.declared.answer.Answer.TheVariants.{Begun, Problems}
use Rattle.command_types.specs.declared.answer.Reply.{Reply}
use Rattle.command_types.specs.declared.cycle.Mode.{Mode}
use Rattle.command_types.specs.declared.figures.Figures.{Figures}
use Rattle.command_types.specs.declared.figures.State.{State}
use Rattle.command_types.specs.Cycles.{is_solving}
use Rattle.command_types.specs.CycleSteps.{after_begin, proposed_answer, touched_in}
use Rattle.command_types.specs.Cycles.{posted_plan}
use Rattle.command_types.specs.Machine.{first_of, refusals, accepted, is_refusal}
use Rattle.command_types.specs.History.{History, replayed_from}
use Rattle.command_types.specs.Told.{IsTold}
use Rattle.command_types.specs.Session.{ask_begin, ask_fetch}
use Rattle.trade_history.proofs.Legal.{begin-legal}
use Rattle.proposal_laws.proofs.Refused.{none_holds}
use Rattle.proposal_laws.proofs.Stages.{read_told, change_told}

-- an accepted BEGIN: the version is being solved, with the problems of its moment
pub record Began (h : History) (front : List Entry) (cycle version : ℕ) (mode : Mode) : Type 0 where
  pub start : State
  pub state : replayed_from h.base.state front ≡ after_begin start mode
  pub number : (cycle == start.cycle.number) ≡ true
  pub next : version ≡ 1 + start.cycle.version

pub holds : (b : Bool) → not b ≡ false → b ≡ true
holds true e = refl
holds false e = cc

pub began : (figures : Figures) (before after : Bool) (h : History) (seat : ℕ) (by : Option (List ℕ)) (cycle : ℕ) (mode : Mode) (reply : Reply) (number version : ℕ) → {moment : ℕ} → (t : IsTold figures before after h seat (ask_begin by cycle mode moment) reply) →
    reply.answer ≡ Begun number version → Began h t.front cycle version mode
began figures before after h seat by cycle mode reply number version t is =
    let c = change_told figures before after h seat _ reply t (ap is_refusal is) refl in
    let s = replayed_from h.base.state c.before in
    let e : Begun number version ≡ Begun cycle (1 + s.cycle.version) = sym is ∙ c.same in
    record {
      start = s;
      state = c.state;
      number = passes_cycle s by cycle mode c.none;
      next = let n : version ≡ 1 + s.cycle.version = cc in n;
    }
  where
    passes_cycle : (s : State) (by : Option (List ℕ)) (cycle : ℕ) (mode : Mode) → first_of (refusals s by (Begin cycle mode)) ≡ None → (cycle == s.cycle.number) ≡ true
    passes_cycle s by cycle mode none = (begin-legal s by cycle mode none).1

-- a FETCH that gave its problems: the version is being solved, and they are its
pub record Gave (s : State) (cycle version : ℕ) (problems : List ProblemData) : Type 0 where
  pub solving : is_solving s.cycle.phase ≡ true
  pub number : (cycle == s.cycle.number) ≡ true
  pub version_is : (version == s.cycle.version) ≡ true
  pub same : problems ≡ s.cycle.begun

pub gave : (figures : Figures) (before after : Bool) (h : History) (seat : ℕ) (by : Option (List ℕ)) (cycle version : ℕ) (reply : Reply) (problems : List ProblemData) → {moment : ℕ} → (t : IsTold figures before after h seat (ask_fetch by cycle version moment) reply) →
    reply.answer ≡ Problems problems → Gave (replayed_from h.base.state t.front) cycle version problems
gave figures before after h seat by cycle version reply problems t is =
    let s = replayed_from h.base.state t.front in
    let r = read_told figures before after h seat _ reply t (ap is_refusal is) refl (λ base entries. refl) in
    let none = none_holds (refusals s by (Fetch cycle version)) r.0 in
    let e : Problems problems ≡ Problems s.cycle.begun = sym is ∙ r.1 in
    record {
      solving = holds (is_solving s.cycle.phase) none.1.1.1.1.0;
      number = holds (cycle == s.cycle.number) none.1.1.0;
      version_is = holds (version == s.cycle.version) none.1.1.1.1.1.0;
      same = let f : problems ≡ s.cycle.begun = cc in f;
    }

-- the answer to an accepted POST is no refusal
pub answered_post : (s : State) (by : Option (List ℕ)) (cycle version : ℕ) (solutions : List SolutionData) → is_refusal (accepted s by (Post cycle version solutions)) ≡ false
answered_post s by cycle version solutions = by_touched (touched_in s (posted_plan s.cycle s.trades solutions))
  where
    by_touched : (touched : List ℕ) → is_refusal (proposed_answer s solutions touched) ≡ false
    by_touched [] = refl
    by_touched (member ∷ members) = refl
