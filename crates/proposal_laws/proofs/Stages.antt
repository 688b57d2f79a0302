-- Where a version began, and what stands of it later.
use Rattle.std.proofs.Common.{◌≡◌, ◌⊎◌, ℕ, ◌+◌, ◌≤◌, Bool, true, false, not, ◌&&◌, List, [], ◌∷◌, ◌++◌, length, Option, Some, None, unwrap_or, refl, sym, subst, ap, ◌∙◌, inl, inr, append_assoc, arith}
use Rattle.std.proofs.lemmas.Bool.{and_parts}
use Rattle.network_laws.specs.Solutions.{SolutionData}
use Rattle.command_types.specs.declared.ask.Ask.{Ask}
use Rattle.command_types.specs.declared.ask.Entry.{Entry}
use Rattle.command_types.specs.declared.ask.What.{What}
use Rattle.command_types.specs.declared.ask.What.TheVariants.{Post, Accept}
use Rattle.command_types.specs.declared.answer.Answer.{Answer}
use Rattle.command_types.specs.declared.answer.Reply.{Reply}
use Rattle.command_types.specs.declared.figures.Figures.{Figures}
use Rattle.command_types.specs.declared.figures.JournalFigures.{JournalFigures}
use Rattle.command_types.specs.declared.figures.Start.{Start}
use Rattle.command_types.specs.declared.figures.State.{State}
use Rattle.command_types.specs.declared.plan.PlanRow.{PlanRow}
use Rattle.command_types.specs.declared.refusal.Refusal.{Refusal}
use Rattle.command_types.specs.Cycles.{posted_plan, has_limits}
use Rattle.command_types.specs.CycleSteps.{proposed_or_done, touched_in, after_vote, left_after}
use Rattle.command_types.specs.Machine.{refused_or, first_of, is_refusal, refusals, accepted, answer_to, changes, member_of, state_by, state_after}
use Rattle.command_types.specs.History.{History, IsLegal, replayed_from}
use Rattle.command_types.specs.Offers.{answer_at}
use Rattle.command_types.specs.Told.{IsTold, IsRecorded, IsNotRecorded, IsHouse, IsMemory}
use Rattle.command_types.proofs.HistoryFacts.{replayed_on}
use Rattle.trade_history.proofs.Versions.{begun_limits_stand}

roster_posted : (s : State) (solutions : List SolutionData) (plan : List PlanRow) (touched : List ℕ) → (proposed_or_done s solutions plan touched).roster ≡ s.roster
roster_posted s solutions plan [] = refl
roster_posted s solutions plan (member ∷ members) = refl

roster_voted : (s : State) (member : ℕ) (left : List ℕ) → (after_vote s member left).roster ≡ s.roster
roster_voted s member [] = refl
roster_voted s member (voter ∷ voters) = refl

roster_by : (s : State) (by : Option (List ℕ)) (what : What) → (state_by s by what).roster ≡ s.roster
roster_by s by (Post cycle version solutions) = roster_posted s solutions (posted_plan s.cycle s.trades solutions) (touched_in s (posted_plan s.cycle s.trades solutions))
roster_by s by (Accept cycle version) = roster_voted s (member_of s (unwrap_or by [])) (left_after s (member_of s (unwrap_or by [])))
roster_by s by what = refl

-- the roster stays
pub roster_stays : (s : State) (entries : List Entry) → (replayed_from s entries).roster ≡ s.roster
roster_stays s [] = refl
roster_stays s (entry ∷ entries) = roster_stays (state_after s entry.ask) entries ∙ roster_by s entry.ask.by entry.ask.what

-- an answer that is no refusal
accepted_is : (a x : Answer) (o : Option Refusal) → is_refusal x ≡ false → x ≡ refused_or a o → (o ≡ None) × (x ≡ a)
accepted_is a x None fine e = (refl, e)
accepted_is a x (Some r) fine e = absurd (let bad : true ≡ false = sym (ap is_refusal e) ∙ fine in cc)

pub house_refuses : (journal : Option JournalFigures) (figures : Figures) (before after : Bool) (s : State) (front : List Entry) (n : ℕ) (ask : Ask) (answer : Answer) → IsHouse journal figures before after s front n ask answer → is_refusal answer ≡ true
house_refuses None figures before after s front n ask answer house = absurd house
house_refuses (Some journal) figures before after s front n ask answer house = ap is_refusal house.same

-- what a read that is not refused tells
pub read_told : (figures : Figures) (before after : Bool) (h : History) (seat : ℕ) (ask : Ask) (reply : Reply) → (t : IsTold figures before after h seat ask reply) → is_refusal reply.answer ≡ false → changes ask.what ≡ false →
    ((base : Start) (entries : List Entry) → answer_at base entries ask ≡ answer_to (replayed_from base.state entries) ask) →
    (first_of (refusals (replayed_from h.base.state t.front) ask.by ask.what) ≡ None) × (reply.answer ≡ accepted (replayed_from h.base.state t.front) ask.by ask.what)
read_told figures before after h seat ask reply t fine reads asks = by_case t.one
  where
    by_case : IsRecorded h.base.state t.front seat ask reply.answer ⊎ IsNotRecorded h.base t.front ask reply.answer ⊎ IsHouse figures.journal figures before after h.base.state t.front reply.at ask reply.answer ⊎ IsMemory figures ask.what reply.answer →
        (first_of (refusals (replayed_from h.base.state t.front) ask.by ask.what) ≡ None) × (reply.answer ≡ accepted (replayed_from h.base.state t.front) ask.by ask.what)
    by_case (inl r) = absurd (let change = (and_parts (changes ask.what) (not (is_refusal reply.answer)) r.change).0 in let bad : true ≡ false = sym change ∙ reads in cc)
    by_case (inr (inl r)) = accepted_is (accepted (replayed_from h.base.state t.front) ask.by ask.what) reply.answer (first_of (refusals (replayed_from h.base.state t.front) ask.by ask.what)) fine (r.same ∙ asks h.base t.front)
    by_case (inr (inr (inl house))) = absurd (let bad : true ≡ false = sym (house_refuses figures.journal figures before after h.base.state t.front reply.at ask reply.answer house) ∙ fine in cc)
    by_case (inr (inr (inr memory))) = absurd (let bad : true ≡ false = sym (ap is_refusal memory.same) ∙ fine in cc)

-- what a change that is not refused tells: it is the last entry, and the machine took it
pub record Changed (h : History) (front : List Entry) (seat : ℕ) (ask : Ask) (answer : Answer) : Type 0 where
  pub before : List Entry
  pub last : front ≡ before ++ record { seat = seat; ask = ask } ∷ []
  pub none : first_of (refusals (replayed_from h.base.state before) ask.by ask.what) ≡ None
  pub same : answer ≡ accepted (replayed_from h.base.state before) ask.by ask.what
  pub state : replayed_from h.base.state front ≡ state_after (replayed_from h.base.state before) ask

pub change_told : (figures : Figures) (before after : Bool) (h : History) (seat : ℕ) (ask : Ask) (reply : Reply) → (t : IsTold figures before after h seat ask reply) → is_refusal reply.answer ≡ false → changes ask.what ≡ true →
    Changed h t.front seat ask reply.answer
change_told figures before after h seat ask reply t fine change = by_case t.one
  where
    by_case : IsRecorded h.base.state t.front seat ask reply.answer ⊎ IsNotRecorded h.base t.front ask reply.answer ⊎ IsHouse figures.journal figures before after h.base.state t.front reply.at ask reply.answer ⊎ IsMemory figures ask.what reply.answer →
        Changed h t.front seat ask reply.answer
    by_case (inl r) =
        let s = replayed_from h.base.state r.before in
        let a = accepted_is (accepted s ask.by ask.what) reply.answer (first_of (refusals s ask.by ask.what)) fine r.same in
        record {
          before = r.before;
          last = r.last;
          none = a.0;
          same = a.1;
          state = ap (replayed_from h.base.state) r.last ∙ replayed_on h.base.state r.before (record { seat = seat; ask = ask });
        }
    by_case (inr (inl r)) =
        absurd (
        let P : Bool × Bool → Type 0 = λ x. not (x.0 && not x.1) ≡ true in
        let bad : false ≡ true = subst P (λ i. (change i, fine i)) r.no_change in
        cc)
    by_case (inr (inr (inl house))) = absurd (let bad : true ≡ false = sym (house_refuses figures.journal figures before after h.base.state t.front reply.at ask reply.answer house) ∙ fine in cc)
    by_case (inr (inr (inr memory))) = absurd (let bad : true ≡ false = sym (ap is_refusal memory.same) ∙ fine in cc)

-- of two fronts of one history the shorter begins the longer
pub begins : (xs ys rx ry : List Entry) → xs ++ rx ≡ ys ++ ry → length xs ≤ length ys → (more : List Entry) × (ys ≡ xs ++ more)
begins [] ys rx ry e le = (ys, refl)
begins (x ∷ xs) [] rx ry e le = absurd (omega arith)
begins (x ∷ xs) (y ∷ ys) rx ry e le = let t : xs ++ rx ≡ ys ++ ry = cc in let h : x ≡ y = cc in let r = begins xs ys rx ry t (omega arith) in (r.0, (λ i. sym h i ∷ r.1 i))

-- two tellings of one history, the second at a position not below the first's
pub fronts_grow : (h : History) (first second back back' : List Entry) (m n : ℕ) → h.entries ≡ first ++ back → h.entries ≡ second ++ back' → m ≡ h.base.position + length first → n ≡ h.base.position + length second → m ≤ n →
    (more : List Entry) × (second ≡ first ++ more)
fronts_grow h first second back back' m n one two here there le = begins first second back back' (sym one ∙ two) (omega arith)

-- the problems that a version began with stand
pub begun_stands : (h : History) → IsLegal h → (first second back : List Entry) (more : List Entry) → h.entries ≡ second ++ back → second ≡ first ++ more →
    has_limits (replayed_from h.base.state first).cycle.phase ≡ true → has_limits (replayed_from h.base.state second).cycle.phase ≡ true →
    (replayed_from h.base.state first).cycle.number ≡ (replayed_from h.base.state second).cycle.number → (replayed_from h.base.state first).cycle.version ≡ (replayed_from h.base.state second).cycle.version →
    (replayed_from h.base.state second).cycle.begun ≡ (replayed_from h.base.state first).cycle.begun
begun_stands h legal first second back more split is limits limits' number version =
    let S : List Entry → State = replayed_from h.base.state in
    let whole : h.entries ≡ first ++ (more ++ back) = split ∙ (ap (λ xs. xs ++ back) is ∙ append_assoc first more back) in
    let on = ap S is in
    let stood = begun_limits_stand h legal first more back whole limits (subst (λ (s : State). has_limits s.cycle.phase ≡ true) on limits') (number ∙ ap (λ (s : State). s.cycle.number) on) (version ∙ ap (λ (s : State). s.cycle.version) on) in
    ap (λ (s : State). s.cycle.begun) on ∙ stood
