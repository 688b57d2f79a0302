-- A PROPOSE that is overtaken is told so later.
use Rattle.std.proofs.Common.{◌≡◌, ℕ, ◌+◌, ◌<◌, ◌≤◌, ◌==◌, nat_lt, Bool, true, false, List, [], ◌∷◌, ◌++◌, length, Option, Some, None, refl, sym, subst, ap, ◌∙◌, inl, inr, arith}
use Rattle.std.proofs.lemmas.Bool.{eq-eqb}
use Rattle.std.proofs.lemmas.List.{append-nil, length-append}
use Rattle.std.proofs.lemmas.Bool.Decides.{nat_tests}
use Rattle.network_laws.specs.Solutions.{SolutionData}
use Rattle.command_types.specs.declared.ask.Entry.{Entry}
use Rattle.command_types.specs.declared.ask.What.TheVariants.{Fetch, Post}
use Rattle.command_types.specs.declared.answer.Answer.{Answer}
use Rattle.command_types.specs.declared.answer.Answer.TheVariants.{Begun, Problems, No}
use Rattle.command_types.specs.declared.answer.Reply.{Reply}
use Rattle.command_types.specs.declared.cycle.Mode.{Mode}
use Rattle.command_types.specs.declared.figures.Figures.{Figures}
use Rattle.command_types.specs.declared.figures.State.{State}
use Rattle.command_types.specs.declared.refusal.BadPost.{BadPost}
use Rattle.command_types.specs.declared.refusal.Refusal.{Refusal}
use Rattle.command_types.specs.declared.refusal.Refusal.TheVariants.{Memory}
use Rattle.command_types.specs.Cycles.{problems_of, bad_post}
use Rattle.command_types.specs.CycleRefusals.{if_bad_post}
use Rattle.command_types.specs.CycleSteps.{after_begin}
use Rattle.command_types.specs.Machine.{refusals}
use Rattle.command_types.specs.History.{History, replayed_from}
use Rattle.command_types.specs.Session.{Mark, IsAsked, GoesOnFetched, GoesOnBegun, ask_begin, ask_fetch, ask_post}
use Rattle.proposal_laws.specs.Laws.{is_overtaken, ProposalsAreOvertaken}
use Rattle.proposal_laws.proofs.Refused.{none_of, told_not}
use Rattle.proposal_laws.proofs.Stages.{fronts_grow}
use Rattle.proposal_laws.proofs.Begun.{Began, began, answered_post}

-- at the place where the version began nothing is overtaken
other_post : (o : Option BadPost) → is_overtaken (if_bad_post o).1 ≡ false
other_post None = refl
other_post (Some post) = refl

fetch_stands : (start : State) (mode : Mode) (by : Option (List ℕ)) (cycle version : ℕ) → (cycle == start.cycle.number) ≡ true → (version == 1 + start.cycle.version) ≡ true → none_of is_overtaken (refusals (after_begin start mode) by (Fetch cycle version)) ≡ true
fetch_stands start mode by cycle version number next = rw (number, next) refl

post_stands : (start : State) (mode : Mode) (by : Option (List ℕ)) (cycle version : ℕ) (solutions : List SolutionData) → (cycle == start.cycle.number) ≡ true → (version == 1 + start.cycle.version) ≡ true →
    none_of is_overtaken (refusals (after_begin start mode) by (Post cycle version solutions)) ≡ true
post_stands start mode by cycle version solutions number next =
    let other = other_post (bad_post (length start.roster.members) (problems_of start.roster start.trades start.tolerances mode) solutions) in
    rw (number, next, other) refl

-- a front of the same length is the same
same_front : (h : History) (front front' back back' : List Entry) (m n : ℕ) → h.entries ≡ front ++ back → h.entries ≡ front' ++ back' → m ≡ h.base.position + length front → n ≡ h.base.position + length front' → m ≤ n → n ≤ m → front' ≡ front
same_front h front front' back back' m n one two here there le ge =
    let more = fronts_grow h front front' back back' m n one two here there le in
    let sizes = ap length more.1 in
    let none : length more.0 ≡ 0 = omega (arith, length-append front more.0) in
    more.1 ∙ (ap (λ xs. front ++ xs) (nothing more.0 none) ∙ append-nil front)
  where
    nothing : (xs : List Entry) → length xs ≡ 0 → xs ≡ []
    nothing [] e = refl
    nothing (x ∷ xs) e = absurd (omega arith)

-- what is refused so is refused later
later_by : (b n : ℕ) → (n ≤ b → ⊥) → b < n
later_by b n never = by (nat_lt b n) refl
  where
    by : (t : Bool) → nat_lt b n ≡ t → b < n
    by true is = grind (arith, nat_tests)
    by false is = absurd (never (grind (arith, nat_tests)))

version_is : (v w : ℕ) → v ≡ 1 + w → (v == 1 + w) ≡ true
version_is v w e = eq-eqb v (1 + w) e

overtaken_fetch : (clock : ℕ → Bool) (figures : Figures) (h : History) (seat : ℕ) (by : Option (List ℕ)) (cycle version : ℕ) (mode : Mode) (front back : List Entry) (at : ℕ) → h.entries ≡ front ++ back → at ≡ h.base.position + length front → Began h front cycle version mode →
    (from to : Mark) (reply : Reply) (made : List Entry) → at ≤ from.position → {moment : ℕ} → IsAsked clock figures h seat from (ask_fetch by cycle version moment) reply made to → (x : Refusal) → is_overtaken x ≡ true → reply.answer ≡ No x → at < reply.at
overtaken_fetch clock figures h seat by cycle version mode front back at split place began from to reply made later a x over e =
    later_by at reply.at (λ le.
    let t = a.told in
    let same : t.front ≡ front = same_front h front t.front back t.back at reply.at split t.split place t.place (omega (arith, later, a.later)) le in
    let state : replayed_from h.base.state t.front ≡ after_begin began.start mode = ap (replayed_from h.base.state) same ∙ began.state in
    let P : State → Type 0 = λ s. none_of is_overtaken (refusals s by (Fetch cycle version)) ≡ true in
    told_not is_overtaken figures a.before to.stopped h seat _ reply x (λ n. refl) (λ n. refl) refl refl over (λ s. refl) (λ base entries. refl) t
    (subst P (sym state) (fetch_stands began.start mode by cycle version began.number (version_is version began.start.cycle.version began.next))) e)

overtaken_post : (clock : ℕ → Bool) (figures : Figures) (h : History) (seat : ℕ) (by : Option (List ℕ)) (cycle version : ℕ) (mode : Mode) (front back : List Entry) (at : ℕ) → h.entries ≡ front ++ back → at ≡ h.base.position + length front → Began h front cycle version mode →
    (solutions : List SolutionData) (from to : Mark) (reply : Reply) (made : List Entry) → at ≤ from.position → {moment : ℕ} → IsAsked clock figures h seat from (ask_post by cycle version solutions moment) reply made to → (x : Refusal) → is_overtaken x ≡ true → reply.answer ≡ No x → at < reply.at
overtaken_post clock figures h seat by cycle version mode front back at split place began solutions from to reply made later a x over e =
    later_by at reply.at (λ le.
    let t = a.told in
    let same : t.front ≡ front = same_front h front t.front back t.back at reply.at split t.split place t.place (omega (arith, later, a.later)) le in
    let state : replayed_from h.base.state t.front ≡ after_begin began.start mode = ap (replayed_from h.base.state) same ∙ began.state in
    let P : State → Type 0 = λ s. none_of is_overtaken (refusals s by (Post cycle version solutions)) ≡ true in
    told_not is_overtaken figures a.before to.stopped h seat _ reply x (λ n. refl) (λ n. refl) refl refl over (λ s. answered_post s by cycle version solutions) (λ base entries. refl) t
    (subst P (sym state) (post_stands began.start mode by cycle version solutions began.number (version_is version began.start.cycle.version began.next))) e)

overtaken_fetched : (answer : Answer) (clock : ℕ → Bool) (figures : Figures) (h : History) (seat : ℕ) (by : Option (List ℕ)) (cycle version : ℕ) (mode : Mode) (front back : List Entry) (at : ℕ) → h.entries ≡ front ++ back → at ≡ h.base.position + length front → Began h front cycle version mode →
    (mid from to : Mark) (fetched reply : Reply) (first made : List Entry) → at ≤ from.position → {moment : ℕ} → IsAsked clock figures h seat from (ask_fetch by cycle version moment) fetched first mid →
    GoesOnFetched answer clock figures h seat mid by cycle version at fetched reply made to → (x : Refusal) → is_overtaken x ≡ true → reply.answer ≡ No x → at < reply.at
overtaken_fetched (Problems problems) clock figures h seat by cycle version mode front back at split place began mid from to fetched reply first made later asked (inl unsolved) x over e =
    absurd (
    let same : Memory ≡ x = let f : No Memory ≡ No x = sym (ap (λ (r : Reply). r.answer) unsolved.0) ∙ e in cc in
    let bad : false ≡ true = ap is_overtaken same ∙ over in
    cc)
overtaken_fetched (Problems problems) clock figures h seat by cycle version mode front back at split place began mid from to fetched reply first made later asked (inr p) x over e =
    overtaken_post clock figures h seat by cycle version mode front back at split place began p.solutions mid to reply made (omega (arith, later, asked.later, asked.position)) p.asked x over e
overtaken_fetched answer clock figures h seat by cycle version mode front back at split place began mid from to fetched reply first made later asked last x over e =
    let same : fetched.at ≡ reply.at = sym (ap (λ (r : Reply). r.at) last.0) in
    let n = overtaken_fetch clock figures h seat by cycle version mode front back at split place began from mid fetched first later asked x over (sym (ap (λ (r : Reply). r.answer) last.0) ∙ e) in
    omega (arith, n, same)

overtaken_begun : (answer : Answer) (clock : ℕ → Bool) (figures : Figures) (h : History) (seat : ℕ) (from mid to : Mark) (by : Option (List ℕ)) (cycle number version : ℕ) (mode : Mode) (begun reply : Reply) (first made : List Entry) → {moment : ℕ} → IsAsked clock figures h seat from (ask_begin by cycle mode moment) begun first mid →
    begun.answer ≡ answer → answer ≡ Begun number version → GoesOnBegun answer clock figures h seat mid by cycle begun reply made to → (x : Refusal) → is_overtaken x ≡ true → reply.answer ≡ No x → begun.at < reply.at
overtaken_begun (Begun n version') clock figures h seat from mid to by cycle number version mode begun reply first made asked is told f x over e =
    overtaken_fetched f.fetched.answer clock figures h seat by cycle version' mode asked.told.front asked.told.back begun.at asked.told.split asked.told.place (began figures asked.before mid.stopped h seat by cycle mode begun n version' asked.told is)
    f.mid mid to f.fetched reply f.first f.others (omega (arith, asked.position)) f.asked f.goes_on x over e
overtaken_begun answer clock figures h seat from mid to by cycle number version mode begun reply first made asked is told last x over e = absurd (let bad = told in cc)

pub proposals_are_overtaken : ProposalsAreOvertaken
proposals_are_overtaken clock figures h seat from by cycle mode reply made to p o =
    overtaken_begun p.begun.answer clock figures h seat from p.mid to by cycle o.number o.version mode p.begun reply p.first p.others p.asked refl o.accepted p.goes_on o.refusal o.overtaken o.refused
