-- What is right of found solutions, when one more is.
use Rattle.std.proofs.Common.{◌≡◌, ℕ, ◌+◌, ◌<◌, ◌≤◌, ◌==◌, nat_lt, ◌⊎◌, inl, inr, ⊎_elim, Bool, true, false, List, zero, suc, [], ◌∷◌, ◌++◌, length, take, set, get_or, slice_get, if◌then◌else◌, Result, Ok, Err, Option, Some, None, sym, subst, ap, ◌∙◌, arith, refl}
use Rattle.std.specs.Prelude.{All}
use Rattle.std.specs.Result.{is_ok, is_err}
use Rattle.std.proofs.lemmas.Bool.{ne_eqb}
use Rattle.std.proofs.lemmas.List.{take-append-le, take_all, length-set, length-append, get_or-set_same, get_or-set_other}
use Rattle.std.proofs.lemmas.Option.{slice_get_within, get_or_from_slice_get, slice_get-get_or}
use Rattle.std.proofs.Math.ListN.{get_or-append}
use mathlib.Core.Logic.{dite}
use native.Mathlib.Decide.{ℕ_discrete}
use Rattle.network_laws.specs.Solutions.{ProblemData, SolutionData}
use Rattle.parallel_solver.specs.declared.job.Done.{Done}
use Rattle.parallel_solver.specs.Places.{SolvesAt, IsFound}
use Rattle.parallel_solver.specs.declared.job.Job.{Job}
use Rattle.claim_counter.specs.declared.rule.Claims.{Claims}
use Rattle.claim_counter.specs.declared.workers.Counter.{Counter}
use Rattle.claim_counter.specs.Claims.{one_if, times, room_after, with_claim}
use Rattle.claim_counter.specs.Workers.{IsWorkerOf, view_of}
use Rattle.claim_counter.proofs.ClaimSteps.{times-append}
use Rattle.std.proofs.lemmas.Bool.Decides.{nat_tests}
use Rattle.parallel_solver.specs.Jobs.{IsRight, AreRight, MayWork, solved_at, HasPassed, FindsToo}

some_is : (x y : SolutionData) → Some x ≡ Some y → x ≡ y
some_is x y e = cc

pub put_right : (problems : List ProblemData) (found : List (Option SolutionData)) (done : Done) → IsRight problems done → AreRight problems found → AreRight problems (set found done.place (Some done.solution))
put_right problems found done right a = record {
  size = length-set found done.place (Some done.solution) ∙ a.size;
  each = λ place s at.
      let now : List (Option SolutionData) = set found done.place (Some done.solution) in
      let within : place < length now = slice_get_within now place (Some s) at in
      let sizes = length-set found done.place (Some done.solution) in
      let is : get_or now place (Some s) ≡ Some s = get_or_from_slice_get now place (Some s) (Some s) at in
      dite (ℕ_discrete place done.place)
      (λ e.
      let here : get_or now done.place (Some s) ≡ Some done.solution = get_or-set_same found done.place (Some done.solution) (Some s) (let w = right.within in let z = a.size in omega arith) in
      let same : done.solution ≡ s = some_is _ _ (sym here ∙ (ap (λ n. get_or now n (Some s)) (sym e) ∙ is)) in
      let P : ℕ × SolutionData → Type 0 = λ x. SolvesAt problems x.0 x.1 in
      subst P (λ i. (sym e i, same i)) right.solves)
      (λ ne.
      let before : get_or found place (Some s) ≡ Some s = sym (get_or-set_other found done.place place (Some done.solution) (Some s) ne) ∙ is in
      let lt : place < length found = omega arith in
      a.each place s (slice_get-get_or found place (Some s) lt ∙ ap Some before));
}

none_more : (found : List (Option SolutionData)) (place : ℕ) (s : SolutionData) → slice_get (found ++ None ∷ []) place ≡ Some (Some s) → slice_get found place ≡ Some (Some s)
none_more [] zero s e = let f : None ≡ Some s = cc in absurd (let g = f in cc)
none_more [] (suc place) s e = cc
none_more (x ∷ found) zero s e = e
none_more (x ∷ found) (suc place) s e = none_more found place s e

-- places without a solution
pub record AreEmpty (found : List (Option SolutionData)) (n : ℕ) : Type 0 where
  pub size : length found ≡ n
  pub each : (place : ℕ) (s : SolutionData) → slice_get found place ≡ Some (Some s) → ⊥

pub empty_none : AreEmpty [] 0
empty_none = record { size = refl; each = λ place s at. cc }

pub empty_more : (found found' : List (Option SolutionData)) (n : ℕ) → found' ≡ found ++ None ∷ [] → AreEmpty found n → AreEmpty found' (n + 1)
empty_more found found' n is a =
    let P : List (Option SolutionData) → Type 0 = λ xs. AreEmpty xs (n + 1) in
    subst P (sym is) (record { size = (let z = a.size in omega (arith, length-append found (None ∷ []))); each = λ place s at. a.each place s (none_more found place s at) })

pub empty_right : (problems : List ProblemData) (found : List (Option SolutionData)) (n : ℕ) → AreEmpty found n → n ≡ length problems → AreRight problems found
empty_right problems found n a is = record { size = a.size ∙ is; each = λ place s at. absurd (a.each place s at) }

pub all_front : {X : Type 0} (P : X → Type 0) (xs ys zs : List X) → zs ≡ xs ++ ys → All P zs → All P xs
all_front {X = X} P xs ys zs is h =
    let Q : List X → Type 0 = λ l. All P l in
    let g = subst Q is h in
    λ k d lt. subst P (get_or-append xs ys d k lt) (g k d (omega (arith, length-append xs ys)))

last_place : {X : Type 0} (xs : List X) (x d : X) → get_or (xs ++ x ∷ []) (length xs) d ≡ x
last_place [] x d = refl
last_place (y ∷ xs) x d = last_place xs x d

pub all_last : {X : Type 0} (P : X → Type 0) (xs zs : List X) (x : X) → zs ≡ xs ++ x ∷ [] → All P zs → P x
all_last {X = X} P xs zs x is h =
    let Q : List X → Type 0 = λ l. All P l in
    let g = subst Q is h in
    subst P (last_place xs x x) (g (length xs) x (omega (arith, length-append xs (x ∷ []))))

pub all_more : {X : Type 0} (P : X → Type 0) (xs zs : List X) (x : X) → zs ≡ xs ++ x ∷ [] → All P xs → P x → All P zs
all_more {X = X} P xs zs x is h here =
    let Q : List X → Type 0 = λ l. All P l in
    subst Q (sym is) (λ k d lt. at xs k d h lt)
  where
    at : (xs : List X) (k : ℕ) (d : X) → All P xs → k < length (xs ++ x ∷ []) → P (get_or (xs ++ x ∷ []) k d)
    at [] zero d h lt = here
    at [] (suc k) d h lt = absurd (omega arith)
    at (y ∷ xs) zero d h lt = h 0 d (omega arith)
    at (y ∷ xs) (suc k) d h lt = at xs k d (λ j e l. h (suc j) e (omega arith)) (omega arith)

pub whole_front : {X : Type 0} (n : ℕ) (new rest : List X) → length new ≡ n → take n (new ++ rest) ≡ new
whole_front n new rest size = take-append-le n new rest (omega arith) ∙ take_all n new (omega arith)

-- how often a place is solved by one more
pub solved_more : (place : ℕ) (xs : List Done) (d : Done) → solved_at place (xs ++ d ∷ []) ≡ solved_at place xs + one_if (d.place == place)
solved_more place [] d = omega arith
solved_more place (x ∷ xs) d = let s = solved_more place xs d in omega arith

pub new_work : (table : Counter) (problems : List ProblemData) (job : Job) → IsWorkerOf table job.worker → 0 < (view_of job.worker).room → (view_of job.worker).parts ≡ 1 → (view_of job.worker).pieces ≡ length problems
    → (view_of job.worker).taken ≡ [] → job.done.items ≡ [] → job.finished ≡ false → MayWork table problems job
new_work table problems job own room parts pieces nothing none unfinished =
    let P : List Done → Type 0 = λ l. All (IsRight problems) l in
    record {
      own = own;
      room = room;
      parts = parts;
      pieces = pieces;
      done = subst P (sym none) (λ k d lt. absurd (omega arith));
      claims = λ place lt. ap (solved_at place) none ∙ sym (ap (times place) nothing);
      unfinished = unfinished;
    }

-- a problem was claimed and solved
pub more_work : (table : Counter) (problems : List ProblemData) (job job' : Job) (n : ℕ) (one : Done) → MayWork table problems job → IsWorkerOf table job'.worker → view_of job'.worker ≡ with_claim n (view_of job.worker) →
    n < length problems → one.place ≡ n → IsRight problems one → job'.done.items ≡ job.done.items ++ one ∷ [] → job'.finished ≡ job.finished → MayWork table problems job'
more_work table problems job job' n one may own claimed within at right more still =
    let lt : nat_lt n (view_of job.worker).pieces ≡ true = let p = may.pieces in grind (arith, nat_tests) in
    let room : (view_of job'.worker).room ≡ (view_of job.worker).room = ap (λ (v : Claims). v.room) claimed ∙ ap (λ b. room_after b (view_of job.worker).room) lt in
    record {
      own = own;
      room = (let r = may.room in omega arith);
      parts = ap (λ (v : Claims). v.parts) claimed ∙ may.parts;
      pieces = ap (λ (v : Claims). v.pieces) claimed ∙ may.pieces;
      done = all_more (IsRight problems) job.done.items job'.done.items one more may.done right;
      claims = λ place lt.
          let before = may.claims place lt in
          let now = ap (λ (v : Claims). times place v.taken) claimed in
          let same = ap (λ k. one_if (k == place)) at in
          let solved = ap (solved_at place) more in
          omega (arith, solved_more place job.done.items one);
      unfinished = still ∙ may.unfinished;
    }

-- what is found when a solution is put into a place
pub found_put : (found : List (Option SolutionData)) (done : Done) → done.place < length found → FindsToo found (done ∷ []) (set found done.place (Some done.solution))
found_put found done within place was =
    let now : List (Option SolutionData) = set found done.place (Some done.solution) in
    let sizes = length-set found done.place (Some done.solution) in
    dite (ℕ_discrete place done.place)
    (λ e.
    let at : get_or now place (Some done.solution) ≡ Some done.solution = ap (λ n. get_or now n (Some done.solution)) e ∙ get_or-set_same found done.place (Some done.solution) (Some done.solution) within in
    (done.solution, slice_get-get_or now place (Some done.solution) (omega arith) ∙ ap Some at))
    (λ ne. ⊎_elim
    (λ (f : IsFound found place).
    let lt : place < length found = slice_get_within found place (Some f.0) f.1 in
    let before : get_or found place (Some f.0) ≡ Some f.0 = get_or_from_slice_get found place (Some f.0) (Some f.0) f.1 in
    let at : get_or now place (Some f.0) ≡ Some f.0 = get_or-set_other found done.place place (Some done.solution) (Some f.0) ne ∙ before in
    (f.0, slice_get-get_or now place (Some f.0) (omega arith) ∙ ap Some at))
    (λ (s : 1 ≤ solved_at place (done ∷ [])). let other = ap one_if (ne_eqb done.place place (λ e. ne (sym e))) in absurd (omega arith))
    was)

-- what was found at first, or is among the solutions of a list, is found now or among those that are left
abbrev pub Left : List (Option SolutionData) → List Done → List (Option SolutionData) → List Done → Type 0
Left first all now left = (place : ℕ) → IsFound first place ⊎ (1 ≤ solved_at place all) → IsFound now place ⊎ (1 ≤ solved_at place left)

pub one_put : (first : List (Option SolutionData)) (all : List Done) (found found' : List (Option SolutionData)) (left left' : List Done) (one : Done) → left ≡ left' ++ one ∷ [] → FindsToo found (one ∷ []) found' → Left first all found left → Left first all found' left'
one_put first all found found' left left' one is puts before place was = ⊎_elim
    (λ (f : IsFound found place). inl (puts place (inl f)))
    (λ (s : 1 ≤ solved_at place left).
    let parts = ap (solved_at place) is in
    let more = solved_more place left' one in
    dite (ℕ_discrete (solved_at place left') 0) (λ z. inl (puts place (inr (omega arith)))) (λ nz. inr (omega arith)))
    (before place was)

pub all_put : (first found : List (Option SolutionData)) (all left : List Done) → left ≡ [] → Left first all found left → FindsToo first all found
all_put first found all left none before place was = ⊎_elim (λ (f : IsFound found place). f) (λ (s : 1 ≤ solved_at place left). let z = ap (solved_at place) none in absurd (omega arith)) (before place was)

-- the problems that were claimed are found
abbrev pub FindsClaims : List ProblemData → List ℕ → List (Option SolutionData) → Type 0
FindsClaims problems taken found = (place : ℕ) → place < length problems → 1 ≤ times place taken → IsFound found place

pub more_claims : (problems : List ProblemData) (taken taken' theirs : List ℕ) (done : List Done) (found found' : List (Option SolutionData)) → taken' ≡ taken ++ theirs →
    ((place : ℕ) → place < length problems → solved_at place done ≡ times place theirs) → FindsToo found done found' → FindsClaims problems taken found → FindsClaims problems taken' found'
more_claims problems taken taken' theirs done found found' is solves puts before place lt some =
    let both = ap (times place) is in
    let sum = times-append place taken theirs in
    let solved = solves place lt in
    dite (ℕ_discrete (times place taken) 0) (λ z. puts place (inr (omega arith))) (λ nz. puts place (inl (before place lt (omega arith))))

pub passes_too : (problems : List ProblemData) (taken taken' theirs : List ℕ) → taken' ≡ taken ++ theirs → HasPassed problems theirs → HasPassed problems taken'
passes_too problems taken taken' theirs is passed = (passed.0, passed.1, (let both = ap (times passed.0) is in let p = passed.2 in omega (arith, times-append passed.0 taken theirs)))

pub ok_where_no_err : {T E : Type 0} (r : Result T E) → is_err r ≡ false → is_ok r ≡ true
ok_where_no_err (Ok x) e = refl
ok_where_no_err (Err x) e = cc

pub pushed : {T : Type 0} (b : Bool) (now before more : List T) → now ≡ (if b then more else before) → b ≡ true → now ≡ more
pushed b now before more is e = is ∙ ap (λ t. if t then more else before) e
