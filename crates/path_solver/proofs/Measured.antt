-- Each path down the levels leaves less to do.
use Rattle.std.proofs.Common.{◌≡◌, ◌≢◌, ◌⊎◌, ℕ, zero, suc, ◌+◌, ◌-◌, ◌*◌, ◌<◌, ◌≤◌, Bool, true, false, cond, ltb, eqb, ◌&&◌, List, [], ◌∷◌, length, get_or, set, sum_by, count_by, refl, sym, ap, ◌∙◌, inl, inr, arith}
use Rattle.std.specs.Prelude.{All, AllPairs}
use Rattle.std.proofs.lemmas.Bool.{lt-ltb, le-ltb, eq-eqb, ne_eqb}
use Rattle.std.proofs.lemmas.List.Sums.{sum_by-set, sum_by-le, count_by-le-length}
use Rattle.residual_graph.specs.declared.flow.Flow.{Flow}
use Rattle.residual_graph.specs.Arcs.{arc_count, pair, is_forward, no_flow, flow_at, room, room_in, head, head_in, tail, tail_in, moved, pushed}
use Rattle.residual_graph.specs.Paths.{pushed_all}
use Rattle.residual_graph.proofs.Kept.{pair_below}
use Rattle.residual_graph.proofs.Walks.{CanPush, ends_kept, path_can}
use Rattle.path_solver.specs.Paths.{IsPlainPath}
use Rattle.path_solver.specs.Counts.{downs, left_to_do}
use Rattle.path_solver.proofs.Same.{flow_at_other}

-- 1 for an amount
abbrev some_of : ℕ → ℕ
some_of x = cond (ltb 0 x) 1 0

some_is : (x : ℕ) → 0 < x → some_of x ≡ 1
some_is x h = rw (lt-ltb 0 x h) refl

none_is : (x : ℕ) → x ≡ 0 → some_of x ≡ 0
none_is x e = rw (le-ltb 0 x (omega arith)) refl

some_le : (x y : ℕ) → x ≤ y → some_of x ≤ some_of y
some_le zero y le = omega (arith, none_is 0 refl)
some_le (suc x) y le = omega (arith, some_is (suc x) (omega arith), some_is y (omega arith))

-- 1 for an arc with this room, from level t to level s, if it leads one level down
abbrev down_of : ℕ → ℕ → ℕ → ℕ
down_of r s t = cond (ltb 0 r && eqb (s + 1) t) 1 0

down_is : (r s t : ℕ) → s + 1 ≡ t → down_of r s t ≡ some_of r
down_is r s t e = rw (eq-eqb (s + 1) t e) (elim (ltb 0 r) as (λ b. ◌≡◌ {A = ℕ} (cond (b && true) 1 0) (cond b 1 0)) [ true ↦ refl | false ↦ refl ])

down_not : (r s t : ℕ) → s + 1 ≢ t → down_of r s t ≡ 0
down_not r s t ne = rw (ne_eqb (s + 1) t ne) (elim (ltb 0 r) as (λ b. ◌≡◌ {A = ℕ} (cond (b && false) 1 0) 0) [ true ↦ refl | false ↦ refl ])

-- an arc down gives off what its twin, which leads up, does not count
moved_downs : (levels : List ℕ) (x : ℕ) (f : Flow) (b : Bool) → get_or levels (head_in f b) 0 + 1 ≡ get_or levels (tail_in f b) 0 → x ≤ room_in f b → (downs levels (moved x b f) ≡ some_of (room_in f b - x)) × (downs levels f ≡ some_of (room_in f b))
moved_downs levels x f true e le = (
  omega (arith, down_is (f.room - x) (get_or levels f.buyer 0) (get_or levels f.seller 0) e, down_not (f.back + x) (get_or levels f.seller 0) (get_or levels f.buyer 0) (λ q. omega (arith, q, e))),
  omega (arith, down_is f.room (get_or levels f.buyer 0) (get_or levels f.seller 0) e, down_not f.back (get_or levels f.seller 0) (get_or levels f.buyer 0) (λ q. omega (arith, q, e))),
)
moved_downs levels x f false e le = (
  omega (arith, down_is (f.back - x) (get_or levels f.seller 0) (get_or levels f.buyer 0) e, down_not (f.room + x) (get_or levels f.buyer 0) (get_or levels f.seller 0) (λ q. omega (arith, q, e))),
  omega (arith, down_is f.back (get_or levels f.seller 0) (get_or levels f.buyer 0) e, down_not f.room (get_or levels f.buyer 0) (get_or levels f.seller 0) (λ q. omega (arith, q, e))),
)

-- an arc that leads one level down
abbrev pub IsDown : List ℕ → List Flow → ℕ → Type 0
IsDown levels flows a = get_or levels (head flows a) 0 + 1 ≡ get_or levels (tail flows a) 0

pushed_downs : (levels : List ℕ) (x : ℕ) (flows : List Flow) (a : ℕ) → a < arc_count flows → IsDown levels flows a → x ≤ room flows a → sum_by (downs levels) (pushed x flows a) + some_of (room flows a) ≡ sum_by (downs levels) flows + some_of (room flows a - x)
pushed_downs levels x flows a l e le =
    let f = flow_at flows (pair a) in
    let s = sum_by-set (downs levels) flows (pair a) (moved x (is_forward a) (flow_at flows (pair a))) no_flow (pair_below a (length flows) l) in
    let m = moved_downs levels x f (is_forward a) e le in
    omega (arith, s, m.0, m.1)

less_downs : (levels : List ℕ) (x : ℕ) (flows : List Flow) (a : ℕ) → a < arc_count flows → IsDown levels flows a → x ≤ room flows a → sum_by (downs levels) (pushed x flows a) ≤ sum_by (downs levels) flows
less_downs levels x flows a l e le = omega (arith, pushed_downs levels x flows a l e le, some_le (room flows a - x) (room flows a) (omega arith))

full_downs : (levels : List ℕ) (x : ℕ) (flows : List Flow) (a : ℕ) → a < arc_count flows → IsDown levels flows a → 0 < x → room flows a ≡ x → sum_by (downs levels) (pushed x flows a) + 1 ≤ sum_by (downs levels) flows
full_downs levels x flows a l e some at =
    omega (arith, pushed_downs levels x flows a l e (omega (arith, at)), some_is (room flows a) (omega (arith, some, at)), none_is (room flows a - x) (omega (arith, at)))

down_kept : (levels : List ℕ) (x : ℕ) (flows : List Flow) (a b : ℕ) → a < arc_count flows → IsDown levels flows b → IsDown levels (pushed x flows a) b
down_kept levels x flows a b l e =
    let ends = ends_kept x flows a b l in
    ap (λ v. get_or levels v 0 + 1) ends.0 ∙ e ∙ ap (λ v. get_or levels v 0) (sym ends.1)

all_downs : (levels : List ℕ) (x : ℕ) (flows : List Flow) (arcs : List ℕ) → CanPush x flows arcs → All (IsDown levels flows) arcs → sum_by (downs levels) (pushed_all x flows arcs) ≤ sum_by (downs levels) flows
all_downs levels x flows [] can down = omega arith
all_downs levels x flows (a ∷ arcs) can down =
    omega (
      arith,
      less_downs levels x flows a can.0 (down 0 a (omega arith)) can.1,
      all_downs levels x (pushed x flows a) arcs can.2 (λ k d l. down_kept levels x flows a (get_or arcs k d) can.0 (down (suc k) d (omega arith))),
    )

-- where an arc of the path fills, there is one arc less
filled_downs : (levels : List ℕ) (x : ℕ) (flows : List Flow) (arcs : List ℕ) (k : ℕ) → CanPush x flows arcs → All (IsDown levels flows) arcs → AllPairs (λ a b. pair a ≢ pair b) arcs → 0 < x → k < length arcs → room flows (get_or arcs k 0) ≡ x → sum_by (downs levels) (pushed_all x flows arcs) + 1 ≤ sum_by (downs levels) flows
filled_downs levels x flows [] k can down apart some l at = absurd (omega arith)
filled_downs levels x flows (a ∷ arcs) zero can down apart some l at =
    omega (
      arith,
      full_downs levels x flows a can.0 (down 0 a (omega arith)) some at,
      all_downs levels x (pushed x flows a) arcs can.2 (λ j d lj. down_kept levels x flows a (get_or arcs j d) can.0 (down (suc j) d (omega arith))),
    )
filled_downs levels x flows (a ∷ arcs) (suc k) can down apart some l at =
    let b = get_or arcs k 0 in
    let same = flow_at_other x flows a (pair (get_or arcs k 0)) (λ q. apart 0 (suc k) 0 (omega arith) l (sym q)) in
    omega (
      arith,
      less_downs levels x flows a can.0 (down 0 a (omega arith)) can.1,
      filled_downs levels x (pushed x flows a) arcs k can.2 (λ j d lj. down_kept levels x flows a (get_or arcs j d) can.0 (down (suc j) d (omega arith))) (λ i j d lt lj. apart (suc i) (suc j) d (omega arith) (omega arith)) some (omega arith) (ap (λ f. room_in f (is_forward (get_or arcs k 0))) same ∙ at),
    )

-- an amount falls
fewer_amounts : (xs : List ℕ) (k x : ℕ) → k < length xs → count_by (ltb 0) (set xs k (get_or xs k 0 - x)) + some_of (get_or xs k 0) ≡ count_by (ltb 0) xs + some_of (get_or xs k 0 - x)
fewer_amounts xs k x l = omega (arith, sum_by-set some_of xs k (get_or xs k 0 - x) 0 l)

-- what a sending fills: an arc, what the first has to send, or what the last has to receive
abbrev pub Fills : ℕ → List Flow → List ℕ → ℕ → ℕ → Type 0
Fills x flows path has_to_send has_to_receive =
    ((k : ℕ) × (k < length path) × (room flows (get_or path k 0) ≡ x)) ⊎ ((x ≡ has_to_send) ⊎ (x ≡ has_to_receive))

pub less_to_do : {x : ℕ} {flows : List Flow} {path : List ℕ} (levels : List ℕ) (surplus lack : List ℕ) (from end : ℕ) → IsPlainPath x flows path → All (IsDown levels flows) path → 0 < x → from < length surplus → end < length lack → x ≤ get_or surplus from 0 → x ≤ get_or lack end 0 → Fills x flows path (get_or surplus from 0) (get_or lack end 0)
    → left_to_do levels (pushed_all x flows path) (set surplus from (get_or surplus from 0 - x)) (set lack end (get_or lack end 0 - x)) + 1 ≤ left_to_do levels flows surplus lack
less_to_do {x} {flows} {path} levels surplus lack from end plain down some in_s in_l le_s le_l fills =
    let can = path_can x flows path plain.along in
    let s = get_or surplus from 0 in
    let l = get_or lack end 0 in
    let of_s = fewer_amounts surplus from x in_s in
    let of_l = fewer_amounts lack end x in_l in
    let le_of_s = some_le (get_or surplus from 0 - x) (get_or surplus from 0) (omega arith) in
    let le_of_l = some_le (get_or lack end 0 - x) (get_or lack end 0) (omega arith) in
    let arcs = all_downs levels x flows path can down in
    elim fills [
      | inl arc ↦ omega (arith, filled_downs levels x flows path arc.0 can down plain.pairs some arc.1 arc.2, of_s, of_l, le_of_s, le_of_l)
      | inr amount ↦
          elim amount [
            | inl e ↦ omega (arith, arcs, of_s, of_l, le_of_l, some_is (get_or surplus from 0) (omega (arith, some, e)), none_is (get_or surplus from 0 - x) (omega (arith, e)))
            | inr e ↦ omega (arith, arcs, of_s, of_l, le_of_s, some_is (get_or lack end 0) (omega (arith, some, e)), none_is (get_or lack end 0 - x) (omega (arith, e)))
          ]
    ]

bool_le : (b : Bool) → cond b 1 0 ≤ 1
bool_le true = omega arith
bool_le false = omega arith

pub most_to_do : (levels : List ℕ) (flows : List Flow) (surplus lack : List ℕ) (n : ℕ) → length surplus ≡ n → length lack ≡ n → left_to_do levels flows surplus lack ≤ 2 * (length flows + n)
most_to_do levels flows surplus lack n of_s of_l =
    let each : (f : Flow) → downs levels f ≤ 2 = λ f. omega (arith, bool_le (ltb 0 f.room && eqb (get_or levels f.buyer 0 + 1) (get_or levels f.seller 0)), bool_le (ltb 0 f.back && eqb (get_or levels f.seller 0 + 1) (get_or levels f.buyer 0))) in
    omega (arith, sum_by-le (downs levels) 2 flows (λ k d l. each (get_or flows k d)), count_by-le-length (ltb 0) surplus, count_by-le-length (ltb 0) lack, of_s, of_l)
