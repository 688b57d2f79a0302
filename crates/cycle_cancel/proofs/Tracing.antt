-- The walk back through the levels, with a mark at each member that it passed.
use Rattle.std.proofs.Common.{◌≡◌, ◌≢◌, ℕ, zero, suc, ◌+◌, ◌-◌, ◌<◌, ◌≤◌, Bool, true, false, cond, List, [], ◌∷◌, ◌++◌, length, get_or, set, drop, reverse, replicate, ℤ, pos, ◌<ℤ◌, Option, Some, None, count_by, refl, sym, ap, ◌∙◌, subst, arith, ⊎_elim, length-append, length-set, length-drop, get_or-set_same, get_or-set_other}
use Rattle.std.proofs.Math.ListN.{length-replicate, get_or-append}
use Rattle.std.proofs.lemmas.List.{get_or-replicate}
use Rattle.network_laws.proofs.RowOrder.{sum_by-none}
use Rattle.std.specs.Prelude.{All, is_some}
use Rattle.std.specs.declared.alloc.Global.{Global}
use Rattle.std.specs.declared.vec.Vec.{Vec}
use Rattle.std.proofs.lemmas.Bool.{cases_eq, true≢false}
use Rattle.std.proofs.lemmas.List.{get_or-drop, drop-append-le}
use Rattle.std.proofs.lemmas.List.Sums.{sum_by-set, count_by-le-length, sum_by-cons}
use Rattle.std.proofs.Math.Seq.{drop-append_seam, get_or-append_seam}
use Rattle.residual_graph.specs.declared.flow.Flow.{Flow}
use Rattle.cycle_cancel.specs.declared.round.Step.{Step}
use Rattle.residual_graph.specs.Residual.{IsFlow}
use Rattle.residual_graph.specs.Arcs.{arc_count, head, tail, room}
use Rattle.cycle_cancel.specs.Rounds.{IsRound}
use Rattle.cycle_cancel.proofs.LevelTable.{ends_in}
use Rattle.cycle_cancel.specs.Traces.{arc_at, IsGain, IsTable}
use Rattle.cycle_cancel.proofs.TurnedRound.{walk_turned, costs_turned, all_turned, once_turned}
use Rattle.cycle_cancel.proofs.Cycles.{Traced, traced_push, traced_walk, gain_from, cause, step_back}

-- as many pass as there are, so each passes
pub count_full : {X : Type 0} (p : X → Bool) (xs : List X) → count_by p xs ≡ length xs → (k : ℕ) (d : X) → k < length xs → p (get_or xs k d) ≡ true
count_full p [] e k d l = absurd (omega arith)
count_full p (x ∷ xs) e k d l =
    let le = count_by-le-length p xs in
    let cons = sum_by-cons (λ y. cond (p y) 1 0) x xs in
    go (p x) refl k l cons le (λ f m in_m. count_full p xs f m d in_m)
  where
    go : (b : Bool) → p x ≡ b → (k : ℕ) → k < suc (length xs) → count_by p (x ∷ xs) ≡ cond (p x) 1 0 + count_by p xs → count_by p xs ≤ length xs → (count_by p xs ≡ length xs → (m : ℕ) → m < length xs → p (get_or xs m d) ≡ true) → p (get_or (x ∷ xs) k d) ≡ true
    go true q zero l cons le more = q
    go true q (suc k) l cons le more = more (omega (arith, ap {B = ℕ} (λ b. cond b 1 0) q)) k (omega arith)
    go false q k l cons le more = absurd (omega (arith, ap {B = ℕ} (λ b. cond b 1 0) q))

abbrev one_if : Option ℕ → ℕ
one_if o = cond (is_some o) 1 0

abbrev nothing : Option ℕ
nothing = None

none_some : {m : ℕ} → None ≡ Some m → ⊥
none_some e = cc

some_same : {m n : ℕ} → Some m ≡ Some n → m ≡ n
some_same e = cc

module _ (levels : List (Vec Step Global)) (any : Vec Step Global) where
  abbrev pub table : ℕ → List Step
  table k = (get_or levels k any).items

module _ (flows : List Flow) (levels : List (Vec Step Global)) (members rounds : ℕ) (any : Vec Step Global) where
  pub record IsTracing (path : List ℕ) (marks : List (Option ℕ)) (at back : ℕ) : Type 0 where
    pub path_length : length path ≡ back
    pub marks_length : length marks ≡ members
    pub at_in : at < members
    pub falls : (k : ℕ) → rounds ≡ back + suc k → arc_at (table levels any (suc k)) at ≢ None
    pub counted : count_by is_some marks ≡ back
    pub marked : (w m : ℕ) → w < members → get_or marks w None ≡ Some m → (m < back) × ((k m' : ℕ) → rounds ≡ back + k → rounds ≡ m + m' → Traced flows (table levels any) m' w (drop m path) k at)
    pub heads : (i : ℕ) (d : ℕ) → i < back → (get_or marks (head flows (get_or path i d)) None ≡ Some i) × (get_or path i d < arc_count flows) × (0 < room flows (get_or path i d))

module _ {least : ℕ} (flows : List Flow) (levels : List (Vec Step Global)) (members rounds : ℕ) (any : Vec Step Global) (tab : IsTable least flows members levels) (len : length levels ≡ rounds + 1) (good : All (IsFlow members) flows) where
  wide : (k : ℕ) → k ≤ rounds → length (table levels any k) ≡ members
  wide k l = tab.wide k any (omega arith)

  steps : (k : ℕ) → k < rounds → IsRound least flows (table levels any k) (table levels any (suc k)) (arc_count flows)
  steps k l = tab.rounds k any (omega arith)

  ends : (a : ℕ) → a < arc_count flows → (tail flows a < members) × (head flows a < members)
  ends a l = ends_in members flows good a l

  pub tracing_start : (start : ℕ) → start < members → arc_at (table levels any rounds) start ≢ None → IsTracing flows levels members rounds any [] (replicate members None) start 0
  tracing_start start l falls = record {
    path_length = refl;
    marks_length = length-replicate members None;
    at_in = l;
    falls = λ k e. let q : rounds ≡ suc k = omega arith in subst (λ x. arc_at (table levels any x) start ≢ None) q falls;
    counted = sum_by-none (λ o. cond (is_some o) 1 0) (replicate members None) (λ k d lk. ap (λ o. one_if o) (get_or-replicate members k None d (omega (arith, length-replicate members nothing))));
    marked = λ w m lw e. absurd (none_some (sym (get_or-replicate members w None None lw) ∙ e));
    heads = λ i d li. absurd (omega arith);
  }

  pub tracing_step : (path : List ℕ) (marks : List (Option ℕ)) (at back k : ℕ) (a : ℕ) → IsTracing flows levels members rounds any path marks at back → rounds ≡ back + suc k → get_or marks at None ≡ None → arc_at (table levels any (suc k)) at ≡ Some a → IsTracing flows levels members rounds any (path ++ a ∷ []) (set marks at (Some back)) (tail flows a) (back + 1)
  tracing_step path marks at back k a t e free is =
      let by = cause flows (table levels any) rounds members wide steps ends k at a (omega arith) t.at_in is in
      record {
        path_length = omega (arith, length-append path (a ∷ []), t.path_length);
        marks_length = length-set marks at (Some back) ∙ t.marks_length;
        at_in = (ends a by.arc).0;
        falls = λ j e' none.
            let q : k ≡ suc j = omega arith in
            step_back flows (table levels any) rounds members wide steps ends j at a (omega arith) t.at_in (subst (λ x. arc_at (table levels any (suc x)) at ≡ Some a) q is) none;
        counted = omega (arith, t.counted, sum_by-set one_if marks at (Some back) None (omega (arith, t.marks_length, t.at_in)), ap one_if free);
        marked = λ w m lw e'. ⊎_elim (λ (q : w ≡ at). newly w m q e') (λ (ne : w ≢ at). before w m lw ne e') (cases_eq w at);
        heads = λ i d li. ⊎_elim (λ (q : i ≡ back). last i d q by.head by.arc by.room) (λ (ne : i ≢ back). earlier i d (omega arith)) (cases_eq i back);
      }
    where
      newly : (w m : ℕ) → w ≡ at → get_or (set marks at (Some back)) w None ≡ Some m → (m < back + 1) × ((k' m' : ℕ) → rounds ≡ (back + 1) + k' → rounds ≡ m + m' → Traced flows (table levels any) m' w (drop m (path ++ a ∷ [])) k' (tail flows a))
      newly w m q e' =
          let mb : m ≡ back = some_same (sym e' ∙ ap (λ x. get_or (set marks at (Some back)) x None) q ∙ get_or-set_same marks at (Some back) None (omega (arith, t.marks_length, t.at_in))) in (
            omega arith,
            λ k' m' ek em.
                let qk : k ≡ k' = omega arith in
                let cut : drop m (path ++ a ∷ []) ≡ a ∷ [] = ap (λ x. drop x (path ++ a ∷ [])) (mb ∙ sym t.path_length) ∙ drop-append_seam path (a ∷ []) in
                subst (λ arcs. Traced flows (table levels any) m' w arcs k' (tail flows a)) (sym cut)
                (traced_push flows (table levels any) rounds members wide steps ends m' w [] k' at a (omega arith, q) (subst (λ x. arc_at (table levels any (suc x)) at ≡ Some a) qk is)),
          )

      before : (w m : ℕ) → w < members → w ≢ at → get_or (set marks at (Some back)) w None ≡ Some m → (m < back + 1) × ((k' m' : ℕ) → rounds ≡ (back + 1) + k' → rounds ≡ m + m' → Traced flows (table levels any) m' w (drop m (path ++ a ∷ [])) k' (tail flows a))
      before w m lw ne e' =
          let old = t.marked w m lw (sym (get_or-set_other marks at w (Some back) None ne) ∙ e') in (
            omega (arith, old.0),
            λ k' m' ek em.
                let qk : k ≡ k' = omega arith in
                subst (λ arcs. Traced flows (table levels any) m' w arcs k' (tail flows a)) (sym (drop-append-le m path (a ∷ []) (omega (arith, old.0, t.path_length))))
                (traced_push flows (table levels any) rounds members wide steps ends m' w (drop m path) k' at a (old.1 (suc k') m' (omega arith) em) (subst (λ x. arc_at (table levels any (suc x)) at ≡ Some a) qk is)),
          )

      last : (i : ℕ) (d : ℕ) → i ≡ back → head flows a ≡ at → a < arc_count flows → 0 < room flows a → (get_or (set marks at (Some back)) (head flows (get_or (path ++ a ∷ []) i d)) None ≡ Some i) × (get_or (path ++ a ∷ []) i d < arc_count flows) × (0 < room flows (get_or (path ++ a ∷ []) i d))
      last i d q at_head in_flows has =
          let is_a : get_or (path ++ a ∷ []) i d ≡ a = ap (λ x. get_or (path ++ a ∷ []) x d) (q ∙ sym t.path_length) ∙ get_or-append_seam path a [] d in
          rw is_a (ap (λ x. get_or (set marks at (Some back)) x None) at_head ∙ get_or-set_same marks at (Some back) None (omega (arith, t.marks_length, t.at_in)) ∙ ap Some (sym q), in_flows, has)

      earlier : (i : ℕ) (d : ℕ) → i < back → (get_or (set marks at (Some back)) (head flows (get_or (path ++ a ∷ []) i d)) None ≡ Some i) × (get_or (path ++ a ∷ []) i d < arc_count flows) × (0 < room flows (get_or (path ++ a ∷ []) i d))
      earlier i d li =
          let old = t.heads i d li in
          let same : get_or (path ++ a ∷ []) i d ≡ get_or path i d = get_or-append path (a ∷ []) d i (omega (arith, t.path_length)) in
          let ne : head flows (get_or path i d) ≢ at = λ q. none_some (sym free ∙ ap (λ x. get_or marks x None) (sym q) ∙ old.0) in
          rw same (get_or-set_other marks at (head flows (get_or path i d)) (Some back) None ne ∙ old.0, old.1, old.2)

  pub arc_in_flows : (at k : ℕ) (a : ℕ) → suc k ≤ rounds → at < members → arc_at ((table levels any) (suc k)) at ≡ Some a → a < arc_count flows
  arc_in_flows at k a lk l is = (cause flows (table levels any) rounds members wide steps ends k at a lk l is).arc

  pub tracing_found : (path : List ℕ) (marks : List (Option ℕ)) (at back m : ℕ) → IsTracing flows levels members rounds any path marks at back → back ≤ rounds → get_or marks at None ≡ Some m → IsGain flows (reverse (drop m path))
  tracing_found path marks at back m t le e =
      let old = t.marked at m t.at_in e in
      let whole = old.1 (rounds - back) (rounds - m) (omega (arith, old.0)) (omega (arith, old.0)) in
      let walk = traced_walk flows (table levels any) rounds members wide steps ends (rounds - m) at (drop m path) (rounds - back) at (omega arith) t.at_in whole in
      record {
        at_member = at;
        closed = walk_turned flows at (drop m path) at walk;
        roomy = all_turned (λ a. (a < arc_count flows) × (0 < room flows a)) (drop m path)
            (λ i d l. let at_i = t.heads (m + i) d (omega (arith, length-drop m path, t.path_length, old.0)) in rw (get_or-drop m path i d) (at_i.1, at_i.2));
        once = once_turned flows at (drop m path) walk
            (λ i j d lt l same.
            let hi = t.heads (m + i) d (omega (arith, length-drop m path, t.path_length, old.0)) in
            let hj = t.heads (m + j) d (omega (arith, length-drop m path, t.path_length, old.0)) in
            let q = some_same (sym hi.0 ∙ ap (λ (x : ℕ). get_or marks x None) (ap (head flows) (sym (get_or-drop m path i d)) ∙ same ∙ ap (head flows) (get_or-drop m path j d)) ∙ hj.0) in
            omega arith);
        gains = subst (λ (z : ℤ). z <ℤ pos 0) (sym (costs_turned (drop m path)))
            (gain_from flows (table levels any) rounds members wide steps ends (rounds - m) at (drop m path) (rounds - back) (omega arith) (omega (arith, old.0)) t.at_in whole);
      }

  pub tracing_full : (path : List ℕ) (marks : List (Option ℕ)) (at : ℕ) → IsTracing flows levels members rounds any path marks at members → get_or marks at None ≢ None
  tracing_full path marks at t none =
      true≢false (sym (count_full is_some marks (t.counted ∙ sym t.marks_length) at None (omega (arith, t.marks_length, t.at_in))) ∙ ap is_some none)
