-- The steps of labelling.
use Rattle.std.proofs.Common.{◌≡◌, ◌≢◌, ℕ, ◌<◌, ◌≤◌, ◌+◌, max, min, List, [], ◌∷◌, length, get_or, false, Some, None, Option, ◌⊎◌, inl, inr, refl, sym, ap, ◌∙◌, subst, arith, add-one, ⊎_elim}
use Rattle.std.specs.Prelude.{AllPairs, unwrap_or}
use Rattle.std.proofs.lemmas.Bool.{cases_eq, cases_lt, eq-eqb, ne_eqb}
use Rattle.network_laws.specs.declared.rows.LimitRow.{LimitRow}
use Rattle.network_laws.specs.Limits.{LimitsData, AreLimits, AreLimitRows, upper_in, is_for, limit_place}
use Rattle.network_laws.proofs.LimitOrder.{is_for-other, is_for-yes, is_for-seller, is_for-buyer, lookup_at}
use Rattle.std.proofs.lemmas.List.{get_or_default}
use Rattle.split_parts.specs.Chains.{IsOpen, AreJoined}
use Rattle.split_parts.specs.Labels.{AreSound, AreLabels, JoinsRow, CoversTo, relabelled}
use Rattle.split_parts.proofs.Joining.{joined_back, joined_once, through}

pub relabelled-yes : (from to l : ℕ) → l ≡ from → relabelled from to l ≡ to
relabelled-yes from to l e = rw (eq-eqb l from e) refl

pub relabelled-no : (from to l : ℕ) → l ≢ from → relabelled from to l ≡ l
relabelled-no from to l n = rw (ne_eqb l from n) refl

pub sound_first : (limits : LimitsData) (labels : List ℕ) → length labels ≡ limits.members → ((m : ℕ) → m < length labels → get_or labels m 0 ≡ m) → AreSound limits labels
sound_first limits labels size own = record {
  size = size;
  low = λ m l. omega (arith, own m l);
  own = λ m l. ap (λ x. get_or labels x 0) (own m l);
  joined = λ i j li lj e. inl (omega (arith, own i li, own j lj));
}

joins : (limits : LimitsData) (labels labels' : List ℕ) (x y from to : ℕ) → AreSound limits labels → ((m : ℕ) → m < length labels → get_or labels' m 0 ≡ relabelled from to (get_or labels m 0)) → x < length labels → y < length labels → AreJoined limits x y → get_or labels x 0 ≡ from → get_or labels y 0 ≡ to →
    (i j : ℕ) → i < length labels → j < length labels → get_or labels' i 0 ≡ get_or labels' j 0 → (get_or labels i 0 ≡ from) ⊎ (get_or labels i 0 ≢ from) → (get_or labels j 0 ≡ from) ⊎ (get_or labels j 0 ≢ from) → (i ≡ j) ⊎ AreJoined limits i j
joins limits labels labels' x y from to s step lx ly h ex ey i j li lj e (inl a) (inl b) = s.joined i j li lj (omega arith)
joins limits labels labels' x y from to s step lx ly h ex ey i j li lj e (inl a) (inr b) =
    let f = relabelled-yes from to (get_or labels i 0) a in
    let g = relabelled-no from to (get_or labels j 0) b in
    inr (through limits i x y j (s.joined i x li lx (omega arith)) h (s.joined y j ly lj (omega (arith, step i li, step j lj))))
joins limits labels labels' x y from to s step lx ly h ex ey i j li lj e (inr a) (inl b) =
    let f = relabelled-no from to (get_or labels i 0) a in
    let g = relabelled-yes from to (get_or labels j 0) b in
    inr (through limits i y x j (s.joined i y li ly (omega (arith, step i li, step j lj))) (joined_back limits x y h) (s.joined x j lx lj (omega arith)))
joins limits labels labels' x y from to s step lx ly h ex ey i j li lj e (inr a) (inr b) =
    let f = relabelled-no from to (get_or labels i 0) a in
    let g = relabelled-no from to (get_or labels j 0) b in
    s.joined i j li lj (omega (arith, step i li, step j lj))

-- all that have the label of x get the lower one of y
sound_step : (limits : LimitsData) (labels labels' : List ℕ) (x y from to : ℕ) → AreSound limits labels → length labels' ≡ length labels → ((m : ℕ) → m < length labels → get_or labels' m 0 ≡ relabelled from to (get_or labels m 0)) → x < length labels → y < length labels → AreJoined limits x y → get_or labels x 0 ≡ from → get_or labels y 0 ≡ to → to < from →
    AreSound limits labels'
sound_step limits labels labels' x y from to s size step lx ly h ex ey lower = record {
  size = size ∙ s.size;
  low = λ m l.
      let lm : m < length labels = omega arith in
      let low = s.low m lm in
      ⊎_elim (λ (a : get_or labels m 0 ≡ from). omega (arith, step m lm, relabelled-yes from to (get_or labels m 0) a))
      (λ (a : get_or labels m 0 ≢ from). omega (arith, step m lm, relabelled-no from to (get_or labels m 0) a))
      (cases_eq (get_or labels m 0) from);
  own = λ m l.
      let lm : m < length labels = omega arith in
      ⊎_elim (λ (a : get_or labels m 0 ≡ from). own_to m (step m lm ∙ relabelled-yes from to (get_or labels m 0) a))
      (λ (a : get_or labels m 0 ≢ from). own_kept m lm a (step m lm ∙ relabelled-no from to (get_or labels m 0) a))
      (cases_eq (get_or labels m 0) from);
  joined = λ i j li lj e.
      let mi : i < length labels = omega arith in
      let mj : j < length labels = omega arith in
      joins limits labels labels' x y from to s step lx ly h ex ey i j mi mj e (cases_eq (get_or labels i 0) from) (cases_eq (get_or labels j 0) from);
}
  where
    own_to : (m : ℕ) → get_or labels' m 0 ≡ to → get_or labels' (get_or labels' m 0) 0 ≡ get_or labels' m 0
    own_to m e =
        let inside : to < length labels = omega (arith, s.low y ly) in
        let at_to : get_or labels to 0 ≡ to = ap (λ n. get_or labels n 0) (sym ey) ∙ s.own y ly ∙ ey in
        let other : get_or labels to 0 ≢ from = λ q. omega arith in
        ap (λ n. get_or labels' n 0) e ∙ step to inside ∙ relabelled-no from to (get_or labels to 0) other ∙ at_to ∙ sym e

    own_kept : (m : ℕ) → m < length labels → get_or labels m 0 ≢ from → get_or labels' m 0 ≡ get_or labels m 0 → get_or labels' (get_or labels' m 0) 0 ≡ get_or labels' m 0
    own_kept m lm n e =
        let l = get_or labels m 0 in
        let inside : l < length labels = omega (arith, s.low m lm) in
        let own = s.own m lm in
        let other : get_or labels l 0 ≢ from = λ q. n (sym own ∙ q) in
        ap (λ n. get_or labels' n 0) e ∙ step l inside ∙ relabelled-no from to (get_or labels l 0) other ∙ own ∙ sym e

-- all that have the higher of two joined members' labels get the lower one
pub sound_joined : (limits : LimitsData) (labels labels' : List ℕ) (x y : ℕ) → AreSound limits labels → length labels' ≡ length labels → ((m : ℕ) → m < length labels → get_or labels' m 0 ≡ relabelled (max (get_or labels x 0) (get_or labels y 0)) (min (get_or labels x 0) (get_or labels y 0)) (get_or labels m 0)) → x < length labels → y < length labels → AreJoined limits x y → get_or labels x 0 ≢ get_or labels y 0 → AreSound limits labels'
sound_joined limits labels labels' x y s size step lx ly h ne =
    let a = get_or labels x 0 in
    let b = get_or labels y 0 in
    ⊎_elim (λ (lt : a < b).
    sound_step limits labels labels' y x (max a b) (min a b) s size step ly lx (joined_back limits x y h) (omega arith) (omega arith) (omega arith))
    (λ (le : b ≤ a). sound_step limits labels labels' x y (max a b) (min a b) s size step lx ly h (omega arith) (omega arith) (omega arith))
    (cases_lt a b)

relabelled-same : (a l : ℕ) → relabelled a a l ≡ l
relabelled-same a l =
    ⊎_elim (λ (e : l ≡ a). relabelled-yes a a l e ∙ sym e) (λ (n : l ≢ a). relabelled-no a a l n) (cases_eq l a)

-- equal labels need no new ones
pub joins_same : (labels : List ℕ) (x y : ℕ) → get_or labels x 0 ≡ get_or labels y 0 → (m : ℕ) → get_or labels m 0 ≡ relabelled (max (get_or labels x 0) (get_or labels y 0)) (min (get_or labels x 0) (get_or labels y 0)) (get_or labels m 0)
joins_same labels x y e m =
    let a = get_or labels x 0 in
    let b = get_or labels y 0 in
    let high : max a b ≡ a = omega arith in
    let low : min a b ≡ a = omega arith in
    rw (high, low) (sym (relabelled-same a (get_or labels m 0)))

-- the pair of a row has the row's upper bound
pub upper_at : (rows : List LimitRow) (k : ℕ) (d : LimitRow) → AllPairs (λ a b. limit_place a < limit_place b) rows → k < length rows → upper_in rows (get_or rows k d).seller (get_or rows k d).buyer ≡ (get_or rows k d).upper
upper_at rows k d rising l =
    let row = get_or rows k d in
    let P : (n : ℕ) (e : LimitRow) → n < k → is_for row.seller row.buyer (get_or rows n e) ≡ false =
    λ n e ln. is_for-other row.seller row.buyer (get_or rows n e) (λ q. omega (arith, rising n k e ln l, ap limit_place (get_or_default rows k e d l))) in
    (lookup_at rows row.seller row.buyer k d l P (is_for-yes row.seller row.buyer row refl refl)).1

-- the pair has a row here, with its upper bound
abbrev HasRow : List LimitRow → ℕ → ℕ → Type 0
HasRow rows i j = (k : ℕ) × (d : LimitRow) × (k < length rows) × ((get_or rows k d).seller ≡ i) × ((get_or rows k d).buyer ≡ j) × (upper_in rows i j ≡ (get_or rows k d).upper)

row_skipped : (row : LimitRow) (rows : List LimitRow) (i j : ℕ) → is_for i j row ≡ false → HasRow rows i j → HasRow (row ∷ rows) i j
row_skipped row rows i j e found =
    let same : upper_in (row ∷ rows) i j ≡ upper_in rows i j = rw e refl in
    let at : (n : ℕ) → get_or (row ∷ rows) (n + 1) found.1 ≡ get_or rows n found.1 = λ n. rw add-one refl in
    let x = at found.0 in
    (found.0 + 1, found.1, (let l = found.2 in omega arith), ap (λ r. r.seller) x ∙ found.3, ap (λ r. r.buyer) x ∙ found.4, same ∙ found.5 ∙ sym (ap (λ r. r.upper) x))

row_here : (row : LimitRow) (rows : List LimitRow) (i j : ℕ) → row.seller ≡ i → row.buyer ≡ j → HasRow (row ∷ rows) i j
row_here row rows i j a b = (0, row, omega arith, a, b, (let e = is_for-yes i j row a b in rw e refl))

passed : (row : LimitRow) (rows : List LimitRow) (i j : ℕ) → is_for i j row ≡ false → (upper_in (row ∷ rows) i j ≡ Some 0 → ⊥) → upper_in rows i j ≡ Some 0 → ⊥
passed row rows i j e h q = h ((let same : upper_in (row ∷ rows) i j ≡ upper_in rows i j = rw e refl in same) ∙ q)

-- an open pair has a row
open_row : (rows : List LimitRow) (i j : ℕ) → (upper_in rows i j ≡ Some 0 → ⊥) → HasRow rows i j
open_row [] i j h = absurd (h refl)
open_row (row ∷ rows) i j h =
    ⊎_elim (λ (a : row.seller ≡ i).
    ⊎_elim (λ (b : row.buyer ≡ j). row_here row rows i j a b)
    (λ (n : row.buyer ≢ j). let e = is_for-buyer i j row n in row_skipped row rows i j e (open_row rows i j (passed row rows i j e h)))
    (cases_eq row.buyer j))
    (λ (n : row.seller ≢ i). let e = is_for-seller i j row n in row_skipped row rows i j e (open_row rows i j (passed row rows i j e h)))
    (cases_eq row.seller i)

-- an open pair is of two members, which are different
pub open_members : (limits : LimitsData) (i j : ℕ) → AreLimits limits → IsOpen limits i j → (i < limits.members) × (j < limits.members) × (i ≢ j)
open_members limits i j good h =
    let r = open_row limits.rows i j h in
    let row = good.rows.good r.0 r.1 r.2 in
    ((let q = r.3 in omega (arith, row.seller)), (let q = r.4 in omega (arith, row.buyer)), (λ e. row.different (r.3 ∙ e ∙ sym r.4)))

-- where each row is covered, each open pair is
pub labels_all : (limits : LimitsData) (labels : List ℕ) (n : ℕ) → AreLimits limits → AreSound limits labels → CoversTo limits.rows n labels → length limits.rows ≤ n → AreLabels limits labels
labels_all limits labels n good sound covers le = record {
  sound = sound;
  all = λ i j h.
      let r = open_row limits.rows i j h in
      let m = open_members limits i j good h in
      let same = covers r.0 r.1 (omega (arith, r.2)) r.2 (λ e. h (r.5 ∙ e)) in
      (omega (arith, sound.size, m.0), omega (arith, sound.size, m.1), (ap (λ x. get_or labels x 0) (sym r.3) ∙ same ∙ ap (λ x. get_or labels x 0) r.4));
}

-- where all have the label 0
pub labels_one : (limits : LimitsData) (labels : List ℕ) → AreLimits limits → AreSound limits labels → ((m : ℕ) → m < length labels → get_or labels m 0 ≡ 0) → AreLabels limits labels
labels_one limits labels good sound zero = record {
  sound = sound;
  all = λ i j h.
      let m = open_members limits i j good h in
      let li : i < length labels = omega (arith, sound.size, m.0) in
      let lj : j < length labels = omega (arith, sound.size, m.1) in
      (li, lj, omega (arith, zero i li, zero j lj));
}

-- one row more
pub sound_row : (limits : LimitsData) (labels labels' : List ℕ) (k : ℕ) (d : LimitRow) → AreLimits limits → AreSound limits labels → length labels' ≡ length labels → k < length limits.rows → JoinsRow (get_or limits.rows k d) labels labels' → ((get_or limits.rows k d).upper ≡ Some 0) ⊎ ((get_or limits.rows k d).upper ≢ Some 0) → AreSound limits labels'
sound_row limits labels labels' k d good sound size l step (inl closed) = record {
  size = size ∙ sound.size;
  low = λ m lm. let same = step.closed closed m in let low = sound.low m (omega arith) in omega arith;
  own = λ m lm.
      let same = step.closed closed m in
      let inside : m < length labels = omega arith in
      ap (λ x. get_or labels' x 0) same ∙ step.closed closed (get_or labels m 0) ∙ sound.own m inside ∙ sym same;
  joined = λ i j li lj e. sound.joined i j (omega arith) (omega arith) (sym (step.closed closed i) ∙ e ∙ step.closed closed j);
}
sound_row limits labels labels' k d good sound size l step (inr open') =
    let row = get_or limits.rows k d in
    let ok = good.rows.good k d l in
    let ls : row.seller < length labels = omega (arith, sound.size, ok.seller) in
    let lb : row.buyer < length labels = omega (arith, sound.size, ok.buyer) in
    let h : AreJoined limits row.seller row.buyer = joined_once limits row.seller row.buyer (inl (λ e. open' (sym (upper_at limits.rows k d good.rows.rising l) ∙ e))) in
    ⊎_elim (λ (e : get_or labels row.seller 0 ≡ get_or labels row.buyer 0). sound_same labels labels' sound size (λ m lm. step.joined open' m lm ∙ sym (joins_same labels row.seller row.buyer e m)))
    (λ (n : get_or labels row.seller 0 ≢ get_or labels row.buyer 0). sound_joined limits labels labels' row.seller row.buyer sound size (step.joined open') ls lb h n)
    (cases_eq (get_or labels row.seller 0) (get_or labels row.buyer 0))
  where
    sound_same : (xs ys : List ℕ) → AreSound limits xs → length ys ≡ length xs → ((m : ℕ) → m < length xs → get_or ys m 0 ≡ get_or xs m 0) → AreSound limits ys
    sound_same xs ys s e same = record {
      size = e ∙ s.size;
      low = λ m lm. let q = same m (omega arith) in let low = s.low m (omega arith) in omega arith;
      own = λ m lm.
          let inside : m < length xs = omega arith in
          let q = same m inside in
          let low = s.low m inside in
          ap (λ x. get_or ys x 0) q ∙ same (get_or xs m 0) (omega arith) ∙ s.own m inside ∙ sym q;
      joined = λ i j li lj q. s.joined i j (omega arith) (omega arith) (sym (same i (omega arith)) ∙ q ∙ same j (omega arith));
    }

-- whether an upper bound is 0
pub upper_cases : (o : Option ℕ) → (o ≡ Some 0) ⊎ (o ≢ Some 0)
upper_cases None = inr (λ e. let f = e in cc)
upper_cases (Some n) = ⊎_elim (λ (e : n ≡ 0). inl (ap Some e)) (λ (h : n ≢ 0). inr (λ q. h (ap (λ o. unwrap_or o n) q))) (cases_eq n 0)

kept : (a b : ℕ) → b ≡ relabelled a b b
kept a b = ⊎_elim (λ (e : b ≡ a). sym (relabelled-yes a b b e)) (λ (n : b ≢ a). sym (relabelled-no a b b n)) (cases_eq b a)

rises : (a b : ℕ) → a < b → relabelled (max a b) (min a b) a ≡ relabelled (max a b) (min a b) b
rises a b lt =
    let low : min a b ≡ a = omega arith in
    let high : max a b ≡ b = omega arith in
    rw (low, high) (relabelled-no b a a (λ q. omega arith) ∙ sym (relabelled-yes b a b refl))

falls : (a b : ℕ) → b ≤ a → relabelled (max a b) (min a b) a ≡ relabelled (max a b) (min a b) b
falls a b le =
    let low : min a b ≡ b = omega arith in
    let high : max a b ≡ a = omega arith in
    rw (low, high) (relabelled-yes a b a refl ∙ kept a b)

both : (a b : ℕ) → relabelled (max a b) (min a b) a ≡ relabelled (max a b) (min a b) b
both a b = ⊎_elim (rises a b) (falls a b) (cases_lt a b)

still : (row : LimitRow) (labels labels' : List ℕ) → JoinsRow row labels labels' → (row.upper ≡ Some 0) ⊎ (row.upper ≢ Some 0) → (x y : ℕ) → x < length labels → y < length labels → get_or labels x 0 ≡ get_or labels y 0 → get_or labels' x 0 ≡ get_or labels' y 0
still row labels labels' step (inl closed) x y lx ly q = step.closed closed x ∙ q ∙ sym (step.closed closed y)
still row labels labels' step (inr up) x y lx ly q =
    step.joined up x lx ∙ ap (relabelled (max (get_or labels row.seller 0) (get_or labels row.buyer 0)) (min (get_or labels row.seller 0) (get_or labels row.buyer 0))) q ∙ sym (step.joined up y ly)

now : (row : LimitRow) (labels labels' : List ℕ) → JoinsRow row labels labels' → row.upper ≢ Some 0 → row.seller < length labels → row.buyer < length labels → get_or labels' row.seller 0 ≡ get_or labels' row.buyer 0
now row labels labels' step up ls lb = step.joined up row.seller ls ∙ both (get_or labels row.seller 0) (get_or labels row.buyer 0) ∙ sym (step.joined up row.buyer lb)

pub covers_row : (rows : List LimitRow) (members : ℕ) (labels labels' : List ℕ) (n : ℕ) (row : LimitRow) → AreLimitRows members rows → length labels ≡ members → CoversTo rows n labels → n < length rows → row ≡ get_or rows n row → JoinsRow row labels labels' → CoversTo rows (n + 1) labels'
covers_row rows members labels labels' n row good size covers l is step k d lk lr open' =
    let e = get_or rows k d in
    let ok = good.good k d lr in
    let ls : e.seller < length labels = omega (arith, ok.seller) in
    let lb : e.buyer < length labels = omega (arith, ok.buyer) in
    let same : k ≡ n → row ≡ e = λ q. is ∙ sym (get_or_default rows k d row lr ∙ ap (λ x. get_or rows x row) q) in
    ⊎_elim (λ (q : k ≡ n). now e labels labels' (subst (λ r. JoinsRow r labels labels') (same q) step) open' ls lb)
    (λ (ne : k ≢ n). still row labels labels' step (upper_cases row.upper) e.seller e.buyer ls lb (covers k d (omega arith) lr open'))
    (cases_eq k n)

pub row_done : (limits : LimitsData) (labels labels' : List ℕ) (k : ℕ) (d : LimitRow) → AreLimits limits → AreSound limits labels → length labels' ≡ length labels → k < length limits.rows → CoversTo limits.rows k labels → JoinsRow (get_or limits.rows k d) labels labels' →
    AreSound limits labels' × CoversTo limits.rows (k + 1) labels'
row_done limits labels labels' k d good sound size l covers step =
    let row = get_or limits.rows k d in
    (sound_row limits labels labels' k d good sound size l step (upper_cases row.upper), covers_row limits.rows limits.members labels labels' k row good.rows sound.size covers l (get_or_default limits.rows k d row l) step)
