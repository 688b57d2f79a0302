-- The rows of a seller, listed by the set of its buyers.
use Rattle.std.proofs.Common.{◌≡◌, ◌≢◌, ℕ, zero, suc, ◌+◌, ◌*◌, ◌<◌, ◌≤◌, ◌++◌, Bool, true, false, not, eqb, cond, ◌&&◌, ◌||◌, inl, inr, List, [], ◌∷◌, length, get_or, set, length-set, get_or-set_same, get_or-set_other, refl, sym, ap, ◌∙◌, subst, arith, ⊎_elim, true≢false}
use Rattle.std.proofs.lemmas.Bool.{cases_eq, cases_lt, eqb-true, eqb-false, eq-eqb, ne_eqb, lt-ltb, not-true, and_parts, or_cases, or_left, or_right}
use Rattle.std.proofs.lemmas.List.{append-nil, append_assoc, get_or_append_left, get_or_default, get_or_push, length_push}
use Rattle.member_set.specs.declared.set.MemberSet.{MemberSet}
use Rattle.member_set.specs.Members.{has, no_members}
use Rattle.network_laws.specs.declared.rows.Row.{Row}
use Rattle.network_laws.specs.Networks.{sum_below}
use Rattle.network_laws.proofs.Figures.{sum_below-same, sum_below-add, sum_below-only}
use Rattle.command_types.specs.Books.{listed_below, amount_row}
use Rattle.pair_table.specs.PairSums.{cell_row}
use Rattle.pair_table.specs.Buyers.{HasBuyers, AreBuyers, AreEmpty, buyers_at}
use Rattle.pair_table.proofs.PairNetworks.{row_of}

-- how many of the members below n a set has
abbrev pub size : ℕ → MemberSet → ℕ
size n set = sum_below n (λ j. cond (has set j) 1 0)

dropped_one : (old new : Bool) (same : Bool) → new ≡ (not same && old) → (same ≡ true → old ≡ true) → cond {A = ℕ} old 1 0 ≡ cond new 1 0 + cond same 1 0
dropped_one old new true e on = rw (e, on refl) refl
dropped_one true new false e on = rw e refl
dropped_one false new false e on = rw e refl

-- a set without one of its members is smaller
pub dropped : (n : ℕ) (old new : MemberSet) (b : ℕ) → has old b ≡ true → b < n → ((m : ℕ) → has new m ≡ (not (eqb m b) && has old m)) → size n new < size n old
dropped n old new b on l gone =
    let one : ℕ = 1 in
    let zero : ℕ = 0 in
    let here : cond (eqb b b) one zero ≡ one = rw (eq-eqb b b refl) refl in
    omega (
      arith,
      here,
      sum_below-same n (λ j. cond (has old j) 1 0) (λ j. cond (has new j) 1 0 + cond (eqb j b) 1 0) (λ j _. dropped_one (has old j) (has new j) (eqb j b) (gone j) (λ e. ap (has old) (eqb-true j b e) ∙ on)),
      sum_below-add n (λ j. cond (has new j) 1 0) (λ j. cond (eqb j b) 1 0),
      sum_below-only n b (λ j. cond (eqb j b) 1 0) l (λ j _ ne. let off : cond (eqb j b) one zero ≡ zero = rw (ne_eqb j b ne) refl in off),
    )

-- the rows of the buyers below n are listed, and those that are left are the others
pub record IsListed (members : ℕ) (sums : List ℕ) (i : ℕ) (start rows : List Row) (left : MemberSet) : Type 0 where
  pub n : ℕ
  pub within : n ≤ members
  pub listed : rows ≡ start ++ listed_below n (cell_row sums i)
  pub ahead : (j : ℕ) → has left j ≡ true → (n ≤ j) × (j < members)
  pub sold : (j : ℕ) → n ≤ j → j < members → 0 < get_or sums (i * 256 + j) 0 → has left j ≡ true

pub listed_none : (members : ℕ) (sums : List ℕ) (i : ℕ) (start : List Row) (buyers : MemberSet) → HasBuyers members sums i buyers → IsListed members sums i start start buyers
listed_none members sums i start buyers h = record {
  n = 0;
  within = omega arith;
  listed = sym (append-nil start);
  ahead = λ j on. (omega arith, h.inside j on);
  sold = λ j _. h.sold j;
}

-- numbers that give nothing add nothing
none_listed : {T : Type 0} (f : ℕ → List T) (from to : ℕ) → from ≤ to → ((j : ℕ) → from ≤ j → j < to → f j ≡ []) → listed_below to f ≡ listed_below from f
none_listed f from zero le none = let e : zero ≡ from = omega arith in ap (λ n. listed_below n f) e
none_listed f from (suc to) le none =
    ⊎_elim (λ (e : from ≡ suc to). ap (λ n. listed_below n f) (sym e))
    (λ (ne : from ≢ suc to).
    ap (λ xs. listed_below to f ++ xs) (none to (omega (arith, le, ne)) (omega arith)) ∙ append-nil (listed_below to f) ∙ none_listed f from to (omega (arith, le, ne)) (λ j lj l. none j lj (omega arith)))
    (cases_eq from (suc to))

pub no_row : (i j m : ℕ) → m ≡ 0 → amount_row i j m ≡ []
no_row i j m e = rw e refl

-- where none is left, all are listed
pub listed_all : (members : ℕ) (sums : List ℕ) (i : ℕ) (start rows : List Row) (left : MemberSet) → IsListed members sums i start rows left → ((j : ℕ) → has left j ≡ false) → rows ≡ start ++ listed_below members (cell_row sums i)
listed_all members sums i start rows left h none =
    h.listed
    ∙ ap (λ xs. start ++ xs) (sym (none_listed (cell_row sums i) h.n members h.within (λ j le l. no_row i j (get_or sums (i * 256 + j) 0)
    (⊎_elim (λ (e : get_or sums (i * 256 + j) 0 ≡ 0). e) (λ (ne : get_or sums (i * 256 + j) 0 ≢ 0). absurd (true≢false (sym (h.sold j le l (omega (arith, ne))) ∙ none j))) (cases_eq (get_or sums (i * 256 + j) 0) 0)))))

-- the lowest of those that are left is the next
pub listed_more : (members : ℕ) (sums : List ℕ) (i : ℕ) (start before after : List Row) (left rest : MemberSet) (b : ℕ) → IsListed members sums i start before left → has left b ≡ true → ((m : ℕ) → m < b → has left m ≡ false) → ((m : ℕ) → has rest m ≡ (not (eqb m b) && has left m)) → after ≡ before ++ cell_row sums i b → IsListed members sums i start after rest
listed_more members sums i start before after left rest b h on least gone e = record {
  n = suc b;
  within = omega (arith, (h.ahead b on).1);
  listed = e ∙ ap (λ xs. xs ++ cell_row sums i b) (h.listed ∙ ap (λ xs. start ++ xs) (sym (none_listed (cell_row sums i) h.n b (h.ahead b on).0 passed))) ∙ append_assoc start (listed_below b (cell_row sums i)) (cell_row sums i b);
  ahead = λ j still.
      let parts = and_parts (not (eqb j b)) (has left j) (sym (gone j) ∙ still) in
      let other : j ≢ b = eqb-false j b (not-true (eqb j b) parts.0) in
      (omega (arith, other, not_below j parts.1), (h.ahead j parts.1).1);
  sold = λ j le l some.
      gone j ∙ rw (ne_eqb j b (λ q. omega (arith, q, le))) (h.sold j (omega (arith, le, (h.ahead b on).0)) l some);
}
  where
    not_below : (j : ℕ) → has left j ≡ true → b ≤ j
    not_below j there = ⊎_elim (λ (l : j < b). absurd (true≢false (sym there ∙ least j l))) (λ (le : b ≤ j). le) (cases_lt j b)

    passed : (j : ℕ) → h.n ≤ j → j < b → cell_row sums i j ≡ []
    passed j le l = no_row i j (get_or sums (i * 256 + j) 0)
        (⊎_elim (λ (q : get_or sums (i * 256 + j) 0 ≡ 0). q)
        (λ (ne : get_or sums (i * 256 + j) 0 ≢ 0). absurd (true≢false (sym (h.sold j le (omega (arith, l, (h.ahead b on).1)) (omega (arith, ne))) ∙ least j l)))
        (cases_eq (get_or sums (i * 256 + j) 0) 0))

pub some_row : (i j m : ℕ) → 0 < m → amount_row i j m ≡ row_of i j m ∷ []
some_row i j m l = rw (lt-ltb 0 m l) refl

-- one more seller without buyers
pub none_more : (old : List MemberSet) (new : MemberSet) → AreEmpty old → ((m : ℕ) → has new m ≡ false) → AreEmpty (old ++ new ∷ [])
none_more old new h none i j l =
    ⊎_elim (λ (e : i ≡ length old). ap (λ set. has set j) (get_or_push old new no_members i (sym e)) ∙ none j)
    (λ (ne : i ≢ length old). let lt : i < length old = omega (arith, length_push old new) in ap (λ set. has set j) (get_or_append_left old (new ∷ []) no_members i lt) ∙ h i j lt)
    (cases_eq i (length old))

-- a table without sums has no buyers
pub buyers_none : (members : ℕ) (sums : List ℕ) (buyers : List MemberSet) → ((i j : ℕ) → get_or sums (i * 256 + j) 0 ≡ 0) → length buyers ≡ members → AreEmpty buyers → AreBuyers members sums buyers
buyers_none members sums buyers zeros len none = record {
  one_each = len;
  each = λ i l. record {
    inside = λ j on. absurd (true≢false (sym on ∙ none i j (omega (arith, l, len))));
    sold = λ j _ some. absurd (omega (arith, some, zeros i j));
  };
}

-- one more buyer of a seller, where only its sum changes
pub buyers_more : (members : ℕ) (sums : List ℕ) (buyers : List MemberSet) (s b x : ℕ) (new : MemberSet) → members ≤ 256 → s < members → b < members → AreBuyers members sums buyers → ((m : ℕ) → has new m ≡ (eqb m b || has (buyers_at buyers s) m)) → AreBuyers members (set sums (s * 256 + b) x) (set buyers s new)
buyers_more members sums buyers s b x new few in_s in_b h put = record {
  one_each = length-set buyers s new ∙ h.one_each;
  each = λ i l.
      let was = h.each i l in
      ⊎_elim (λ (e : i ≡ s).
      let at_s : buyers_at (set buyers s new) i ≡ new = ap (buyers_at (set buyers s new)) e ∙ get_or-set_same buyers s new no_members (omega (arith, in_s, h.one_each)) in
      let old = λ (j : ℕ). ap (λ k. has (buyers_at buyers k) j) e in
      record {
        inside = λ j on.
            elim (or_cases (eqb j b) (has (buyers_at buyers s) j) (sym (put j) ∙ ap (λ set. has set j) (sym at_s) ∙ on)) [ inl q ↦ omega (arith, eqb-true j b q, in_b) | inr q ↦ was.inside j (old j ∙ q) ];
        sold = λ j lj some.
            ap (λ set. has set j) at_s ∙ put j
            ∙ ⊎_elim (λ (q : j ≡ b). or_left (eqb j b) (has (buyers_at buyers s) j) (eq-eqb j b q))
            (λ (ne : j ≢ b).
            or_right (eqb j b) (has (buyers_at buyers s) j) (sym (old j) ∙ was.sold j lj (omega (arith, some, get_or-set_other sums (s * 256 + b) (i * 256 + j) x 0 (λ q. ne (omega (arith, q, e)))))))
            (cases_eq j b);
      })
      (λ (ne : i ≢ s).
      let at_i : buyers_at (set buyers s new) i ≡ buyers_at buyers i = get_or-set_other buyers s i new no_members ne in
      record {
        inside = λ j on. was.inside j (ap (λ set. has set j) (sym at_i) ∙ on);
        sold = λ j lj some.
            ap (λ set. has set j) at_i ∙ was.sold j lj (omega (arith, some, get_or-set_other sums (s * 256 + b) (i * 256 + j) x 0 (λ q. ne (omega (arith, q, lj, in_b, few)))));
      })
      (cases_eq i s);
}

-- the same, as it is read and written
pub buyers_put : (members : ℕ) (sums : List ℕ) (buyers : List MemberSet) (s b x t c : ℕ) (old new : MemberSet) → members ≤ 256 → s < members → b < members → AreBuyers members sums buyers → t ≡ s → c ≡ b → old ≡ get_or buyers t old → ((m : ℕ) → has new m ≡ (eqb m c || has old m)) → AreBuyers members (set sums (s * 256 + b) x) (set buyers t new)
buyers_put members sums buyers s b x t c old new few in_s in_b h e e' is put =
    let at_old : old ≡ buyers_at buyers s = is ∙ get_or_default buyers t old no_members (omega (arith, e, in_s, h.one_each)) ∙ ap (buyers_at buyers) e in
    subst (λ k. AreBuyers members (set sums (s * 256 + b) x) (set buyers k new)) (sym e)
    (buyers_more members sums buyers s b x new few in_s in_b h (λ m. put m ∙ ap (λ k. eqb m k || has old m) e' ∙ ap (λ set. eqb m b || has set m) at_old))
