-- A step at one place keeps the rule, and so do those that change no place.
use Rattle.std.proofs.Common.{◌≡◌, ◌≢◌, ℕ, zero, suc, ◌+◌, ◌%◌, ◌^◌, ◌==◌, ◌<◌, ◌≤◌, List, [], ◌∷◌, ◌++◌, length, set, get_or, map, replicate, sym, refl, ap, ◌∙◌, subst, ⊎_elim, arith, length-set, get_or-set_same, get_or-set_other}
use Rattle.std.specs.Prelude.{Option, Some, None, bit_and, bit_or}
use Rattle.std.proofs.lemmas.List.{set-get_or, get_or-replicate, get_or-map, length-replicate}
use mathlib.Core.Option.{some, none, some-injective, some-ne-none}
use mathlib.Core.Option as maybe
use mathlib.Core.Logic.{dite}
use native.Mathlib.Decide.{ℕ_discrete}
use prog.Atomic.{either}
use lib.ListN.{get_elem?}
use Rattle.atomic_table.specs.Table.{State, Act, keeps, stepped, Valid, carried_after, Allows, Enters, opening}
use Rattle.atomic_table.proofs.Lists.{at_set, at_snoc, exchanged, set_again}
use Rattle.publication_list.specs.declared.rule.TheConstants.{PLACES, WORDS}
use Rattle.publication_list.specs.declared.rule.Letter.{Letter}
use Rattle.publication_list.specs.declared.rule.View.{View}
use Rattle.publication_list.specs.Places.{at, idle, asked_at, claimed_at, IsPlace, Kept}
use Rattle.publication_list.specs.Plays.{Sat, sat, signalled}
use Rattle.publication_list.proofs.Owners.{nobody, only, same, one_more}

module _ {A B K : Type 0} (fits : K → A → Type 0) (answers : A → B → Type 0) (key : K) where
  abbrev Rule : State (Option (Letter A B)) (View A K) → Type 0
  Rule = Kept (fits key) answers key

  abbrev Slots : Type 0
  Slots = List (maybe.Option (Option (Letter A B)))

  abbrev Place : ℕ → maybe.Option (Option (Letter A B)) → List (Option A) → List A → Type 0
  Place = IsPlace (fits key) answers

  keys_set : (vs : List (View A K)) (id : ℕ) (w : View A K) → w.key ≡ key → ((j : ℕ) (u : View A K) → get_elem? vs j ≡ some u → u.key ≡ key) → (j : ℕ) (u : View A K) → get_elem? (set vs id w) j ≡ some u → u.key ≡ key
  keys_set vs id w mine others j u p = ⊎_elim (λ (x : (j ≡ id) × (w ≡ u)). ap (λ (z : View A K). z.key) (sym x.1) ∙ mine) (λ (x : (j ≢ id) × (get_elem? vs j ≡ some u)). others j u x.1) (at_set vs id j w u p)

  -- one place changes, and the view of one seat, in what it has there
  pub moves : (s : State (Option (Letter A B)) (View A K)) (k : Rule s) (id p n : ℕ) (v w : View A K) (homes' : Slots) → get_elem? s.views id ≡ some v → p < PLACES → w.key ≡ v.key
      → ((q : ℕ) → q ≢ p → at q w.asks ≡ at q v.asks) → ((q : ℕ) → q ≢ p → at q w.claims ≡ at q v.claims) → ((q : ℕ) → q ≢ p → get_or homes' q none ≡ get_or s.homes q none)
      → Place n (get_or homes' p none) (asked_at p (set s.views id w)) (claimed_at p (set s.views id w))
      → Rule record { words = set s.words p n; homes = homes'; views = set s.views id w }
  moves s k id p n v w homes' here lt key' asks claims homes place = record {
    wide = length-set s.words p n ∙ k.wide;
    places = λ q less. dite (ℕ_discrete q p)
        (λ e. let wide = k.wide in subst (λ (z : ℕ). Place (get_or (set s.words p n) z 0) (get_or homes' z none) (asked_at z (set s.views id w)) (claimed_at z (set s.views id w))) (sym e)
        (subst (λ (z : ℕ). Place z (get_or homes' p none) (asked_at p (set s.views id w)) (claimed_at p (set s.views id w))) (sym (get_or-set_same s.words p n 0 (omega arith))) place))
        (λ ne. let old = k.places q less in
        let one = subst (λ (z : ℕ). Place z (get_or s.homes q none) (asked_at q s.views) (claimed_at q s.views)) (sym (get_or-set_other s.words p q n 0 ne)) old in
        let two = subst (λ (z : maybe.Option (Option (Letter A B))). Place (get_or (set s.words p n) q 0) z (asked_at q s.views) (claimed_at q s.views)) (sym (homes q ne)) one in
        let three = subst (λ (z : List (Option A)). Place (get_or (set s.words p n) q 0) (get_or homes' q none) z (claimed_at q s.views)) (sym (same (λ (view : View A K). at q view.asks) s.views id v w here (asks q ne))) two in
        subst (λ (z : List A). Place (get_or (set s.words p n) q 0) (get_or homes' q none) (asked_at q (set s.views id w)) z) (sym (same (λ (view : View A K). at q view.claims) s.views id v w here (claims q ne))) three);
    keys = keys_set s.views id w (key' ∙ k.keys id v here) k.keys;
  }

  -- a word is found as it was, and so is all else
  pub still : (s : State (Option (Letter A B)) (View A K)) (k : Rule s) (id i : ℕ) (v : View A K) → get_elem? s.views id ≡ some v → Rule record { words = set s.words i (get_or s.words i 0); homes = s.homes; views = set s.views id v }
  still s k id i v here = subst (λ (ws : List ℕ). Rule record { words = ws; homes = s.homes; views = set s.views id v }) (sym (set-get_or s.words i 0))
      (subst (λ (vs : List (View A K)). Rule record { words = s.words; homes = s.homes; views = vs }) (sym (set_again s.views id v here)) record { wide = k.wide; places = k.places; keys = k.keys })

  -- a compare-exchange, by what it does where it finds what it looks for
  pub tries : (then : ℕ → Sat A B K → Type 0) (size id p old new : ℕ) (me : Sat A B K)
      → ((s : State (Option (Letter A B)) (View A K)) → Rule s → length s.homes ≡ size → get_elem? s.views id ≡ some me.0 → get_or s.words p 0 ≡ old
      → (w : View A K) × (a : Act (Option (Letter A B))) × Valid s.homes me.1 a × Rule (stepped s p new id me.1 w a) × then old (w, carried_after me.1 a))
      → ((n : ℕ) → n ≢ old → then n me)
      → Allows Rule size id me p (λ n. either (n == old) new n) then
  tries then size id p old new me hit miss s k long here small = let n : ℕ = get_or s.words p 0 in
      exchanged n old new (λ (x : ℕ). (w : View A K) × (a : Act (Option (Letter A B))) × Valid s.homes me.1 a × Rule (stepped s p x id me.1 w a) × then n (w, carried_after me.1 a))
      (λ e. let t = hit s k long here e in (t.0, t.1, t.2, t.3, subst (λ (z : ℕ). then z (t.0, carried_after me.1 t.1)) (sym e) t.4))
      (λ ne. (me.0, keeps, tt, still s k id p me.0 here, miss n ne))

  -- a seat that has a place and no request there has its slot
  pub held : (n p : ℕ) (slot : maybe.Option (Option (Letter A B))) (vs : List (View A K)) (id : ℕ) (v w : View A K) → get_elem? vs id ≡ some v → at p v.asks ≡ None ∷ [] → Place n slot (asked_at p vs) (claimed_at p vs)
      → (slot ≡ none) × (claimed_at p vs ≡ []) × (asked_at p (set vs id w) ≡ at p w.asks)
  held zero p slot vs id v w here has place = let t = nobody (λ (view : View A K). at p view.asks) vs id v w here place.1 in absurd (cc)
  held (suc zero) p slot vs id v w here has place = let t = only (λ (view : View A K). at p view.asks) vs id v w None None [] here place.1 has in (place.0, place.2, t.2)
  held (suc (suc zero)) p slot vs id v w here has place = let t = only (λ (view : View A K). at p view.asks) vs id v w (Some place.0) None [] here place.2 has in absurd (cc)
  held (suc (suc (suc zero))) p slot vs id v w here has place = let t = only (λ (view : View A K). at p view.asks) vs id v w (Some place.0) None [] here place.2 has in absurd (cc)
  held (suc (suc (suc (suc zero)))) p slot vs id v w here has place = let t = only (λ (view : View A K). at p view.asks) vs id v w (Some place.0) None [] here place.3 has in absurd (cc)
  held (suc (suc (suc (suc (suc n))))) p slot vs id v w here has place = absurd place

  -- a seat that has claimed a request is the one that owes the reply
  pub owes : (n p : ℕ) (slot : maybe.Option (Option (Letter A B))) (vs : List (View A K)) (id : ℕ) (v w : View A K) (a : A) (more : List A) → get_elem? vs id ≡ some v → at p v.claims ≡ a ∷ more → Place n slot (asked_at p vs) (claimed_at p vs)
      → (asked_at p vs ≡ Some a ∷ []) × (more ≡ []) × (claimed_at p (set vs id w) ≡ at p w.claims)
  owes zero p slot vs id v w a more here has place = let t = nobody (λ (view : View A K). at p view.claims) vs id v w here place.2 in absurd (cc)
  owes (suc zero) p slot vs id v w a more here has place = let t = nobody (λ (view : View A K). at p view.claims) vs id v w here place.2 in absurd (cc)
  owes (suc (suc zero)) p slot vs id v w a more here has place = let t = nobody (λ (view : View A K). at p view.claims) vs id v w here place.3 in absurd (cc)
  owes (suc (suc (suc zero))) p slot vs id v w a more here has place = let t = only (λ (view : View A K). at p view.claims) vs id v w place.0 a more here place.3 has in (place.2 ∙ ap (λ (x : A). Some x ∷ []) (sym t.0), t.1, t.2)
  owes (suc (suc (suc (suc zero)))) p slot vs id v w a more here has place = let t = nobody (λ (view : View A K). at p view.claims) vs id v w here place.4 in absurd (cc)
  owes (suc (suc (suc (suc (suc n))))) p slot vs id v w a more here has place = absurd place

  signals : (f : ℕ → ℕ) (size id i : ℕ) (me : Sat A B K) → PLACES ≤ i → Allows Rule size id me i f (λ n w. signalled me w)
  signals f size id i me past s k homes here small = let n : ℕ = f (get_or s.words i 0) in (
    me.0,
    keeps,
    tt,
    subst (λ (vs : List (View A K)). Rule record { words = set s.words i n; homes = s.homes; views = vs }) (sym (set_again s.views id me.0 here))
        record {
          wide = length-set s.words i n ∙ k.wide;
          places = λ q less.
              subst (λ (z : ℕ). Place z (get_or s.homes q none) (asked_at q s.views) (claimed_at q s.views)) (sym (get_or-set_other s.words i q n 0 (λ e. omega arith))) (k.places q less);
          keys = k.keys;
        },
    refl,
  )

  pub counts : (k size id i : ℕ) (me : Sat A B K) → PLACES ≤ i → Allows Rule size id me i (λ n. (n + k) % 2 ^ 64) (λ n w. signalled me w)
  counts k = signals (λ n. (n + k) % 2 ^ 64)

  pub sets_bits : (k size id i : ℕ) (me : Sat A B K) → PLACES ≤ i → Allows Rule size id me i (λ n. bit_or n k) (λ n w. signalled me w)
  sets_bits k = signals (λ n. bit_or n k)

  pub leaves_bits : (k size id i : ℕ) (me : Sat A B K) → PLACES ≤ i → Allows Rule size id me i (λ n. bit_and n k) (λ n w. signalled me w)
  leaves_bits k = signals (λ n. bit_and n k)

  pub sits : (size i : ℕ) → Enters Rule size i (λ n w. sat {B = B} (idle key, []) (w, []))
  sits size i s k homes small = let w : View A K = idle key in (
    w,
    record {
      wide = k.wide;
      places = λ q less.
          subst (λ (z : List A). Place (get_or s.words q 0) (get_or s.homes q none) (asked_at q (s.views ++ w ∷ [])) z) (sym (one_more (λ (view : View A K). at q view.claims) s.views w refl))
          (subst (λ (z : List (Option A)). Place (get_or s.words q 0) (get_or s.homes q none) z (claimed_at q s.views)) (sym (one_more (λ (view : View A K). at q view.asks) s.views w refl)) (k.places q less));
      keys = λ j u p. ⊎_elim (λ (x : get_elem? s.views j ≡ some u). k.keys j u x) (λ (x : w ≡ u). ap (λ (z : View A K). z.key) (sym x)) (at_snoc s.views w u j p);
    },
    refl,
  )

  first_key : (j : ℕ) (u : View A K) → get_elem? (idle key ∷ []) j ≡ some u → u.key ≡ key
  first_key zero u e = ap (λ (z : View A K). z.key) (sym (some-injective (idle key) u e))
  first_key (suc j) u e = absurd (some-ne-none u (sym e))

  pub opens : Rule (opening (replicate WORDS 0) (replicate PLACES None) (idle key))
  opens = record {
    wide = length-replicate {A = ℕ} WORDS 0;
    places = λ p less.
        subst (λ (z : ℕ). Place z (get_or (map some (replicate PLACES None)) p none) [] []) (sym (get_or-replicate WORDS p 0 0 (omega arith)))
        (get_or-map some (replicate PLACES None) p None none (subst (λ (n : ℕ). p < n) (sym (length-replicate {A = Option (Letter A B)} PLACES None)) less) ∙ ap some (get_or-replicate PLACES p None None less), refl, refl);
    keys = first_key;
  }
