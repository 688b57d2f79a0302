-- Each step keeps the rule.
use Rattle.std.proofs.Common.{◌≡◌, ℕ, ◌==◌, ◌<◌, List, [], ◌∷◌, ◌++◌, set, get_or, drop, sym, refl, ap, ◌∙◌, subst, arith, get_or-set_same, get_or-set_other}
use Rattle.std.specs.Prelude.{Option, Some, None}
use Rattle.std.proofs.lemmas.List.{append-nil}
use mathlib.Core.Option.{some, none, some-injective, some-ne-none}
use mathlib.Core.Option as maybe
use prog.Atomic.{either}
use Rattle.atomic_table.specs.Table.{State, takes, gives, step, Allows, put_back}
use Rattle.publication_list.specs.declared.rule.TheConstants.{PLACES}
use Rattle.publication_list.specs.declared.rule.Letter.{Letter}
use Rattle.publication_list.specs.declared.rule.Letter.TheVariants.{Request, Reply}
use Rattle.publication_list.specs.declared.rule.View.{View}
use Rattle.publication_list.specs.Places.{at, idle, asker, asked_at, claimed_at, IsPlace, Kept}
use Rattle.publication_list.specs.Plays.{Sat, reserved, published, collected, withdrawn, freed, claimed, answered}
use Rattle.publication_list.proofs.Moves.{moves, tries, held, owes}
use Rattle.publication_list.proofs.Owners.{at_here, at_else, at_append, there, nobody, only, same}

module _ {A B K : Type 0} (fits : K → A → Type 0) (answers : A → B → Type 0) (key : K) where
  abbrev Rule : State (Option (Letter A B)) (View A K) → Type 0
  Rule = Kept (fits key) answers key

  abbrev Place : ℕ → maybe.Option (Option (Letter A B)) → List (Option A) → List A → Type 0
  Place = IsPlace (fits key) answers

  pub reserves : (size id p : ℕ) (key' : K) (me : Sat A B K) → me ≡ (idle key', []) → p < PLACES → size ≡ PLACES → Allows Rule size id me p (λ n. either (n == 0) 1 n) (reserved (step size p 0 1 none) me)
  reserves size id p key' me is lt long = let v : View A K = idle key' in let w : View A K = asker key' p None in
      subst (λ (m : Sat A B K). Allows Rule size id m p (λ n. either (n == 0) 1 n) (reserved (step size p 0 1 none) m)) (sym is)
      (tries fits answers key (reserved (step size p 0 1 none) (v, [])) size id p 0 1 (v, [])
      (λ s k homes here e.
      let place = subst (λ (z : ℕ). Place z (get_or s.homes p none) (asked_at p s.views) (claimed_at p s.views)) e (k.places p lt) in
      let a = nobody (λ (view : View A K). at p view.asks) s.views id v w here place.1 in
      let c = nobody (λ (view : View A K). at p view.claims) s.views id v w here place.2 in (
        w,
        takes p None,
        there s.homes p None place.0,
        moves fits answers key s k id p 1 v w (set s.homes p none) here lt refl (λ q ne. at_else p q None [] ne) (λ q ne. refl) (λ q ne. get_or-set_other s.homes p q none none ne)
            (get_or-set_same s.homes p none none (omega arith), a.1 ∙ at_here p None [], c.1),
        (λ z. refl, λ ne. absurd (ne refl)),
      ))
      (λ n ne. (λ z. absurd (ne z), λ _. refl)))

  pub publishes : (size id p : ℕ) (key' : K) (a : A) (me : Sat A B K) → me ≡ (asker key' p None, (p, Some (Request a)) ∷ []) → p < PLACES → size ≡ PLACES → fits key a
      → Allows Rule size id me p (λ _. 2) (λ _. published (step size p 2 0 none) me)
  publishes size id p key' a me is lt long belongs = let v : View A K = asker key' p None in let w : View A K = asker key' p (Some a) in let slot : Option (Letter A B) = Some (Request a) in
      subst (λ (m : Sat A B K). Allows Rule size id m p (λ _. 2) (λ _. published (step size p 2 0 none) m)) (sym is)
      (λ s k homes here small.
      let t = held fits answers key (get_or s.words p 0) p (get_or s.homes p none) s.views id v w here (at_here p None []) (k.places p lt) in (
        w,
        gives,
        tt,
        moves fits answers key s k id p 2 v w (set s.homes p (some slot)) here lt refl (λ q ne. at_else p q (Some a) [] ne ∙ sym (at_else p q None [] ne)) (λ q ne. refl) (λ q ne. get_or-set_other s.homes p q (some slot) none ne)
            (a, get_or-set_same s.homes p (some slot) none (omega arith), t.2 ∙ at_here p (Some a) [], same (λ (view : View A K). at p view.claims) s.views id v w here refl ∙ t.1, belongs),
        refl,
      ))

  pub collects : (size id p : ℕ) (key' : K) (asked : Option A) (me : Sat A B K) → me ≡ (asker key' p asked, []) → p < PLACES → size ≡ PLACES
      → Allows Rule size id me p (λ n. either (n == 4) 1 n) (collected answers (step size p 4 1 none) me)
  collects size id p key' asked me is lt long = let v : View A K = asker key' p asked in let w : View A K = asker key' p None in
      subst (λ (m : Sat A B K). Allows Rule size id m p (λ n. either (n == 4) 1 n) (collected answers (step size p 4 1 none) m)) (sym is)
      (tries fits answers key (collected answers (step size p 4 1 none) (v, [])) size id p 4 1 (v, [])
      (λ s k homes here e.
      let place = subst (λ (z : ℕ). Place z (get_or s.homes p none) (asked_at p s.views) (claimed_at p s.views)) e (k.places p lt) in
      let a = place.0 in let b = place.1 in
      let t = only (λ (view : View A K). at p view.asks) s.views id v w (Some a) asked [] here place.3 (at_here p asked []) in (
        w,
        takes p (Some (Reply b)),
        there s.homes p (Some (Reply b)) place.2,
        moves fits answers key s k id p 1 v w (set s.homes p none) here lt refl (λ q ne. at_else p q None [] ne ∙ sym (at_else p q asked [] ne)) (λ q ne. refl) (λ q ne. get_or-set_other s.homes p q none none ne)
            (get_or-set_same s.homes p none none (omega arith), t.2 ∙ at_here p None [], same (λ (view : View A K). at p view.claims) s.views id v w here refl ∙ place.4),
        (λ z. (a, b, t.0, place.5, refl), λ ne. absurd (ne refl)),
      ))
      (λ n ne. (λ z. absurd (ne z), λ _. refl)))

  pub withdraws : (size id p : ℕ) (key' : K) (asked : Option A) (me : Sat A B K) → me ≡ (asker key' p asked, []) → p < PLACES → size ≡ PLACES
      → Allows Rule size id me p (λ n. either (n == 2) 1 n) (withdrawn (step size p 2 1 none) me)
  withdraws size id p key' asked me is lt long = let v : View A K = asker key' p asked in let w : View A K = asker key' p None in
      subst (λ (m : Sat A B K). Allows Rule size id m p (λ n. either (n == 2) 1 n) (withdrawn (step size p 2 1 none) m)) (sym is)
      (tries fits answers key (withdrawn (step size p 2 1 none) (v, [])) size id p 2 1 (v, [])
      (λ s k homes here e.
      let place = subst (λ (z : ℕ). Place z (get_or s.homes p none) (asked_at p s.views) (claimed_at p s.views)) e (k.places p lt) in
      let a = place.0 in
      let t = only (λ (view : View A K). at p view.asks) s.views id v w (Some a) asked [] here place.2 (at_here p asked []) in (
        w,
        takes p (Some (Request a)),
        there s.homes p (Some (Request a)) place.1,
        moves fits answers key s k id p 1 v w (set s.homes p none) here lt refl (λ q ne. at_else p q None [] ne ∙ sym (at_else p q asked [] ne)) (λ q ne. refl) (λ q ne. get_or-set_other s.homes p q none none ne)
            (get_or-set_same s.homes p none none (omega arith), t.2 ∙ at_here p None [], same (λ (view : View A K). at p view.claims) s.views id v w here refl ∙ place.3),
        (λ z. (a, t.0, refl), λ ne. absurd (ne refl)),
      ))
      (λ n ne. (λ z. absurd (ne z), λ _. refl)))

  pub frees : (size id p : ℕ) (key' : K) (me : Sat A B K) → me ≡ (asker key' p None, (p, None) ∷ []) → p < PLACES → size ≡ PLACES → Allows Rule size id me p (λ _. 0) (λ _. freed me)
  frees size id p key' me is lt long = let v : View A K = asker key' p None in let w : View A K = idle key' in let slot : Option (Letter A B) = None in
      subst (λ (m : Sat A B K). Allows Rule size id m p (λ _. 0) (λ _. freed m)) (sym is)
      (λ s k homes here small.
      let t = held fits answers key (get_or s.words p 0) p (get_or s.homes p none) s.views id v w here (at_here p None []) (k.places p lt) in (
        w,
        gives,
        tt,
        moves fits answers key s k id p 0 v w (set s.homes p (some slot)) here lt refl (λ q ne. sym (at_else p q None [] ne)) (λ q ne. refl) (λ q ne. get_or-set_other s.homes p q (some slot) none ne)
            (get_or-set_same s.homes p (some slot) none (omega arith), t.2, same (λ (view : View A K). at p view.claims) s.views id v w here refl ∙ t.1),
        refl,
      ))

  pub claims_one : (size id p : ℕ) (me : Sat A B K) → p < PLACES → size ≡ PLACES → Allows Rule size id me p (λ n. either (n == 2) 3 n) (claimed fits (step size p 2 3 none) me)
  claims_one size id p me lt long = let v : View A K = me.0 in
      tries fits answers key (claimed fits (step size p 2 3 none) me) size id p 2 3 me
      (λ s k homes here e.
      let place = subst (λ (z : ℕ). Place z (get_or s.homes p none) (asked_at p s.views) (claimed_at p s.views)) e (k.places p lt) in
      let a = place.0 in
      let w : View A K = record v { claims = v.claims ++ (p, a) ∷ [] } in
      let t = nobody (λ (view : View A K). at p view.claims) s.views id v w here place.3 in (
        w,
        takes p (Some (Request a)),
        there s.homes p (Some (Request a)) place.1,
        moves fits answers key s k id p 3 v w (set s.homes p none) here lt refl (λ q ne. refl)
            (λ q ne. at_append q v.claims ((p, a) ∷ []) ∙ (ap (λ (l : List A). at q v.claims ++ l) (at_else p q a [] ne) ∙ append-nil (at q v.claims)))
            (λ q ne. get_or-set_other s.homes p q none none ne) (
              a,
              get_or-set_same s.homes p none none (omega arith),
              same (λ (view : View A K). at p view.asks) s.views id v w here refl ∙ place.2,
              t.1 ∙ (at_append p v.claims ((p, a) ∷ []) ∙ (ap (λ (l : List A). at p v.claims ++ l) (at_here p a []) ∙ ap (λ (l : List A). l ++ a ∷ []) t.0)),
            ),
        (λ z. (a, subst (λ (z : K). fits z a) (sym (k.keys id v here)) place.4, refl), λ ne. absurd (ne refl)),
      ))
      (λ n ne. (λ z. absurd (ne z), λ _. refl))

  pub answers_one : (size id p : ℕ) (a : A) (more : List (ℕ × A)) (b : B) (slots : List (ℕ × Option (Letter A B))) (me : Sat A B K) → me.0.claims ≡ (p, a) ∷ more → me.1 ≡ (p, Some (Reply b)) ∷ slots → answers a b → p < PLACES → size ≡ PLACES
      → Allows Rule size id me p (λ _. 4) (λ _. answered me)
  answers_one size id p a more b slots me first has right lt long s k homes here small = let v : View A K = me.0 in let w : View A K = record v { claims = drop 1 v.claims } in let slot : Option (Letter A B) = Some (Reply b) in
      let mine : at p v.claims ≡ a ∷ at p more = ap (at p) first ∙ at_here p a more in
      let t = owes fits answers key (get_or s.words p 0) p (get_or s.homes p none) s.views id v w a (at p more) here mine (k.places p lt) in
      let left : (q : ℕ) → at q w.claims ≡ at q more = λ q. ap (λ (c : List (ℕ × A)). at q (drop 1 c)) first in (
        w,
        gives,
        tt,
        subst (λ (c : List (ℕ × Option (Letter A B))). Rule record { words = set s.words p 4; homes = put_back s.homes c; views = set s.views id w }) (sym has)
            (moves fits answers key s k id p 4 v w (set s.homes p (some slot)) here lt refl (λ q ne. refl) (λ q ne. left q ∙ (sym (at_else p q a more ne) ∙ ap (at q) (sym first))) (λ q ne. get_or-set_other s.homes p q (some slot) none ne)
            (a, b, get_or-set_same s.homes p (some slot) none (omega arith), same (λ (view : View A K). at p view.asks) s.views id v w here refl ∙ t.0, t.2 ∙ (left p ∙ t.1), right)),
        refl,
      )
