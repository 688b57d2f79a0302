-- What each step tells the seat that makes it.
use Rattle.std.specs.Prelude.{◌≡◌, ◌≢◌, ℕ, List, [], ◌∷◌, ◌++◌, Option, Some, None, drop}
use Rattle.atomic_table.specs.Table.{Me, Step, rest}
use Rattle.publication_list.specs.declared.rule.Letter.{Letter}
use Rattle.publication_list.specs.declared.rule.Letter.TheVariants.{Request, Reply}
use Rattle.publication_list.specs.declared.rule.View.{View}
use Rattle.publication_list.specs.Places.{idle, asker, asked_in}

-- a view with the slots that its seat holds
abbrev pub Sat : Type 0 → Type 0 → Type 0 → Type 0
Sat A B K = Me (Option (Letter A B)) (View A K)

module _ {A B : Type 0} where
  abbrev pub request_of : Option (Letter A B) → Option A
  request_of None = None
  request_of (Some (Request a)) = Some a
  request_of (Some (Reply b)) = None

  -- the request in the slot that was taken last
  abbrev pub request_in : List (ℕ × Option (Letter A B)) → Option A
  request_in [] = None
  request_in (x ∷ xs) = request_of x.1

module _ {A B K : Type 0} where
  abbrev pub sat : Sat A B K → Sat A B K → Type 0
  sat m w = w ≡ (idle m.0.key, [])

  abbrev pub signalled : Sat A B K → Sat A B K → Type 0
  signalled m w = w ≡ m

  abbrev pub reserved : Step (Option (Letter A B)) → Sat A B K → ℕ → Sat A B K → Type 0
  reserved s m n w = (n ≡ 0 → w ≡ (asker m.0.key s.word None, (s.word, None) ∷ [])) × (n ≢ 0 → w ≡ m)

  abbrev pub published : Step (Option (Letter A B)) → Sat A B K → Sat A B K → Type 0
  published s m w = w ≡ (asker m.0.key s.word (request_in m.1), [])

  -- the reply in hand answers the request that was published
  abbrev pub collected : (A → B → Type 0) → Step (Option (Letter A B)) → Sat A B K → ℕ → Sat A B K → Type 0
  collected answers s m n w =
      (n ≡ 4 → (a : A) × (b : B) × (asked_in m.0.asks ≡ Some a) × answers a b × (w ≡ (asker m.0.key s.word None, (s.word, Some (Reply b)) ∷ [])))
      × (n ≢ 4 → w ≡ m)

  abbrev pub withdrawn : Step (Option (Letter A B)) → Sat A B K → ℕ → Sat A B K → Type 0
  withdrawn s m n w =
      (n ≡ 2 → (a : A) × (asked_in m.0.asks ≡ Some a) × (w ≡ (asker m.0.key s.word None, (s.word, Some (Request a)) ∷ [])))
      × (n ≢ 2 → w ≡ m)

  abbrev pub freed : Sat A B K → Sat A B K → Type 0
  freed m w = w ≡ (idle m.0.key, [])

  -- the request in hand belongs to the list
  abbrev pub claimed : (K → A → Type 0) → Step (Option (Letter A B)) → Sat A B K → ℕ → Sat A B K → Type 0
  claimed fits s m n w =
      (n ≡ 2 → (a : A) × fits m.0.key a × (w ≡ (record m.0 { claims = m.0.claims ++ (s.word, a) ∷ [] }, (s.word, Some (Request a)) ∷ m.1)))
      × (n ≢ 2 → w ≡ m)

  -- the first claim is answered
  abbrev pub answered : Sat A B K → Sat A B K → Type 0
  answered m w = w ≡ (record m.0 { claims = drop 1 m.0.claims }, rest m.1)
