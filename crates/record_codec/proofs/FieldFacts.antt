-- A field that is read is the field that was written, and what was written is read again.
use Rattle.std.proofs.Common.{◌≡◌, ℕ, suc, ◌+◌, ◌<◌, ◌≤◌, Bool, true, false, cond, ltb, List, ◌∷◌, ◌++◌, length, get_or, take, drop, Option, Some, None, Result, Ok, Err, refl, sym, ap, subst, ◌∙◌, append_assoc, arith, inl, inr}
use Rattle.std.proofs.lemmas.Bool.{cases_lt, ltb-false, le-ltb}
use Rattle.std.proofs.lemmas.List.{take_at, drop_at, take-append-drop, length-append, length-take, get_or-drop, get_or-take, get_or_past}
use Rattle.record_codec.specs.Reading.{Read, ◌>>=◌, kept, field}

abbrev pub IsBytes : List ℕ → Type 0
IsBytes bytes = (i : ℕ) → get_or bytes i 0 < 256

pub IsBytes-drop : (n : ℕ) (bytes : List ℕ) → IsBytes bytes → IsBytes (drop n bytes)
IsBytes-drop n bytes h i = rw get_or-drop (h (n + i))

pub IsBytes-take : (n : ℕ) (bytes : List ℕ) → IsBytes bytes → IsBytes (take n bytes)
IsBytes-take n bytes h i =
    elim (cases_lt i n) [
      | inl lt ↦ rw (get_or-take n bytes i 0 lt) (h i)
      | inr le ↦ rw (get_or_past (take n bytes) i 0 (omega (arith, length-take n bytes))) (omega arith)
    ]

pub IsBytes-rest : (b : ℕ) (bytes : List ℕ) → IsBytes (b ∷ bytes) → IsBytes bytes
IsBytes-rest b bytes h i = h (suc i)

-- what a reader took from the front
pub record Takes (bytes text rest : List ℕ) : Type 0 where
  pub parts : bytes ≡ text ++ rest
  pub rest_fits : IsBytes rest

pub Takes-then : (a x b y c : List ℕ) → Takes a x b → Takes b y c → Takes a (x ++ y) c
Takes-then a x b y c p q = record { parts = p.parts ∙ ap (λ (t : List ℕ). x ++ t) q.parts ∙ sym (append_assoc x y c); rest_fits = q.rest_fits }

-- what is read is spelled so, and what is spelled so is read, whatever follows
pub record IsFormat {A : Type 0} (read : List ℕ → Read A) (spell : A → List ℕ) (Is : A → Type 0) : Type 0 where
  pub takes : (bytes : List ℕ) (x : A × List ℕ) → IsBytes bytes → read bytes ≡ Ok x → Takes bytes (spell x.0) x.1 × Is x.0
  pub again : (value : A) (rest : List ℕ) → Is value → read (spell value ++ rest) ≡ Ok (value, rest)

-- the same of the bytes of one field
pub record IsField {A : Type 0} (size : ℕ) (make : List ℕ → Option A) (spell : A → List ℕ) (Is : A → Type 0) : Type 0 where
  pub back : (text : List ℕ) (value : A) → length text ≡ size → IsBytes text → make text ≡ Some value → (text ≡ spell value) × Is value
  pub again : (value : A) → Is value → make (spell value) ≡ Some value
  pub sized : (value : A) → Is value → length (spell value) ≡ size

-- ---- steps that did not fail

abbrev done : {A : Type 0} → A → Result A ℕ
done x = Ok x

pub ok_is : {A : Type 0} (x y : A) → done x ≡ done y → x ≡ y
ok_is x y e = cc

-- the value of a step that did not fail
pub bind_ok : {A B : Type 0} (r : Result A ℕ) (f : A → Result B ℕ) (y : B) → (r >>= f) ≡ Ok y → (x : A) × (r ≡ Ok x) × (f x ≡ Ok y)
bind_ok (Ok x) f y e = (x, refl, e)
bind_ok (Err left) f y e = absurd cc

-- a test that did not fail
guard_ok : {A : Type 0} (b : Bool) (left : ℕ) (r : Result A ℕ) (y : A) → cond b (Err left) r ≡ Ok y → (b ≡ false) × (r ≡ Ok y)
guard_ok true left r y e = absurd cc
guard_ok false left r y e = (refl, e)

kept_ok : {A : Type 0} (o : Option A) (size : ℕ) (bytes : List ℕ) (x : A × List ℕ) → kept o size bytes ≡ Ok x → (o ≡ Some x.0) × (drop size bytes ≡ x.1)
kept_ok None size bytes x e = absurd cc
kept_ok (Some value) size bytes x e =
    let same : (value, drop size bytes) ≡ x = ok_is (value, drop size bytes) x e in
    (ap (λ (p : _ × List ℕ). Some p.0) same, ap (λ (p : _ × List ℕ). p.1) same)

pub field_ok : {A : Type 0} (size : ℕ) (make : List ℕ → Option A) (bytes : List ℕ) (x : A × List ℕ) → field size make bytes ≡ Ok x → (size ≤ length bytes) × (make (take size bytes) ≡ Some x.0) × (drop size bytes ≡ x.1)
unfolding field
field_ok size make bytes x e =
    let g = guard_ok (ltb (length bytes) size) (length bytes) (kept (make (take size bytes)) size bytes) x e in
    let k = kept_ok (make (take size bytes)) size bytes x g.1 in
    (ltb-false _ _ g.0, k.0, k.1)

pub field_again : {A : Type 0} (size : ℕ) (make : List ℕ → Option A) (text rest : List ℕ) (value : A) → length text ≡ size → make text ≡ Some value → field size make (text ++ rest) ≡ Ok (value, rest)
unfolding field
field_again size make text rest value len makes =
    let long : ltb (length (text ++ rest)) size ≡ false = le-ltb _ _ (omega (arith, length-append text rest)) in
    rw (long, take_at text rest size len, makes, drop_at text rest size len) refl

pub format_of : {A : Type 0} (size : ℕ) (make : List ℕ → Option A) (spell : A → List ℕ) (Is : A → Type 0) → IsField size make spell Is → IsFormat (field size make) spell Is
format_of size make spell Is h = record {
  takes = λ bytes x fits e.
      let f = field_ok size make bytes x e in
      let len : length (take size bytes) ≡ size = omega (arith, length-take size bytes, f.0) in
      let b = h.back (take size bytes) x.0 len (IsBytes-take size bytes fits) f.1 in
      (record { parts = sym (take-append-drop size bytes) ∙ ap (λ (t : List ℕ). t ++ drop size bytes) b.0 ∙ ap (λ (t : List ℕ). spell x.0 ++ t) f.2; rest_fits = subst IsBytes f.2 (IsBytes-drop size bytes fits) }, b.1);
  again = λ value rest is. field_again size make (spell value) rest value (h.sized value is) (h.again value is);
}

-- ---- a field, and what follows

pub seq_takes : {A B : Type 0} {read : List ℕ → Read A} {spell : A → List ℕ} {Is : A → Type 0} (format : IsFormat read spell Is) (bytes : List ℕ) (more : A × List ℕ → Result B ℕ) (y : B) → IsBytes bytes → (read bytes >>= more) ≡ Ok y
    → (x : A × List ℕ) × (Takes bytes (spell x.0) x.1) × Is x.0 × (more x ≡ Ok y)
seq_takes {read = read} format bytes more y fits e =
    let b = bind_ok (read bytes) more y e in
    let t = format.takes bytes b.0 fits b.1 in
    (b.0, t.0, t.1, b.2)

pub seq_again : {A B : Type 0} {read : List ℕ → Read A} {spell : A → List ℕ} {Is : A → Type 0} (format : IsFormat read spell Is) (value : A) (rest : List ℕ) (more : A × List ℕ → Result B ℕ) → Is value → (read (spell value ++ rest) >>= more) ≡ more (value, rest)
seq_again format value rest more is = ap (λ r. r >>= more) (format.again value rest is)
