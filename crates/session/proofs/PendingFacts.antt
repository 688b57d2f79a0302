-- A text on its way into a sink.
use Rattle.std.proofs.Common.{◌≡◌, ℕ, ◌+◌, ◌≤◌, List, [], ◌++◌, length, take, Option, sym, ap, subst, ◌∙◌, append_assoc, arith}
use Rattle.std.proofs.lemmas.List.{length-append, append-nil, take-append-le}
use Rattle.std.proofs.Math.Seq.{take-append-add}
use Rattle.outside.specs.Flow.{Takes, TakesFront}
use Rattle.outside.proofs.FlowFacts.{takes_both}
use Rattle.session.specs.Pending.{Says}
use Rattle.session.proofs.StreamFacts.{takes_none}

-- nothing was said
pub says_none : (taken : Option (List ℕ)) (waiting : List ℕ) → Says taken taken waiting waiting []
says_none taken waiting = record { written = []; took = takes_none taken; order = append-nil waiting }

-- what waited was taken
pub says_flushed : (begun taken : Option (List ℕ)) (waited waits : List ℕ) → Takes begun taken waited → waits ≡ [] → Says begun taken waited waits []
says_flushed begun taken waited waits took none = record { written = waited; took = took; order = ap (λ t. waited ++ t) (sym none) }

-- a text, and then what waits was taken
pub says_then_flushed : (a b c : Option (List ℕ)) (x y p : List ℕ) → Says a b x y p → Takes b c y → Says a c x [] p
says_then_flushed a b c x y p s took = record {
  written = s.written ++ y;
  took = takes_both a b c s.written y s.took took;
  order = s.order ∙ sym (append-nil (s.written ++ y));
}

-- the same text
pub says_as : (begun taken : Option (List ℕ)) (waited waits text same : List ℕ) → text ≡ same → Says begun taken waited waits text → Says begun taken waited waits same
says_as begun taken waited waits text same is s = record { written = s.written; took = s.took; order = ap (λ t. waited ++ t) (sym is) ∙ s.order }

-- one text and then another
pub says_both : (a b c : Option (List ℕ)) (x y z p q : List ℕ) → Says a b x y p → Says b c y z q → Says a c x z (p ++ q)
says_both a b c x y z p q first then = record {
  written = first.written ++ then.written;
  took = takes_both a b c first.written then.written first.took then.took;
  order = sym (append_assoc x p q) ∙ ap (λ t. t ++ q) first.order ∙ append_assoc first.written y q ∙ ap (λ t. first.written ++ t) then.order ∙ sym (append_assoc first.written then.written z);
}

-- and no less is written than before
pub says_on : (a b c : Option (List ℕ)) (x y z p q : List ℕ) → (first : Says a b x y p) → Says b c y z q → (s : Says a c x z (p ++ q)) × (length first.written ≤ length s.written)
unfolding says_both
says_on a b c x y z p q first then =
    let size = length-append first.written then.written in
    let more : length first.written ≤ length (first.written ++ then.written) = omega (arith, size) in
    (says_both a b c x y z p q first then, more)

-- where nothing waits, all that was said was taken
pub says_whole : (begun taken : Option (List ℕ)) (waited waits text : List ℕ) → waits ≡ [] → Says begun taken waited waits text → Takes begun taken (waited ++ text)
says_whole begun taken waited waits text none s =
    let P : List ℕ → Type 0 = λ t. Takes begun taken t in
    subst P (sym (s.order ∙ ap (λ t. s.written ++ t) none ∙ append-nil s.written)) s.took

-- a front of a text is one of each longer text
pub front_more : (begun after : Option (List ℕ)) (said more : List ℕ) → TakesFront begun after said → TakesFront begun after (said ++ more)
front_more begun after said more front =
    let n = front.0 in
    let short : n ≤ length said = omega (arith, front.1) in
    let P : List ℕ → Type 0 = λ t. Takes begun after t in
    (n, omega (arith, front.1, length-append said more), subst P (sym (take-append-le n said more short)) front.2)

-- a front of the text, with at least so many bytes
abbrev pub TakesFrom : Option (List ℕ) → Option (List ℕ) → ℕ → List ℕ → Type 0
TakesFrom begun after least text = (front : TakesFront begun after text) × (least ≤ front.0)

-- a front behind what was taken
front_behind : (a b c : Option (List ℕ)) (written rest : List ℕ) → Takes a b written → TakesFront b c rest → TakesFrom a c (length written) (written ++ rest)
front_behind a b c written rest took front =
    let n = front.0 in
    let P : List ℕ → Type 0 = λ t. Takes a c t in
    let least : length written ≤ length written + n = omega arith in
    ((length written + n, omega (arith, length-append written rest, front.1), subst P (sym (take-append-add written rest n)) (takes_both a b c written (take n rest) took front.2)), least)

-- a text, and then a front of what waits and of the next text
pub front_on : (a b c : Option (List ℕ)) (x y p q : List ℕ) → (s : Says a b x y p) → TakesFront b c (y ++ q) → TakesFrom a c (length s.written) (x ++ (p ++ q))
front_on a b c x y p q s front =
    let P : List ℕ → Type 0 = λ t. TakesFrom a c (length s.written) t in
    let order : x ++ (p ++ q) ≡ s.written ++ (y ++ q) = sym (append_assoc x p q) ∙ ap (λ t. t ++ q) s.order ∙ append_assoc s.written y q in
    subst P (sym order) (front_behind a b c s.written (y ++ q) s.took front)

-- a text, and then a front of what waits
pub waiting_on : (a b c : Option (List ℕ)) (x y p : List ℕ) → (s : Says a b x y p) → TakesFront b c y → TakesFrom a c (length s.written) (x ++ p)
waiting_on a b c x y p s front =
    let P : List ℕ → Type 0 = λ t. TakesFrom a c (length s.written) t in
    subst P (sym s.order) (front_behind a b c s.written y s.took front)

pub front_waiting : (a b c : Option (List ℕ)) (x y p : List ℕ) → Says a b x y p → TakesFront b c y → TakesFront a c (x ++ p)
front_waiting a b c x y p s front = (waiting_on a b c x y p s front).0

-- the same, for a text of two parts
pub front_both : (a b c : Option (List ℕ)) (x y p q : List ℕ) → Says a b x y p → TakesFront b c (y ++ q) → TakesFront a c (x ++ (p ++ q))
front_both a b c x y p q s front = (front_on a b c x y p q s front).0

-- ---- a text that is put piece by piece

-- one piece more
pub says_piece : (a b c : Option (List ℕ)) (x y z front piece others text rest : List ℕ) → text ≡ front ++ rest → rest ≡ piece ++ others → Says a b x y front → Says b c y z piece →
    (longer : List ℕ) × (text ≡ longer ++ others) × Says a c x z longer
says_piece a b c x y z front piece others text rest is split first then =
    (front ++ piece, is ∙ ap (λ t. front ++ t) split ∙ sym (append_assoc front piece others), says_both a b c x y z front piece first then)

-- the last piece
pub says_end : (a b c : Option (List ℕ)) (x y z front rest text : List ℕ) → text ≡ front ++ rest → Says a b x y front → Says b c y z rest → Says a c x z text
says_end a b c x y z front rest text is first then = says_as a c x z (front ++ rest) text (sym is) (says_both a b c x y z front rest first then)

-- the sink failed before a piece
pub front_piece : (a b c : Option (List ℕ)) (x y front rest text : List ℕ) → text ≡ front ++ rest → Says a b x y front → TakesFront b c y → TakesFront a c (x ++ text)
front_piece a b c x y front rest text is s failed =
    let P : List ℕ → Type 0 = λ t. TakesFront a c t in
    subst P (append_assoc x front rest ∙ ap (λ t. x ++ t) (sym is)) (front_more a c (x ++ front) rest (front_waiting a b c x y front s failed))
