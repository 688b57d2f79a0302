-- Streams that gave or took nothing more.
use Rattle.std.proofs.Common.{◌≡◌, ℕ, List, [], take, Option, Some, None, refl, sym, subst}
use Rattle.std.proofs.lemmas.List.{append-nil}
use Rattle.outside.specs.Flow.{Flow, Gives, Takes}
use Rattle.outside.proofs.FlowFacts.{gives_both}

-- a sink that took nothing
pub takes_none : (taken : Option (List ℕ)) → Takes taken taken []
takes_none None = tt
takes_none (Some bytes) = sym (append-nil bytes)

-- a source that gave nothing
pub gives_none : (flow : Option Flow) → Gives flow flow []
gives_none None = tt
gives_none (Some f) = (sym (append-nil f.given), refl)

-- a source that gave nothing more
pub gives_end : (a b c : Option Flow) (bytes into : List ℕ) (n : ℕ) → n ≡ 0 → Gives a b bytes → Gives b c (take n into) → Gives a c bytes
gives_end a b c bytes into n e first last =
    let P : ℕ → Type 0 = λ m. Gives b c (take m into) in
    let Q : List ℕ → Type 0 = λ p. Gives a c p in
    subst Q (append-nil bytes) (gives_both a b c bytes [] first (subst P e last))

-- a source that gave nothing in a call that failed
pub gives_same : (a b c : Option Flow) (bytes : List ℕ) → c ≡ b → Gives a b bytes → Gives a c bytes
gives_same a b c bytes same gives = let P : Option Flow → Type 0 = λ f. Gives a f bytes in subst P (sym same) gives
