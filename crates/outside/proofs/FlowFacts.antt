-- What pieces one after another give and take.
use Rattle.std.proofs.Common.{◌≡◌, ℕ, ◌+◌, ◌-◌, ◌≤◌, List, ◌++◌, length, take, drop, Option, Some, None, arith, sym, subst, ◌∙◌, ap, append_assoc}
use Rattle.std.proofs.lemmas.List.{take-append-drop, length-drop, drop-drop}
use Rattle.std.proofs.lemmas.Grind.{common_steps}
use Rattle.std.proofs.Math.Seq.{take-length, take-add}
use Rattle.outside.specs.Flow.{Flow, Gives, Takes}

-- a sink took one piece and then another
pub takes_both : (a b c : Option (List ℕ)) (p q : List ℕ) → Takes a b p → Takes b c q → Takes a c (p ++ q)
takes_both None b c p q first then = tt
takes_both (Some a) None c p q first then = absurd first
takes_both (Some a) (Some b) None p q first then = absurd then
takes_both (Some a) (Some b) (Some c) p q first then = then ∙ ap (λ v. v ++ q) first ∙ append_assoc a p q

-- a source gave one piece and then another
pub gives_both : (a b c : Option Flow) (p q : List ℕ) → Gives a b p → Gives b c q → Gives a c (p ++ q)
gives_both None b c p q first then = tt
gives_both (Some a) None c p q first then = absurd first
gives_both (Some a) (Some b) None p q first then = absurd then
gives_both (Some a) (Some b) (Some c) p q first then =
    (then.0 ∙ ap (λ v. v ++ q) first.0 ∙ append_assoc a.given p q, first.1 ∙ ap (λ v. p ++ v) then.1 ∙ sym (append_assoc p q c.left))

-- the rest of a slice, as a range that goes to its end
pub take_rest : (bs : List ℕ) (k : ℕ) → take (length bs - k) (drop k bs) ≡ drop k bs
take_rest bs k = subst (λ n. take n (drop k bs) ≡ drop k bs) (length-drop k bs) (take-length (drop k bs))

-- the bytes from a place on, cut after the next n of them
pub next_bytes : (bs : List ℕ) (k n : ℕ) → (take (k + n) bs ≡ take k bs ++ take n (drop k bs)) × (drop k bs ≡ take n (drop k bs) ++ drop (k + n) bs)
next_bytes bs k n = (take-add k n bs, sym (ap (λ v. take n (drop k bs) ++ v) (sym (drop-drop n k bs)) ∙ take-append-drop n (drop k bs)))

-- bytes that were written over the front of a buffer are its front
pub front_written : (bs into : List ℕ) (n : ℕ) → n ≤ length bs → take n (take n bs ++ drop n into) ≡ take n bs
front_written bs into n fits = grind (arith, common_steps)
