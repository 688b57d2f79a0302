-- The record of an ACCEPT, piece by piece.
use Rattle.std.proofs.Common.{◌≡◌, ℕ, List, [], ◌∷◌, ◌++◌, length, ◌∙◌, ap, append_assoc}
use Rattle.std.specs.Int.{w32, w64, to_le_bytes}

pub pieces : (moment seat cycle version : ℕ) (name t a b c d e f : List ℕ) → t ≡ to_le_bytes w64 moment → a ≡ t ++ to_le_bytes w32 seat → b ≡ a ++ length name ∷ [] → c ≡ b ++ name → d ≡ c ++ 10 ∷ [] → e ≡ d ++ to_le_bytes w64 cycle → f ≡ e ++ to_le_bytes w64 version
    → f ≡ to_le_bytes w64 moment ++ to_le_bytes w32 seat ++ (length name ∷ name) ++ (10 ∷ to_le_bytes w64 cycle ++ to_le_bytes w64 version)
pieces moment seat cycle version name t a b c d e f t_is a_is b_is c_is d_is e_is f_is =
    let begin : a ≡ to_le_bytes w64 moment ++ to_le_bytes w32 seat = a_is ∙ ap (λ (l : List ℕ). l ++ to_le_bytes w32 seat) t_is in
    let front : c ≡ to_le_bytes w64 moment ++ to_le_bytes w32 seat ++ (length name ∷ name) =
    c_is ∙ ap (λ (l : List ℕ). l ++ name) (b_is ∙ ap (λ (l : List ℕ). l ++ length name ∷ []) begin) ∙ append_assoc (to_le_bytes w64 moment ++ to_le_bytes w32 seat) (length name ∷ []) name in
    let all : f ≡ c ++ 10 ∷ [] ++ to_le_bytes w64 cycle ++ to_le_bytes w64 version =
    f_is ∙ ap (λ (l : List ℕ). l ++ to_le_bytes w64 version) (e_is ∙ ap (λ (l : List ℕ). l ++ to_le_bytes w64 cycle) d_is) in
    all ∙ append_assoc (c ++ 10 ∷ []) (to_le_bytes w64 cycle) (to_le_bytes w64 version) ∙ append_assoc c (10 ∷ []) (to_le_bytes w64 cycle ++ to_le_bytes w64 version)
    ∙ ap (λ (l : List ℕ). l ++ (10 ∷ to_le_bytes w64 cycle ++ to_le_bytes w64 version)) front
