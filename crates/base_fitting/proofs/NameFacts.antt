-- Names and the rows that they may be the names of, place by place.
use Rattle.std.proofs.Common.{◌≡◌, ◌<◌, ◌+◌, ℕ, true, false, List, ◌∷◌, [], ◌++◌, length, map, take, get_or, sym, ap, ◌∙◌}
use Rattle.std.proofs.lemmas.Bool.{false≢true}
use Rattle.std.proofs.lemmas.List.{get_or-map, map_more, take_more}
use Rattle.std.proofs.lemmas.Slice.Eq.{bytes_eq-Decides}
use Rattle.std.specs.Str.{bytes_eq}

module _ {X : Type 0} (name_of : X → List ℕ) where
  -- one more name is its row's
  pub same_more : (names : List (List ℕ)) (rows : List X) (i : ℕ) (name : List ℕ) (row : X) → i < length names → i < length rows → name ≡ get_or names i name → row ≡ get_or rows i row →
      bytes_eq name (name_of row) ≡ true → take i names ≡ map name_of (take i rows) → take (i + 1) names ≡ map name_of (take (i + 1) rows)
  same_more names rows i name row within there is_name is_row same so_far =
      take_more names i name within
      ∙ (λ j. so_far j ++ (sym is_name ∙ (bytes_eq-Decides name (name_of row)).0 same ∙ ap name_of is_row) j ∷ [])
      ∙ sym (map_more name_of rows i row there)

  -- one that is not, and all together are not
  pub not_same : (names : List (List ℕ)) (rows : List X) (i : ℕ) (name : List ℕ) (row : X) → i < length rows → name ≡ get_or names i name → row ≡ get_or rows i row →
      bytes_eq name (name_of row) ≡ false → names ≡ map name_of rows → ⊥
  not_same names rows i name row there is_name is_row other all =
      let same : name ≡ name_of row = is_name ∙ ap (λ (l : List (List ℕ)). get_or l i name) all ∙ get_or-map name_of rows i row name there ∙ ap name_of (sym is_row) in
      false≢true (sym other ∙ (bytes_eq-Decides name (name_of row)).1 same)
