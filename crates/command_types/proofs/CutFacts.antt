-- One more byte of an input.
use Rattle.std.proofs.Common.{◌≡◌, ◌≢◌, ◌∙◌, sym, ap, refl, subst, ℕ, List, [], ◌∷◌, ◌++◌, Bool, true, false, fold, cond, eqb, codes, rules, append_assoc}
use Rattle.std.proofs.lemmas.Bool.{eqb-true, eqb-false}
use Rattle.std.proofs.lemmas.List.{append-nil, map_push}
use Rattle.std.proofs.lemmas.List.Elements.{All-push}
use Rattle.command_types.specs.Lines.{Cut, ended_line, cut_on, empty_cut}
use Rattle.command_types.specs.CutLines.{joined, IsOneLine, IsCutOf, CutLinesJoin}

joined_push : (lines : List (List ℕ)) (line : List ℕ) → joined (lines ++ (line ∷ [])) ≡ joined lines ++ (line ++ codes "\n")
joined_push [] line = append-nil (line ++ codes "\n")
joined_push (first ∷ lines) line =
    ap (λ t. first ++ codes "\n" ++ t) (joined_push lines line) ∙ sym (append_assoc (first ++ codes "\n") (joined lines) (line ++ codes "\n"))

abbrev fed : Cut → Cut
fed cut = record { whole = cut.whole ++ (ended_line cut.rest ∷ []); rest = [] }

abbrev longer : Cut → ℕ → Cut
longer cut byte = record { whole = cut.whole; rest = cut.rest ++ (byte ∷ []) }

on : (front : List ℕ) (cut : Cut) (byte : ℕ) (feed : Bool) → eqb byte 10 ≡ feed → IsCutOf front cut → IsCutOf (front ++ (byte ∷ [])) (cond feed (fed cut) (longer cut byte))
on front cut byte true e h = record {
  lines = h.lines ++ (cut.rest ∷ []);
  bytes_are = ap (λ t. t ++ (byte ∷ [])) h.bytes_are
      ∙ append_assoc (joined h.lines) cut.rest (byte ∷ [])
      ∙ ap (λ b. joined h.lines ++ (cut.rest ++ (b ∷ []))) (eqb-true byte 10 e)
      ∙ sym (joined_push h.lines cut.rest)
      ∙ sym (append-nil (joined (h.lines ++ (cut.rest ∷ []))));
  whole = ap (λ w. w ++ (ended_line cut.rest ∷ [])) h.whole ∙ sym (map_push ended_line h.lines cut.rest);
  each = All-push IsOneLine h.lines cut.rest h.each h.rest;
  rest = search rules;
}
on front cut byte false e h = record {
  lines = h.lines;
  bytes_are = ap (λ t. t ++ (byte ∷ [])) h.bytes_are ∙ append_assoc (joined h.lines) cut.rest (byte ∷ []);
  whole = h.whole;
  each = h.each;
  rest = All-push (λ b. b ≢ 10) cut.rest byte h.rest (eqb-false byte 10 e);
}

on_all : (front : List ℕ) (cut : Cut) (bytes : List ℕ) → IsCutOf front cut → IsCutOf (front ++ bytes) (fold cut_on cut bytes)
on_all front cut [] h = subst (λ b. IsCutOf b cut) (sym (append-nil front)) h
on_all front cut (byte ∷ bytes) h =
    subst (λ b. IsCutOf b (fold cut_on (cut_on cut byte) bytes)) (append_assoc front (byte ∷ []) bytes)
    (on_all (front ++ (byte ∷ [])) (cut_on cut byte) bytes (on front cut byte (eqb byte 10) refl h))

pub cut_lines_join : CutLinesJoin
cut_lines_join bytes = on_all [] empty_cut bytes (record { lines = []; bytes_are = refl; whole = refl; each = search rules; rest = search rules })
