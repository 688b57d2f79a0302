-- Problems, their cuts, and the solutions of their pieces.
use Rattle.std.proofs.Common.{◌≡◌, ◌≢◌, ℕ, zero, suc, ◌≤◌, ◌+◌, ◌<◌, List, [], ◌∷◌, ◌++◌, length, take, drop, get_or, map, append_assoc, sym, subst, ap, ◌∙◌, arith, refl}
use Rattle.std.proofs.lemmas.List.{append-nil, take_all, take_more, drop_more, get_or-map, length-append, length-map, length-take-le}
use Rattle.network_laws.specs.Solutions.{ProblemData, SolutionData}
use Rattle.network_laws.specs.Solved.{IsSolved, AreSolved}
use Rattle.split_parts.specs.Own.{own_problem}
use Rattle.split_parts.specs.Parts.{PartitionData, IsPartitionOf}
use Rattle.parallel_solver.specs.Cuts.{AreCuts, pieces_by, pieces_in, pieces_of}
use Rattle.parallel_solver.specs.Pieces.{part_at}

-- as many solutions as problems
pub solved_length : (problems : List ProblemData) (solutions : List SolutionData) → AreSolved problems solutions → length solutions ≡ length problems
solved_length [] [] h = refl
solved_length [] (s ∷ solutions) h = absurd h
solved_length (p ∷ problems) [] h = absurd h
solved_length (p ∷ problems) (s ∷ solutions) h = let rest = solved_length problems solutions h.1 in omega arith

-- the first ones are solved by the first solutions
pub solved_front : (ps qs : List ProblemData) (own rest : List SolutionData) → length own ≡ length ps → AreSolved (ps ++ qs) (own ++ rest) → AreSolved ps own
solved_front [] qs [] rest size h = tt
solved_front [] qs (s ∷ own) rest size h = absurd (omega arith)
solved_front (p ∷ ps) qs [] rest size h = absurd (omega arith)
solved_front (p ∷ ps) qs (s ∷ own) rest size h = (h.0, solved_front ps qs own rest (omega arith) h.1)

-- and the others by the others
pub solved_back : (ps qs : List ProblemData) (own rest : List SolutionData) → length own ≡ length ps → AreSolved (ps ++ qs) (own ++ rest) → AreSolved qs rest
solved_back [] qs [] rest size h = h
solved_back [] qs (s ∷ own) rest size h = absurd (omega arith)
solved_back (p ∷ ps) qs [] rest size h = absurd (omega arith)
solved_back (p ∷ ps) qs (s ∷ own) rest size h = solved_back ps qs own rest (omega arith) h.1

-- the one solution of one problem
pub one_solved : (p : ProblemData) (s : SolutionData) (own new : List SolutionData) → own ≡ new ++ s ∷ [] → AreSolved (p ∷ []) own → IsSolved p s
one_solved p s own new is h = last new (subst (AreSolved (p ∷ [])) is h)
  where
    last : (new : List SolutionData) → AreSolved (p ∷ []) (new ++ s ∷ []) → IsSolved p s
    last [] h = h.0
    last (x ∷ []) h = absurd h.1
    last (x ∷ (y ∷ new)) h = absurd h.1

-- as many cuts as problems
pub cuts_length : (problems : List ProblemData) (cuts : List PartitionData) → AreCuts problems cuts → length problems ≡ length cuts
cuts_length [] [] h = refl
cuts_length [] (c ∷ cuts) h = absurd h
cuts_length (p ∷ problems) [] h = absurd h
cuts_length (p ∷ problems) (c ∷ cuts) h = let rest = cuts_length problems cuts h.1 in omega arith

cuts_last : (problems : List ProblemData) (cuts : List PartitionData) (p : ProblemData) (c : PartitionData) → AreCuts problems cuts → IsPartitionOf p.limits c → AreCuts (problems ++ p ∷ []) (cuts ++ c ∷ [])
cuts_last [] [] p c h now = (now, tt)
cuts_last [] (d ∷ cuts) p c h now = absurd h
cuts_last (q ∷ problems) [] p c h now = absurd h
cuts_last (q ∷ problems) (d ∷ cuts) p c h now = (h.0, cuts_last problems cuts p c h.1 now)

-- one problem more is cut
pub cuts_more : (k : ℕ) (problems : List ProblemData) (p d : ProblemData) (cuts cuts' : List PartitionData) (c : PartitionData) → k < length problems → get_or problems k d ≡ p → cuts' ≡ cuts ++ c ∷ [] →
    IsPartitionOf p.limits c → AreCuts (take k problems) cuts → AreCuts (take (k + 1) problems) cuts'
cuts_more k problems p d cuts cuts' c within is more now before =
    let one : take k problems ++ p ∷ [] ≡ take (k + 1) problems = ap (λ x. take k problems ++ x ∷ []) (sym is) ∙ sym (take_more problems k d within) in
    subst (λ ps. AreCuts ps cuts') one (subst (λ cs. AreCuts (take k problems ++ p ∷ []) cs) (sym more) (cuts_last (take k problems) cuts p c before now))

-- the cut of one problem
pub cut_at : (problems : List ProblemData) (cuts : List PartitionData) (k : ℕ) (p : ProblemData) (c : PartitionData) → AreCuts problems cuts → k < length problems → get_or problems k p ≡ p → get_or cuts k c ≡ c → IsPartitionOf p.limits c
cut_at [] cuts k p c h lt same own = absurd (omega arith)
cut_at (q ∷ problems) [] k p c h lt same own = absurd h
cut_at (q ∷ problems) (d ∷ cuts) zero p c h lt same own = subst (λ x. IsPartitionOf p.limits x) own (subst (λ x. IsPartitionOf x.limits d) same h.0)
cut_at (q ∷ problems) (d ∷ cuts) (suc k) p c h lt same own = cut_at problems cuts k p c h.1 (omega arith) same own

pieces_last : (problems : List ProblemData) (cuts : List PartitionData) (p : ProblemData) (c : PartitionData) → length problems ≡ length cuts → pieces_of (problems ++ p ∷ []) (cuts ++ c ∷ []) ≡ pieces_of problems cuts ++ pieces_in p c
pieces_last [] [] p c size = append-nil (pieces_in p c)
pieces_last [] (d ∷ cuts) p c size = absurd (omega arith)
pieces_last (q ∷ problems) [] p c size = absurd (omega arith)
pieces_last (q ∷ problems) (d ∷ cuts) p c size =
    ap (λ ps. pieces_in q d ++ ps) (pieces_last problems cuts p c (omega arith)) ∙ sym (append_assoc (pieces_in q d) (pieces_of problems cuts) (pieces_in p c))

-- the pieces of one problem more
pub pieces_more : (problems : List ProblemData) (cuts : List PartitionData) (k : ℕ) (p : ProblemData) (c : PartitionData) (pieces pieces' : List ProblemData) → length problems ≡ length cuts → k < length problems → get_or problems k p ≡ p → get_or cuts k c ≡ c →
    pieces' ≡ pieces ++ pieces_in p c → pieces ≡ pieces_of (take k problems) (take k cuts) → pieces' ≡ pieces_of (take (k + 1) problems) (take (k + 1) cuts)
pieces_more problems cuts k p c pieces pieces' size within is same more before =
    let first : take (k + 1) problems ≡ take k problems ++ p ∷ [] = take_more problems k p within ∙ ap (λ x. take k problems ++ x ∷ []) is in
    let cut : take (k + 1) cuts ≡ take k cuts ++ c ∷ [] = take_more cuts k c (omega arith) ∙ ap (λ x. take k cuts ++ x ∷ []) same in
    let sizes : length (take k problems) ≡ length (take k cuts) = length-take-le k problems (omega arith) ∙ sym (length-take-le k cuts (omega arith)) in
    more ∙ (ap (λ ps. ps ++ pieces_in p c) before
    ∙ (sym (pieces_last (take k problems) (take k cuts) p c sizes) ∙ (ap (λ ps. pieces_of ps (take k cuts ++ c ∷ [])) (sym first) ∙ ap (λ cs. pieces_of (take (k + 1) problems) cs) (sym cut))))

-- the pieces of one problem, and those of the problems behind it
pub left_in : (problems : List ProblemData) (cuts : List PartitionData) (k : ℕ) (p : ProblemData) (c : PartitionData) (solutions : List SolutionData) → k < length problems → k < length cuts → get_or problems k p ≡ p → get_or cuts k c ≡ c →
    AreSolved (pieces_of (drop k problems) (drop k cuts)) solutions → AreSolved (pieces_in p c ++ pieces_of (drop (k + 1) problems) (drop (k + 1) cuts)) solutions
left_in problems cuts k p c solutions within there is same solved =
    let first : drop k problems ≡ p ∷ drop (k + 1) problems = drop_more problems k p within ∙ ap (λ x. x ∷ drop (k + 1) problems) is in
    let cut : drop k cuts ≡ c ∷ drop (k + 1) cuts = drop_more cuts k c there ∙ ap (λ x. x ∷ drop (k + 1) cuts) same in
    subst (λ cs. AreSolved (pieces_of (p ∷ drop (k + 1) problems) cs) solutions) cut (subst (λ ps. AreSolved (pieces_of ps (drop k cuts)) solutions) first solved)

-- as many pieces as parts
pub pieces_length : (p : ProblemData) (parts : List (List ℕ)) → length (pieces_by p parts) ≡ length parts
pieces_length p [] = refl
pieces_length p (part ∷ []) = refl
pieces_length p (part ∷ (other ∷ parts)) = length-map (part ∷ (other ∷ parts)) (own_problem p.limits p.network)

-- the piece at the place of a part
pub piece_at : (p : ProblemData) (parts : List (List ℕ)) (at : ℕ) (d : ProblemData) → at < length parts → get_or (pieces_by p parts) at d ≡ part_at p parts at
piece_at p [] at d l = absurd (omega arith)
piece_at p (part ∷ []) zero d l = refl
piece_at p (part ∷ []) (suc at) d l = absurd (omega arith)
piece_at p (part ∷ (other ∷ parts)) at d l = get_or-map (own_problem p.limits p.network) (part ∷ (other ∷ parts)) at [] d l

-- the next piece of a problem behind those before
pub added : (p : ProblemData) (parts : List (List ℕ)) (at : ℕ) (before all all' : List ProblemData) → at < length parts → all' ≡ all ++ part_at p parts at ∷ [] → all ≡ before ++ take at (pieces_by p parts) → all' ≡ before ++ take (at + 1) (pieces_by p parts)
added p parts at before all all' l more is =
    let within : at < length (pieces_by p parts) = omega (arith, pieces_length p parts) in
    let next : take (at + 1) (pieces_by p parts) ≡ take at (pieces_by p parts) ++ part_at p parts at ∷ [] = take_more (pieces_by p parts) at p within ∙ ap (λ x. take at (pieces_by p parts) ++ x ∷ []) (piece_at p parts at p l) in
    more ∙ ap (λ xs. xs ++ part_at p parts at ∷ []) is ∙ append_assoc before (take at (pieces_by p parts)) (part_at p parts at ∷ []) ∙ ap (λ xs. before ++ xs) (sym next)

pub all_added : (p : ProblemData) (parts : List (List ℕ)) (at : ℕ) → length parts ≤ at → take at (pieces_by p parts) ≡ pieces_by p parts
all_added p parts at all = take_all at (pieces_by p parts) (omega (arith, pieces_length p parts))

-- where there is one part, the piece is the problem, and else the part's own one
pub one_part : (p : ProblemData) (parts : List (List ℕ)) (at : ℕ) → length parts ≡ 1 → part_at p parts at ≡ p
one_part p [] at one = absurd (omega arith)
one_part p (part ∷ []) at one = refl
one_part p (part ∷ (other ∷ parts)) at one = absurd (omega arith)

pub more_parts : (p : ProblemData) (parts : List (List ℕ)) (at : ℕ) → length parts ≢ 1 → part_at p parts at ≡ own_problem p.limits p.network (get_or parts at [])
more_parts p [] at more = refl
more_parts p (part ∷ []) at more = absurd (more refl)
more_parts p (part ∷ (other ∷ parts)) at more = refl

pub only_part : (parts : List (List ℕ)) (part : List ℕ) → length parts ≡ 1 → get_or parts 0 part ≡ part → parts ≡ part ∷ []
only_part [] part one is = absurd (omega arith)
only_part (first ∷ []) part one is = ap (λ p. p ∷ []) is
only_part (first ∷ (other ∷ parts)) part one is = absurd (omega arith)

-- the same of all pieces
pub one_piece : (p : ProblemData) (parts : List (List ℕ)) → length parts ≡ 1 → pieces_by p parts ≡ p ∷ []
one_piece p [] one = absurd (omega arith)
one_piece p (part ∷ []) one = refl
one_piece p (part ∷ (other ∷ parts)) one = absurd (omega arith)

pub more_pieces : (p : ProblemData) (parts : List (List ℕ)) → length parts ≢ 1 → pieces_by p parts ≡ map (own_problem p.limits p.network) parts
more_pieces p [] more = refl
more_pieces p (part ∷ []) more = absurd (more refl)
more_pieces p (part ∷ (other ∷ parts)) more = refl

-- there are solutions for the first
pub enough : (ps qs : List ProblemData) (solutions : List SolutionData) → AreSolved (ps ++ qs) solutions → length ps ≤ length solutions
enough ps qs solutions h = let size = solved_length (ps ++ qs) solutions h in omega (arith, length-append ps qs)
