use Rattle.std.proofs.Common.{◌≡◌, ◌<◌, ◌≤◌, ◌∙◌, ◌++◌, List, [], ◌∷◌, length, ap, sym, subst, arith}
use Rattle.std.specs.Prelude.{All, map}
use Rattle.std.proofs.lemmas.List.{append-nil, map-append}
use Rattle.std.proofs.lemmas.List.Elements.{All-append, All-cons, All-nil}
use Rattle.network_laws.specs.Solutions.{ProblemData}
use Rattle.parallel_solver.specs.Cuts.{pieces_in}
use Rattle.parallel_solver.specs.declared.pieces.Piece.{Piece}
use Rattle.parallel_solver.specs.Pieces.{piece_of, IsPiece}
use Rattle.parallel_solver.proofs.Pieced.{added, all_added}
use Rattle.parallel_solver.proofs.pieces.Pieces.add.Goals as goal

pub loop-at-init : goal.loop-at-init
loop-at-init c = record { pieces = sym (append-nil (map piece_of c.self.inside.pieces.items)); sound = c.self.invariant }

pub invariant_of-self : goal.invariant_of-self
invariant_of-self c = c.loop-at.invariant.sound

pub invariant_of-self-in_err-push : goal.invariant_of-self-in_err-push
invariant_of-self-in_err-push c = subst (λ (xs : List Piece). All IsPiece xs) (sym c.in_err-push.ensures.items) c.loop-at.invariant.sound

pub loop-at-preserved : goal.loop-at-preserved
loop-at-preserved c =
    let i = c.loop-at.invariant in
    let before = c.loop-at.self-inside.pieces.items in
    let piece : Piece = record { problem = c.args.problem; partition = c.args.partition; at = c.loop-at.at } in
    let all : map piece_of c.push.new.self.items ≡ map piece_of before ++ piece_of piece ∷ [] = ap (map piece_of) c.in_ok-push.ensures.items ∙ map-append piece_of before (piece ∷ []) in
    let here : c.loop-at.at < length c.args.partition.now.parts = let size = ap length c.parts-at-end.ensures in omega (arith, c.loop-at-test.true) in
    record {
      pieces = added c.args.problem.now c.args.partition.now.parts c.loop-at.at (map piece_of c.self.inside.pieces.items) (map piece_of before) (map piece_of c.push.new.self.items) here all i.pieces;
      sound = subst (λ (xs : List Piece). All IsPiece xs) (sym c.in_ok-push.ensures.items) (All-append IsPiece before (piece ∷ []) i.sound (All-cons IsPiece piece [] (record { parts = c.requires; here = here }) (All-nil IsPiece)));
    }

pub returns : goal.returns
returns c =
    let i = c.loop-at.invariant in
    let own = pieces_in c.args.problem.now c.args.partition.now in
    let before : map piece_of c.self.inside.pieces.items ≡ c.args.self.now = c.self.view_is in
    let end : length c.args.partition.now.parts ≤ c.loop-at.at = let size = ap length c.parts-at-end.ensures in omega (arith, c.loop-at-test.false) in
    i.pieces ∙ ap (λ (ps : List ProblemData). map piece_of c.self.inside.pieces.items ++ ps) (all_added c.args.problem.now c.args.partition.now.parts c.loop-at.at end) ∙ ap (λ (ps : List ProblemData). ps ++ own) before
