use Rattle.std.proofs.Common.{◌∙◌, take, ap, sym, arith}
use Rattle.std.proofs.lemmas.List.{take_all}
use Rattle.parallel_solver.specs.Cuts.{pieces_of}
use Rattle.parallel_solver.proofs.Pieced.{cut_at, cuts_length, pieces_more}
use Rattle.parallel_solver.proofs.pieces.Pieces.of.Goals as goal

pub bounds-cuts-at : goal.bounds-cuts-at
bounds-cuts-at c = omega (arith, c.loop-at-test.true, cuts_length c.args.problems.now c.args.cuts.now c.requires)

pub add-requires : goal.add-requires
add-requires c = cut_at c.args.problems.now c.args.cuts.now c.loop-at.at c.index-problems-at.result c.index-cuts-at.result c.requires c.loop-at-test.true (sym c.index-problems-at.is) (sym c.index-cuts-at.is)

pub loop-at-preserved : goal.loop-at-preserved
loop-at-preserved c =
    pieces_more c.args.problems.now c.args.cuts.now c.loop-at.at c.index-problems-at.result c.index-cuts-at.result c.loop-at.pieces c.add.new.self (cuts_length c.args.problems.now c.args.cuts.now c.requires) c.loop-at-test.true
    (sym c.index-problems-at.is) (sym c.index-cuts-at.is) c.in_ok-add.ensures c.loop-at.invariant

pub returns : goal.returns
returns c =
    let problems = c.args.problems.now in
    let cuts = c.args.cuts.now in
    let at = c.loop-at.at in
    let end = c.loop-at-test.false in
    c.loop-at.invariant ∙ ap (λ ps. pieces_of ps (take at cuts)) (take_all at problems end) ∙ ap (λ cs. pieces_of problems cs) (take_all at cuts (omega (arith, end, cuts_length problems cuts c.requires)))
