use Rattle.std.proofs.Common.{◌≡◌, ◌++◌, get_or, take, sym, ap, ◌∙◌, rules}
use Rattle.std.specs.List.{flat_map}
use Rattle.std.proofs.lemmas.List.{take_more, flat_map_more}
use Rattle.std.proofs.lemmas.List.Elements.{All-more}
use Rattle.network_laws.specs.Solutions.{SolutionData, IsSolution}
use Rattle.command_types.specs.Spelling.{solution_spelling}
use Rattle.record_codec.proofs.put_solution.put_each.Goals as goal

pub loop-solution-preserved : goal.loop-solution-preserved
loop-solution-preserved c =
    let solutions = c.args.solutions.now in
    let i = c.loop-solution.solution-index in
    let item : SolutionData = c.solution-item.result in
    let form : IsSolution (get_or solutions i item) = search (rules, c.solution-item.is, c.in_ok-put_solution.ensures.form) in
    let appends : c.put_solution.new.out.items ≡ c.loop-solution.out.items ++ solution_spelling (get_or solutions i item) = search (rules, c.solution-item.is, c.in_ok-put_solution.ensures.appends) in (
      appends
          ∙ ap (λ (bytes : _). bytes ++ solution_spelling (get_or solutions i item)) c.loop-solution.invariant.0
          ∙ flat_map_more solution_spelling c.args.out.now.items (take i solutions) (get_or solutions i item)
          ∙ ap (λ (xs : _). c.args.out.now.items ++ flat_map solution_spelling xs) (sym (take_more solutions i item c.loop-solution-test.true)),
      All-more IsSolution solutions i item c.loop-solution-test.true c.loop-solution.invariant.1 form,
    )
