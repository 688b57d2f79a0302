use Rattle.std.proofs.Common.{◌≡◌, ◌++◌, List, ℕ, get_or, take, sym, ap, ◌∙◌, rules}
use Rattle.std.specs.List.{flat_map}
use Rattle.std.proofs.lemmas.List.{take_more, flat_map_more}
use Rattle.std.proofs.lemmas.List.Elements.{All-more}
use Rattle.command_types.specs.Spelling.{name_spelling}
use Rattle.base_codec.proofs.BaseKinds.{IsName}
use Rattle.base_codec.proofs.put.put_each_name.Goals as goal

pub loop-name-preserved : goal.loop-name-preserved
loop-name-preserved c =
    let names = c.args.names.now in
    let i = c.loop-name.name-index in
    let item : List ℕ = c.name-item.result in
    let form : IsName (get_or names i item) = search (rules, c.name-item.is, c.in_ok-put_name.ensures.form) in
    let appends : c.put_name.new.out.items ≡ c.loop-name.out.items ++ name_spelling (get_or names i item) = search (rules, c.name-item.is, c.in_ok-put_name.ensures.appends) in (
      appends
          ∙ ap (λ (bytes : _). bytes ++ name_spelling (get_or names i item)) c.loop-name.invariant.0
          ∙ flat_map_more name_spelling c.args.out.now.items (take i names) (get_or names i item)
          ∙ ap (λ (xs : _). c.args.out.now.items ++ flat_map name_spelling xs) (sym (take_more names i item c.loop-name-test.true)),
      All-more IsName names i item c.loop-name-test.true c.loop-name.invariant.1 form,
    )
