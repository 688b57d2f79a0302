use Rattle.std.proofs.Common.{◌≡◌, ◌∙◌, ap, false, List, ℕ, ◌++◌, ◌∷◌, []}
use Rattle.std.specs.List.{list_any}
use Rattle.std.specs.Str.{bytes_eq}
use Rattle.units_core.specs.contracts.name.NamePartialEq.TheImpl.{eq-value}
use Rattle.units_core.proofs.NameTests.{same_test}
use Rattle.trade_file.proofs.names.Names.add.Goals as goal

pub returns : goal.returns
returns c =
    let free : list_any (eq-value.it c.args.name) c.self.inside.names.keys ≡ false =
    ap (λ p. list_any p c.self.inside.names.keys) (same_test c.args.name) ∙ ap (list_any (bytes_eq c.args.name)) c.self.view_is ∙ c.requires in
    let keys : c.insert_full.new.self.keys ≡ c.self.inside.names.keys ++ (c.args.name ∷ []) = rw free at c.in_ok-insert_full.ensures.keys in
    keys ∙ ap (λ (ks : List (List ℕ)). ks ++ (c.args.name ∷ [])) c.self.view_is
