use Rattle.std.proofs.Common.{◌∙◌, ap}
use Rattle.std.specs.List.{list_any}
use Rattle.std.specs.Str.{bytes_eq}
use Rattle.units_core.proofs.NameTests.{same_test}
use Rattle.trade_file.proofs.names.Names.has.Goals as goal

pub returns : goal.returns
returns c =
    c.contains.ensures ∙ ap (λ p. list_any p c.self.inside.names.keys) (same_test c.args.name) ∙ ap (list_any (bytes_eq c.args.name)) c.self.view_is
