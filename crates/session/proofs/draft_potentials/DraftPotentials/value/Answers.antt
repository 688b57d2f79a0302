use Rattle.std.proofs.Common.{◌≡◌, ◌∙◌, sym, ap, subst, unwrap_or, pos}
use Rattle.std.proofs.lemmas.Int.{to_z-of_z}
use Rattle.std.specs.Map.{lookup}
use Rattle.network_laws.specs.Solutions.{IsPotential}
use Rattle.command_types.specs.Session.{draft_potential}
use Rattle.session.specs.Kept.{kept_potentials}
use Rattle.session.proofs.KeyFacts.{place_test}
use Rattle.session.proofs.PotentialFacts.{potential_found, potential_fits}
use Rattle.session.proofs.draft_potentials.DraftPotentials.value.Goals as goal
use mir.Syntax.{w32}
use mir.Val.{to_z, of_z}

pub returns : goal.returns
returns c =
    let entries = c.args.self.now.values.entries in
    let key = c.args.key.now in
    let value = draft_potential key.product key.member (kept_potentials c.args.self.now) in
    let in_range = c.args.self.now.in_range key.product key.member in
    let is : c.unwrap_or.result ≡ value =
    c.unwrap_or.ensures ∙ ap (λ o. unwrap_or o (pos 0)) (c.copied.ensures ∙ c.get.ensures.value ∙ ap (λ test. lookup (test key) entries) place_test)
    ∙ sym (potential_found key entries) in
    let again : to_z w32 (of_z w32 c.unwrap_or.result) ≡ value = ap (λ v. to_z w32 (of_z w32 v)) is ∙ to_z-of_z w32 value (potential_fits value in_range) in
    record { value = again; in_range = subst IsPotential (sym again) in_range }
