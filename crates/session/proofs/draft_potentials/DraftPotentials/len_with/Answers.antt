use Rattle.std.proofs.Common.{◌≡◌, ◌∙◌, sym, ap, is_some, true, false, arith}
use Rattle.std.specs.Map.{lookup}
use Rattle.session.specs.Drafts.{is_same_place}
use Rattle.session.proofs.PotentialFacts.{length_with, length_potentials}
use Rattle.session.proofs.KeyFacts.{place_test}
use Rattle.session.proofs.draft_potentials.DraftPotentials.len_with.Goals as goal

pub returns-then-contains_key-clause-len : goal.returns-then-contains_key-clause-len
returns-then-contains_key-clause-len c = λ value.
    let entries = c.args.self.now.values.entries in
    let found : is_some (lookup (is_same_place c.args.key.now) entries) ≡ true =
    sym (c.contains_key.ensures ∙ ap (λ test. is_some (lookup (test c.args.key.now) entries)) place_test) ∙ c.if-contains_key.true in
    let size = rw found at (length_with c.args.key.now value entries) in
    omega (arith, size, c.len.ensures.len)

pub returns-clause-len : goal.returns-clause-len
returns-clause-len c = λ value.
    let entries = c.args.self.now.values.entries in
    let found : is_some (lookup (is_same_place c.args.key.now) entries) ≡ false =
    sym (c.contains_key.ensures ∙ ap (λ test. is_some (lookup (test c.args.key.now) entries)) place_test) ∙ c.if-contains_key.false in
    let size = rw found at (length_with c.args.key.now value entries) in
    omega (arith, size, c.len-2.ensures.len)

pub returns-then-contains_key-clause-most : goal.returns-then-contains_key-clause-most
returns-then-contains_key-clause-most c = omega (arith, length_potentials c.args.self.now.values.entries, c.len.ensures.len)

pub returns-clause-most : goal.returns-clause-most
returns-clause-most c = omega (arith, length_potentials c.args.self.now.values.entries, c.len-2.ensures.len)
