use Rattle.std.proofs.Common.{◌≡◌, ◌∙◌, sym, ap, is_some, true, false, arith}
use Rattle.std.specs.Map.{lookup}
use Rattle.session.specs.Drafts.{is_same_pair}
use Rattle.session.proofs.DraftRowFacts.{length_with, length_rows}
use Rattle.session.proofs.KeyFacts.{pair_test}
use Rattle.session.proofs.draft_rows.DraftRows.len_with.Goals as goal

pub returns-then-contains_key-clause-len : goal.returns-then-contains_key-clause-len
returns-then-contains_key-clause-len c = λ amount.
    let entries = c.args.self.now.rows.entries in
    let found : is_some (lookup (is_same_pair c.args.key.now) entries) ≡ true =
    sym (c.contains_key.ensures ∙ ap (λ test. is_some (lookup (test c.args.key.now) entries)) pair_test) ∙ c.if-contains_key.true in
    let size = rw found at (length_with c.args.key.now amount entries) in
    omega (arith, size, c.len.ensures.len)

pub returns-clause-len : goal.returns-clause-len
returns-clause-len c = λ amount.
    let entries = c.args.self.now.rows.entries in
    let found : is_some (lookup (is_same_pair c.args.key.now) entries) ≡ false =
    sym (c.contains_key.ensures ∙ ap (λ test. is_some (lookup (test c.args.key.now) entries)) pair_test) ∙ c.if-contains_key.false in
    let size = rw found at (length_with c.args.key.now amount entries) in
    omega (arith, size, c.len-2.ensures.len)

pub returns-then-contains_key-clause-most : goal.returns-then-contains_key-clause-most
returns-then-contains_key-clause-most c = omega (arith, length_rows c.args.self.now.rows.entries, c.len.ensures.len)

pub returns-clause-most : goal.returns-clause-most
returns-clause-most c = omega (arith, length_rows c.args.self.now.rows.entries, c.len-2.ensures.len)
