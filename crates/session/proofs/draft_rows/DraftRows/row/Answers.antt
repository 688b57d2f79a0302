use Rattle.std.proofs.Common.{rules, ◌≡◌, ◌∙◌, ℕ, List, Some, true, unwrap_or, sym, ap, subst}
use Rattle.std.proofs.lemmas.Slice.Eq.{bytes_eq-Decides}
use Rattle.std.specs.Map.{lookup}
use Rattle.std.specs.Str.{bytes_eq}
use Rattle.command_types.specs.Session.{draft_amount}
use Rattle.session.specs.contracts.draft_rows.PairKeyPartialEq.TheImpl.{eq-value as pair_eq}
use Rattle.session.specs.declared.draft_rows.PairKey.{PairKey}
use Rattle.session.specs.Drafts.{rows_of, is_same_pair, AreFound, NoneWithItself}
use Rattle.session.proofs.KeyFacts.{pair_test}
use Rattle.session.proofs.draft_rows.DraftRows.row.Goals as goal

of_itself : (key : PairKey) (amount : ℕ) (entries : List (PairKey × ℕ)) → lookup (pair_eq.it key) entries ≡ Some amount → AreFound entries → NoneWithItself entries → bytes_eq key.seller key.buyer ≡ true → amount ≡ 0
of_itself key amount entries value found parted same =
    let is : lookup (is_same_pair key) entries ≡ Some amount = ap (λ test. lookup (test key) entries) (sym pair_test) ∙ value in
    let has : amount ≡ draft_amount key.product key.seller key.buyer (rows_of entries) = sym (found key ∙ ap (λ o. unwrap_or o 0) is) in
    has ∙ subst (λ buyer. draft_amount key.product key.seller buyer (rows_of entries) ≡ 0) ((bytes_eq-Decides key.seller key.buyer).0 same) (parted key.product key.seller)

pub returns-clause-parties : goal.returns-clause-parties
returns-clause-parties c = λ same.
    let value : lookup (pair_eq.it c.in-Some.key.now) c.args.self.now.rows.entries ≡ Some c.in-Some.amount.now = search rules in
    of_itself c.in-Some.key.now c.in-Some.amount.now c.args.self.now.rows.entries value c.args.self.now.found c.args.self.now.parted same
