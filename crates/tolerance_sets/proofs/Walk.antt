-- The walk over the pairs: what is found at a pair, and the rows so far.
use Rattle.std.proofs.Common.{◌≡◌, ℕ, ◌+◌, ◌++◌, List, length, sym, ap, ◌∙◌, add-one}
use Rattle.std.proofs.lemmas.List.{append_assoc}
use Rattle.network_laws.specs.declared.rows.LimitRow.{LimitRow}
use Rattle.network_laws.specs.declared.rows.Row.{Row}
use Rattle.network_laws.specs.Networks.{NetworkData}
use Rattle.network_laws.specs.Limits.{LimitsData}
use Rattle.command_types.specs.Books.{listed_below, listed_pairs}
use Rattle.command_types.specs.declared.cycle.Mode.{Mode}
use Rattle.command_types.specs.declared.roster.MemberRow.{MemberRow}
use Rattle.command_types.specs.declared.tolerance.ToleranceRow.{ToleranceRow}
use Rattle.command_types.specs.Tolerances.{pair_limit, limits_of}

abbrev pub limits_by : ℕ → List LimitRow → LimitsData
limits_by members rows = record { members = members; rows = rows }

pub listed_below-next : {T : Type 0} (n : ℕ) (f : ℕ → List T) → listed_below (n + 1) f ≡ listed_below n f ++ f n
listed_below-next n f = ap (λ k. listed_below k f) (add-one n)

-- the rows of one more place
pub one_more : {T : Type 0} (n : ℕ) (f : ℕ → List T) (start before after more : List T) → before ≡ start ++ listed_below n f → after ≡ before ++ more → more ≡ f n → after ≡ start ++ listed_below (n + 1) f
one_more n f start before after more e e' e'' =
    e' ∙ ap (λ xs. xs ++ more) e ∙ ap (λ xs. (start ++ listed_below n f) ++ xs) e'' ∙ append_assoc start (listed_below n f) (f n) ∙ ap (λ xs. start ++ xs) (sym (listed_below-next n f))

-- the rows of all pairs are those of the limits
pub limits_from : (mode : Mode) (members : List MemberRow) (settings : List ToleranceRow) (product : ℕ) (network held : NetworkData) (amounts held_amounts : List Row) (rows : List LimitRow) → amounts ≡ network.rows → held_amounts ≡ held.rows →
    rows ≡ listed_pairs (length members) (pair_limit mode members settings product (record { members = length members; rows = amounts }) (record { members = length members; rows = held_amounts })) → limits_by (length members) rows ≡ limits_of mode members settings product network held
limits_from mode members settings product network held amounts held_amounts rows e e' e'' =
    let n = length members in
    let made : List Row → List Row → LimitsData = λ a b. limits_by n (listed_pairs n (pair_limit mode members settings product (record { members = n; rows = a }) (record { members = n; rows = b }))) in
    ap (limits_by n) e'' ∙ ap (λ a. made a held_amounts) e ∙ ap (made network.rows) e'
