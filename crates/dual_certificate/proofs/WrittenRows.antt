-- A row of a network fits behind those before it.
use Rattle.std.proofs.Common.{◌≡◌, ◌∙◌, ap, refl, subst, ℕ, ◌+◌, ◌-◌, ◌<◌, ◌≤◌, ◌^◌, List, [], ◌∷◌, ◌++◌, length, get_or, true, not, ◌&&◌, eqb, nat_le, arith, length-append}
use Rattle.std.proofs.lemmas.Bool.{and_from, le-leb, lt-ltb, ne_eqb, not_from_false}
use Rattle.std.proofs.lemmas.List.{get_or_append_left, get_or_at}
use Rattle.std.proofs.lemmas.List.Sums.{sum_by-append, sum_by-cons}
use Rattle.std.specs.List.{slice_get}
use Rattle.network_laws.specs.declared.rows.Row.{Row}
use Rattle.network_laws.specs.Networks.{place, total, AreRows, IsGoodRow, IsRising}
use Rattle.dual_certificate.specs.Proposal.{is_behind, fits}
use Rattle.dual_certificate.proofs.DraftFacts.{got}

behind_last : (done : List Row) (row : Row) (rest : List Row) → IsRising (done ++ (row ∷ rest)) → is_behind (slice_get done (length done - 1)) row ≡ true
behind_last [] row rest rising = refl
behind_last (x ∷ xs) row rest rising =
    let done : List Row = x ∷ xs in
    let last = length done - 1 in
    let there : last < length done = omega arith in
    let longer : length done < length (done ++ (row ∷ rest)) = omega (arith, length-append done (row ∷ rest)) in
    let left : get_or (done ++ (row ∷ rest)) last x ≡ get_or done last x = get_or_append_left done (row ∷ rest) x last there in
    let here : get_or (done ++ (row ∷ rest)) (length done) x ≡ row = get_or_at done row rest x (length done) refl in
    let below : place (get_or done last x) < place row = omega (arith, rising last (length done) x there longer, ap place left, ap place here) in
    ap (λ o. is_behind o row) (got done last x there) ∙ lt-ltb (place (get_or done last x)) (place row) below

pub good_at : (members : ℕ) (done : List Row) (row : Row) (rest : List Row) → AreRows members (done ++ (row ∷ rest)) → IsGoodRow members row
good_at members done row rest are =
    subst (IsGoodRow members) (get_or_at done row rest row (length done) refl) (are.good (length done) row (omega (arith, length-append done (row ∷ rest))))

pub total_at : (members : ℕ) (done : List Row) (row : Row) (rest : List Row) → AreRows members (done ++ (row ∷ rest)) → total done + row.amount ≤ 10 ^ 18
total_at members done row rest are =
    omega (arith, are.within, sum_by-append (λ (r : Row). r.amount) done (row ∷ rest), sum_by-cons (λ (r : Row). r.amount) row rest)

pub fits_at : (members : ℕ) (done : List Row) (row : Row) (rest : List Row) → AreRows members (done ++ (row ∷ rest)) → fits done row ≡ true
fits_at members done row rest are =
    let good = good_at members done row rest are in
    let different = not_from_false (eqb row.seller row.buyer) (ne_eqb row.seller row.buyer good.different) in
    and_from (not (eqb row.seller row.buyer) && is_behind (slice_get done (length done - 1)) row) (nat_le (total done + row.amount) 1000000000000000000)
    (and_from (not (eqb row.seller row.buyer)) (is_behind (slice_get done (length done - 1)) row) different (behind_last done row rest are.rising))
    (le-leb (total done + row.amount) 1000000000000000000 (total_at members done row rest are))
