-- One row more of a part.
use Rattle.std.proofs.Common.{◌≡◌, ◌≢◌, ◌∙◌, sym, ap, refl, ℕ, zero, suc, ◌+◌, ◌-◌, ◌<◌, ◌≤◌, ◌^◌, List, [], ◌∷◌, ◌++◌, length, get_or, Bool, true, false, not, ◌&&◌, cond, eqb, is_some, nat_le, ℤ, rules, Some, None, arith, ⊎_elim}
use Rattle.std.proofs.lemmas.Bool.{cases_eq, ltb-true, leb-true, eqb-false}
use Rattle.std.proofs.lemmas.Bool.Decides.{nat_tests}
use Rattle.std.proofs.lemmas.List.Elements.{All-push}
use Rattle.std.proofs.lemmas.List.Quantifiers.{all_pairs_push}
use Rattle.std.proofs.lemmas.List.Sums.{sum_by_push}
use Rattle.std.proofs.lemmas.Option.{slice_get_read}
use Rattle.std.specs.List.{slice_get}
use Rattle.std.specs.Str.{bytes_eq}
use Rattle.network_laws.specs.declared.rows.Row.{Row}
use Rattle.network_laws.specs.Networks.{place, total as total_of, AreRows, IsGoodRow, IsRising}
use Rattle.command_types.specs.declared.roster.MemberRow.{MemberRow}
use Rattle.command_types.specs.Roster.{Rows, is_member_at, is_member_row}
use Rattle.dual_certificate.specs.declared.proposal_draft.ProposalDraft.{ProposalDraft}
use Rattle.dual_certificate.specs.declared.proposal_line.Figures.{Figures}
use Rattle.dual_certificate.specs.Proposal.{is_behind, fits, finished, with_finished, with_bound, with_network_row, with_pot}
use Rattle.dual_certificate.specs.ProposalDraft.{reading_of, IsDraft}

pub got : (rows : List Row) (k : ℕ) (d : Row) → k < length rows → slice_get rows k ≡ Some (get_or rows k d)
got [] k d l = absurd (omega arith)
got (x ∷ rows) zero d l = refl
got (x ∷ rows) (suc k) d l = got rows k d (omega arith)

-- a row behind the last one stands behind all
behind_all : (rows : List Row) (row : Row) → IsRising rows → is_behind (slice_get rows (length rows - 1)) row ≡ true → (k : ℕ) (d : Row) → k < length rows → place (get_or rows k d) < place row
behind_all rows row rising h k d l =
    let last = length rows - 1 in
    let there : last < length rows = omega arith in
    let below = ltb-true _ _ (rw (got rows last d there) at h) in
    ⊎_elim (λ (e : k ≡ last). omega (arith, below, ap (λ n. place (get_or rows n d)) e))
    (λ (n : k ≢ last). omega (arith, below, rising k last d (omega arith) there))
    (cases_eq k last)

pub rows_push : (n : ℕ) (rows : List Row) (row : Row) → AreRows n rows → IsGoodRow n row → is_behind (slice_get rows (length rows - 1)) row ≡ true → total_of rows + row.amount ≤ 10 ^ 18
    → AreRows n (rows ++ (row ∷ []))
rows_push n rows row h good behind within = record {
  good = All-push (IsGoodRow n) rows row h.good good;
  rising = all_pairs_push (λ (a b : Row). place a < place b) rows row h.rising (behind_all rows row h.rising behind);
  within = omega (arith, within, sum_by_push (λ (r : Row). r.amount) rows row);
}

not_true : (b : Bool) → not b ≡ true → b ≡ false
not_true true h = absurd cc
not_true false h = refl

all_three : (a b c : Bool) → (a && b && c) ≡ true → (a ≡ true) × (b ≡ true) × (c ≡ true)
all_three true true true h = (refl, refl, refl)
all_three true true false h = absurd cc
all_three true false c h = absurd cc
all_three false b c h = absurd cc

same_eqb : (a b : ℕ) → a ≡ b → eqb a b ≡ true
same_eqb a b e = grind (arith, nat_tests)

-- a draft with one row more keeps its rows and their total
pub row_kept : (roster : Rows) (d new : ProposalDraft) (row : Row) → IsDraft roster d → row.seller < length roster.members → row.buyer < length roster.members → 1 ≤ row.amount
    → fits d.rows.items row ≡ true → new.rows.items ≡ d.rows.items ++ (row ∷ []) → new.total ≡ d.total + row.amount → new.potentials.items ≡ d.potentials.items
    → new.parts.items ≡ d.parts.items → IsDraft roster new
row_kept roster d new row draft seller buyer positive fine rows total potentials parts =
    let three = all_three (not (eqb row.seller row.buyer)) (is_behind (slice_get d.rows.items (length d.rows.items - 1)) row) (nat_le (total_of d.rows.items + row.amount) 1000000000000000000) fine in
    let differ : row.seller ≢ row.buyer = eqb-false row.seller row.buyer (not_true (eqb row.seller row.buyer) three.0) in
    let within : total_of d.rows.items + row.amount ≤ 1000000000000000000 = leb-true _ _ three.2 in
    let good : IsGoodRow (length roster.members) row = record { seller = seller; buyer = buyer; different = differ; positive = positive } in
    let pushed = rows_push (length roster.members) d.rows.items row draft.rows good three.1 within in
    let sum : total_of (d.rows.items ++ (row ∷ [])) ≡ total_of d.rows.items + row.amount = sum_by_push (λ (r : Row). r.amount) d.rows.items row in
    record {
      rows = rw rows pushed;
      all = total ∙ ap (λ t. t + row.amount) draft.all ∙ sym sum ∙ ap total_of (sym rows);
      in_range = rw potentials draft.in_range;
      good = rw parts draft.good;
    }

-- and is what is due
pub row_due : (d new : ProposalDraft) (row : Row) → is_some d.figures ≡ true → length d.potentials.items ≡ 0 → fits d.rows.items row ≡ true
    → reading_of new ≡ record (reading_of d) { rows = d.rows.items ++ (row ∷ []) } → with_network_row (reading_of d) row ≡ Some (reading_of new)
row_due d new row begun none fine is =
    let r = record (reading_of d) { rows = d.rows.items ++ (row ∷ []) } in
    ap (λ b. cond (b && eqb (length d.potentials.items) 0 && fits d.rows.items row) (Some r) None) begun
    ∙ ap (λ b. cond (b && fits d.rows.items row) (Some r) None) (same_eqb _ 0 none)
    ∙ ap (λ b. cond b (Some r) None) fine
    ∙ ap Some (sym is)

-- the member at a place has this name
pub member_at : (roster : Rows) (members : List MemberRow) (place size : ℕ) (row : MemberRow) (name : List ℕ) → members ≡ roster.members → place ≡ size → place < length members → row ≡ get_or members place row
    → bytes_eq row.name name ≡ true → is_member_at roster size name ≡ true
member_at roster members place size row name m s l is same =
    let at : slice_get members place ≡ Some row = slice_get_read members (length members) place row refl l is in
    ap (λ k. is_member_at roster k name) (sym s) ∙ ap (λ (ms : List MemberRow). is_member_row (slice_get ms place) name) (sym m) ∙ ap (λ o. is_member_row o name) at ∙ same

-- a potential more is due
pub pot_due : (roster : Rows) (d new : ProposalDraft) (name : List ℕ) (value : ℤ) → is_some d.figures ≡ true → is_member_at roster (length d.potentials.items) name ≡ true
    → reading_of new ≡ record (reading_of d) { potentials = d.potentials.items ++ (value ∷ []) } → with_pot roster (reading_of d) name value ≡ Some (reading_of new)
pot_due roster d new name value begun named is =
    let r = record (reading_of d) { potentials = d.potentials.items ++ (value ∷ []) } in
    ap (λ b. cond (b && is_member_at roster (length d.potentials.items) name) (Some r) None) begun
    ∙ ap (λ b. cond b (Some r) None) named
    ∙ ap Some (sym is)

pub no_rows : (n : ℕ) → AreRows n []
no_rows n = record { good = search rules; rising = search rules; within = omega arith }

-- a part more is due
pub part_due : (roster : Rows) (d new : ProposalDraft) (figures : Figures) (value : ℕ) → d.figures ≡ Some figures → length d.potentials.items ≡ length roster.members
    → reading_of new ≡ record (reading_of d) { parts = d.parts.items ++ (finished roster (reading_of d) figures value ∷ []); figures = None; rows = []; potentials = [] }
    → with_bound roster (reading_of d) value ≡ Some (reading_of new)
part_due roster d new figures value begun each is =
    let r = record (reading_of d) { parts = d.parts.items ++ (finished roster (reading_of d) figures value ∷ []); figures = None; rows = []; potentials = [] } in
    ap (λ o. with_finished roster (reading_of d) o value) begun
    ∙ ap (λ b. cond b (Some r) None) (same_eqb _ _ each)
    ∙ ap Some (sym is)
