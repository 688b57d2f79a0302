-- The first product that fails is where none did before.
use Rattle.std.proofs.Common.{◌≡◌, ◌≢◌, ◌∙◌, sym, ap, refl, ℕ, zero, suc, ◌+◌, ◌<◌, List, length, get_or, Option, Some, None, Result, Ok, subst, arith, add-one, ⊎_elim}
use Rattle.std.specs.Prelude.{IfOk}
use Rattle.std.specs.declared.alloc.AllocError.{AllocError}
use Rattle.std.specs.Option.{option_or}
use Rattle.std.specs.List.{slice_get}
use Rattle.std.proofs.lemmas.Bool.{cases_eq}
use Rattle.std.proofs.lemmas.Option.{slice_get_read}
use Rattle.network_laws.specs.Networks.{NetworkData}
use Rattle.command_types.specs.declared.cycle.Mode.{Mode}
use Rattle.command_types.specs.Roster.{Rows}
use Rattle.dual_certificate.specs.declared.proposal_part.ProposalPart.{ProposalPart}
use Rattle.file_market.specs.declared.failing.Failure.{Failure}
use Rattle.file_market.specs.declared.failing.Failing.{Failing}
use Rattle.file_market.specs.Check.{part_failure, failing_at, failing_product, FailsSo, first_failing_below}

module _ (rows : Rows) (mode : Mode) (networks : List NetworkData) (parts : List ProposalPart) where
  found_at : ℕ → Option Failing
  found_at k = failing_product rows mode k (slice_get networks k) (slice_get parts k)

  -- what the test of a product finds is what is due for it
  pub due : (k : ℕ) (network : NetworkData) (part : ProposalPart) (reason : Option Failure) → k < length networks → k < length parts
      → network ≡ get_or networks k network → part ≡ get_or parts k part → reason ≡ part_failure rows mode k network part → FailsSo rows mode networks parts k reason
  unfolding found_at
  due k network part reason in_networks in_parts is_network is_part e =
      ap (λ o. failing_product rows mode k o (slice_get parts k)) (slice_get_read networks (length networks) k network refl in_networks is_network)
      ∙ ap (λ o. failing_product rows mode k (Some network) o) (slice_get_read parts (length parts) k part refl in_parts is_part)
      ∙ ap (failing_at k) (sym e)

  found : (n k : ℕ) (c : Failing) → k < n → first_failing_below rows mode networks parts k ≡ None → found_at k ≡ Some c → first_failing_below rows mode networks parts n ≡ Some c
  unfolding found_at
  found zero k c l before here = absurd (omega arith)
  found (suc n) k c l before here =
      ⊎_elim (λ (e : k ≡ n). ap (λ m. option_or (first_failing_below rows mode networks parts m) (found_at n)) (sym e) ∙ ap (λ o. option_or o (found_at n)) before ∙ ap found_at (sym e) ∙ here)
      (λ (ne : k ≢ n). ap (λ o. option_or o (found_at n)) (found n k c (omega arith) before here))
      (cases_eq k n)

  pub found_first : (n k : ℕ) (reason : Failure) → k < n → first_failing_below rows mode networks parts k ≡ None → FailsSo rows mode networks parts k (Some reason)
      → first_failing_below rows mode networks parts n ≡ Some (record { product = k; failure = reason })
  unfolding found_at
  found_first n k reason l before so = found n k (record { product = k; failure = reason }) l before so

  next : (k : ℕ) → first_failing_below rows mode networks parts (k + 1) ≡ option_or (first_failing_below rows mode networks parts k) (found_at k)
  unfolding found_at
  next k = rw add-one refl

  pub none_more : (k : ℕ) → first_failing_below rows mode networks parts k ≡ None → FailsSo rows mode networks parts k None → first_failing_below rows mode networks parts (k + 1) ≡ None
  unfolding found_at
  none_more k before so = next k ∙ ap (λ o. option_or o (found_at k)) before ∙ so

  -- what is read of what the workers told
  pub fails_where_told : (k : ℕ) (failure : Option Failure) (found read : List (Result (Option Failure) AllocError)) → read ≡ found
      → ((d : Result (Option Failure) AllocError) → IfOk (get_or found k d) (FailsSo rows mode networks parts k)) → ((d : Result (Option Failure) AllocError) → get_or read k d ≡ Ok failure)
      → FailsSo rows mode networks parts k failure
  fails_where_told k failure found read same each is =
      let Says : Result (Option Failure) AllocError → Type 0 = λ r. IfOk r (FailsSo rows mode networks parts k) in
      subst Says (ap (λ xs. get_or xs k (Ok None)) (sym same) ∙ is (Ok None)) (each (Ok None))
