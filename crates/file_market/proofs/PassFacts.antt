-- No product fails exactly where every part passes.
use Rattle.std.proofs.Common.{◌≡◌, ◌≢◌, ◌∙◌, sym, ap, refl, ℕ, zero, suc, ◌<◌, List, [], length, get_or, Bool, true, false, Option, Some, None, arith, ⊎_elim, ◌↔◌}
use Rattle.std.specs.Option.{option_or}
use Rattle.std.specs.List.{slice_get}
use Rattle.std.proofs.lemmas.Bool.{cases_eq}
use Rattle.std.proofs.lemmas.Option.{slice_get_read}
use Rattle.std.proofs.lemmas.List.{get_or_default}
use Rattle.network_laws.specs.declared.clash.Clash.{Clash}
use Rattle.network_laws.specs.Networks.{NetworkData}
use Rattle.network_laws.specs.Clash.{first_clash}
use Rattle.network_laws.proofs.Clashes.{no_clash_is_certified}
use Rattle.command_types.specs.declared.cycle.Mode.{Mode}
use Rattle.command_types.specs.Roster.{Rows}
use Rattle.dual_certificate.specs.declared.proposal_part.ProposalPart.{ProposalPart}
use Rattle.file_market.specs.declared.failing.Failure.{Failure}
use Rattle.file_market.specs.declared.failing.Failing.{Failing}
use Rattle.file_market.specs.Market.{market_limits}
use Rattle.file_market.specs.Check.{has_figures, failure_by, part_failure, failing_at, failing_product, first_failing_below}
use Rattle.file_market.specs.Laws.{IsPassed, NothingFailsWhereAllPass}

no_failure : (o p : Option Failing) → option_or o p ≡ None → (o ≡ None) × (p ≡ None)
no_failure None p h = (refl, h)
no_failure (Some c) p h = absurd cc

none_by : (o : Option Clash) (b : Bool) → failure_by o b ≡ None → (o ≡ None) × (b ≡ true)
none_by (Some c) b h = absurd cc
none_by None true h = (refl, refl)
none_by None false h = absurd cc

by_none : (o : Option Clash) (b : Bool) → o ≡ None → b ≡ true → failure_by o b ≡ None
by_none o b e e' = ap (λ x. failure_by x b) e ∙ ap (failure_by None) e'

none_at : (k : ℕ) (o : Option Failure) → failing_at k o ≡ None → o ≡ None
none_at k None h = refl
none_at k (Some reason) h = absurd cc

module _ (rows : Rows) (mode : Mode) (networks : List NetworkData) (parts : List ProposalPart) where
  found_at : ℕ → Option Failing
  found_at k = failing_product rows mode k (slice_get networks k) (slice_get parts k)

  at_place : (k : ℕ) (d : NetworkData) (e : ProposalPart) → k < length networks → k < length parts → found_at k ≡ failing_at k (part_failure rows mode k (get_or networks k d) (get_or parts k e))
  unfolding found_at
  at_place k d e l l' =
      ap (λ o. failing_product rows mode k o (slice_get parts k)) (slice_get_read networks (length networks) k (get_or networks k d) refl l (get_or_default networks k d (get_or networks k d) l))
      ∙ ap (λ o. failing_product rows mode k (Some (get_or networks k d)) o) (slice_get_read parts (length parts) k (get_or parts k e) refl l' (get_or_default parts k e (get_or parts k e) l'))

  none_below : (n : ℕ) → first_failing_below rows mode networks parts n ≡ None → (k : ℕ) → k < n → found_at k ≡ None
  unfolding found_at
  none_below zero h k l = absurd (omega arith)
  none_below (suc n) h k l =
      let both = no_failure (first_failing_below rows mode networks parts n) (found_at n) h in
      ⊎_elim (λ (e : k ≡ n). ap found_at e ∙ both.1) (λ (ne : k ≢ n). none_below n both.0 k (omega arith)) (cases_eq k n)

  below_none : (n : ℕ) → ((k : ℕ) → k < n → found_at k ≡ None) → first_failing_below rows mode networks parts n ≡ None
  unfolding found_at
  below_none zero h = refl
  below_none (suc n) h =
      ap (λ o. option_or o (found_at n)) (below_none n (λ k l. h k (omega arith))) ∙ h n (omega arith)

  passes : (k : ℕ) (network : NetworkData) (part : ProposalPart) → network.members ≡ length rows.members → part.solution.network.members ≡ length rows.members
      → (part_failure rows mode k network part ≡ None) ↔ IsPassed rows mode k network part
  passes k network part m m' =
      let limits = market_limits rows mode k network in
      let law = no_clash_is_certified limits network part.solution.network part.solution.potentials (sym m) (m' ∙ sym m) in (
        (λ h. let p = none_by (first_clash limits network part.solution.network part.solution.potentials) (has_figures network part) h in record { certified = law.0 p.0; figures = p.1 }),
        (λ passed. by_none (first_clash limits network part.solution.network part.solution.potentials) (has_figures network part) (law.1 passed.certified) passed.figures),
      )

pub nothing_fails_where_all_pass : NothingFailsWhereAllPass
nothing_fails_where_all_pass rows mode networks parts count members given = (
  (λ h k d e l.
      let in_networks : k < length networks = omega (arith, count) in
      let in_parts : k < length parts = omega (arith, given.count) in
      let none = none_below rows mode networks parts (length rows.products) h k l in
      (passes rows mode networks parts k (get_or networks k d) (get_or parts k e) (members k d in_networks) (given.members k e in_parts)).0
      (none_at k (part_failure rows mode k (get_or networks k d) (get_or parts k e)) (sym (at_place rows mode networks parts k d e in_networks in_parts) ∙ none))),
  (λ all. below_none rows mode networks parts (length rows.products) (λ k l.
      let d : NetworkData = record { members = 0; rows = [] } in
      let e : ProposalPart = record { solution = record { network = d; potentials = [] }; gross = 0; least = 0; floor_m = 0; bilateral = 0; bound = 0 } in
      let in_networks : k < length networks = omega (arith, count) in
      let in_parts : k < length parts = omega (arith, given.count) in
      at_place rows mode networks parts k d e in_networks in_parts
      ∙ ap (failing_at k) ((passes rows mode networks parts k (get_or networks k d) (get_or parts k e) (members k d in_networks) (given.members k e in_parts)).1 (all k d e l)))),
)
