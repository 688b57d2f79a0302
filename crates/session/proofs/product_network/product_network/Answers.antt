use Rattle.std.proofs.Common.{◌≡◌, ◌<◌, List, length, take, IfOk, subst, arith}
use Rattle.std.proofs.lemmas.List.{take_all}
use Rattle.network_laws.specs.Networks.{NetworkData}
use Rattle.command_types.specs.Session.{DraftRow}
use Rattle.session.specs.Drafts.{row_of}
use Rattle.session.specs.Kept.{kept_rows}
use Rattle.session.specs.Places.{HasRows}
use Rattle.session.proofs.NetworkFacts.{network_of}
use Rattle.session.proofs.RowSumFacts.{has_more, more_within}
use Rattle.session.proofs.product_network.product_network.Goals as goal

pub add_row-requires-clause-bound : goal.add_row-requires-clause-bound
add_row-requires-clause-bound c =
    let within : c.loop-place.place < length (kept_rows c.args.draft.now) = omega arith in
    omega (
      arith,
      more_within c.args.roster.now.members c.args.product.now (kept_rows c.args.draft.now) c.loop-place.place (row_of c.row-key.result) c.loop-place.table c.row-key.ensures.row within c.loop-place.invariant,
      c.args.draft.now.within c.args.product.now,
    )

pub loop-place-preserved : goal.loop-place-preserved
loop-place-preserved c =
    let within : c.loop-place.place < length (kept_rows c.args.draft.now) = omega arith in
    has_more c.args.roster.now.members c.args.product.now (kept_rows c.args.draft.now) c.loop-place.place (row_of c.row-key.result) c.loop-place.table c.add_row.new.table c.row-key.ensures.row within c.loop-place.invariant c.add_row.ensures

pub returns : goal.returns
returns c =
    let rows = kept_rows c.args.draft.now in
    let all : take c.loop-place.place rows ≡ rows = take_all c.loop-place.place rows (omega arith) in
    let has = subst (λ (rs : List DraftRow). HasRows c.args.roster.now.members c.args.product.now rs c.loop-place.table) all c.loop-place.invariant in
    subst (λ (due : NetworkData). IfOk c.network.result (λ network. network ≡ due)) (network_of c.args.roster.now.members c.args.product.now rows c.loop-place.table has) c.network.ensures.value
