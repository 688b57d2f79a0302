use Rattle.std.proofs.Common.{◌≡◌, ◌<◌, ◌∙◌, ℕ, List, length, get_or, subst, sym}
use Rattle.std.specs.Prelude.{All, AllPairs}
use Rattle.std.proofs.lemmas.List.{get_or_default}
use Rattle.network_laws.specs.Limits.{LimitsData, AreLimits}
use Rattle.split_parts.specs.Labels.{AreClassesTo, AreLabels}
use Rattle.split_parts.specs.Parts.{AreApart, IsPart, IsPartition}
use Rattle.split_parts.proofs.Partitions.{partition_of, part_within}
use Rattle.split_parts.proofs.partition.Partition.of.Goals as goal

-- the parts of labels are the limits'
whole_of : (limits : LimitsData) (labels now : List ℕ) (parts : List (List ℕ)) → AreLimits limits → AreLabels limits labels → now ≡ labels → AreClassesTo now (length now) parts → IsPartition limits parts
whole_of limits labels now parts good are same classes = partition_of limits labels parts good are (subst (λ ls. AreClassesTo ls (length ls) parts) same classes)

pub places_of-requires-clause-each : goal.places_of-requires-clause-each
places_of-requires-clause-each c =
    let whole = whole_of c.args.limits.now c.in_ok-labels.labels.items c.deref.result.now c.in_ok-parts.parts.items c.members-members.ensures.limits c.in_ok-labels.ensures c.deref.ensures.value c.in_ok-parts.ensures in
    subst (λ ps. All IsPart ps) (sym c.deref-2.ensures.value) whole.each

pub places_of-requires-clause-apart : goal.places_of-requires-clause-apart
places_of-requires-clause-apart c =
    let whole = whole_of c.args.limits.now c.in_ok-labels.labels.items c.deref.result.now c.in_ok-parts.parts.items c.members-members.ensures.limits c.in_ok-labels.ensures c.deref.ensures.value c.in_ok-parts.ensures in
    subst (λ ps. AllPairs AreApart ps) (sym c.deref-2.ensures.value) whole.apart

pub places_of-requires-clause-within : goal.places_of-requires-clause-within
places_of-requires-clause-within c =
    let limits = c.args.limits.now in
    let parts = c.in_ok-parts.parts.items in
    let whole = whole_of c.args.limits.now c.in_ok-labels.labels.items c.deref.result.now c.in_ok-parts.parts.items c.members-members.ensures.limits c.in_ok-labels.ensures c.deref.ensures.value c.in_ok-parts.ensures in
    let each : (k : ℕ) (d : List ℕ) → k < length parts → All (λ m. m < limits.members) (get_or parts k d) = λ k d l. part_within limits parts k (get_or parts k d) c.members-members.ensures.limits whole l (get_or_default parts k (get_or parts k d) d l) in
    subst (λ n. All (λ part. All (λ m. m < n) part) c.deref-2.result.now) (sym c.members-members.ensures.value)
    (subst (λ ps. All (λ part. All (λ m. m < limits.members) part) ps) (sym c.deref-2.ensures.value) each)

pub returns : goal.returns
returns c = record {
  members = c.in_ok-places.ensures.size ∙ c.members-members.ensures.value;
  parts = whole_of c.args.limits.now c.in_ok-labels.labels.items c.deref.result.now c.in_ok-parts.parts.items c.members-members.ensures.limits c.in_ok-labels.ensures c.deref.ensures.value c.in_ok-parts.ensures;
}
