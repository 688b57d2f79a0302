use Rattle.std.proofs.Common.{List, length, false, sym, ap, ◌∙◌, subst, arith, refl}
use Rattle.std.proofs.lemmas.Bool.{both_ways}
use Rattle.network_laws.specs.declared.rows.LimitRow.{LimitRow}
use Rattle.network_laws.specs.Limits.{LimitsData, AreLimits}
use Rattle.split_parts.proofs.Numbers.{part_short}
use Rattle.split_parts.proofs.OwnFacts.{own_limits_good}
use Rattle.split_parts.proofs.own.limits_of.Goals as goal

pub overflow_cast-part : goal.overflow_cast-part
overflow_cast-part c =
    let short = part_short c.args.part.now c.args.limits.now.members c.requires.rising c.requires.within in
    let few = c.members-members.ensures.limits.few in
    omega arith

pub unreachable-requires : goal.unreachable-requires
unreachable-requires c =
    let part = c.args.part.now in
    let P : List LimitRow → Type 0 = λ rows. AreLimits (record { members = length part; rows = rows }) in
    let no = c.in-Err.ensures.good.1 (subst P (sym c.requires.rows) (own_limits_good c.args.limits.now part c.members-members.ensures.limits c.requires.rising c.requires.within)) in
    both_ways false refl no

pub returns : goal.returns
returns c =
    let part = c.args.part.now in
    let f : List LimitRow → LimitsData = λ rows. record { members = length part; rows = rows } in
    c.in-Ok.ensures.value ∙ ap f c.requires.rows
