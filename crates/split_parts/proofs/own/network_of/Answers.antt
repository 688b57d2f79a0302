use Rattle.std.proofs.Common.{List, length, false, sym, ap, ◌∙◌, subst, arith, refl}
use Rattle.std.proofs.lemmas.Bool.{both_ways}
use Rattle.network_laws.specs.declared.rows.Row.{Row}
use Rattle.network_laws.specs.Networks.{NetworkData, IsNetwork}
use Rattle.split_parts.proofs.Numbers.{part_short}
use Rattle.split_parts.proofs.OwnFacts.{own_network_good}
use Rattle.split_parts.proofs.own.network_of.Goals as goal

pub overflow_cast-part : goal.overflow_cast-part
overflow_cast-part c =
    let short = part_short c.args.part.now c.args.network.now.members c.requires.rising c.requires.within in
    let few = c.members-members.ensures.network.few in
    omega arith

pub unreachable-requires : goal.unreachable-requires
unreachable-requires c =
    let part = c.args.part.now in
    let P : List Row → Type 0 = λ rows. IsNetwork (record { members = length part; rows = rows }) in
    let no = c.in-Err.ensures.good.1 (subst P (sym c.requires.rows) (own_network_good c.args.network.now part c.members-members.ensures.network c.requires.rising c.requires.within)) in
    both_ways false refl no

pub returns : goal.returns
returns c =
    let part = c.args.part.now in
    let f : List Row → NetworkData = λ rows. record { members = length part; rows = rows } in
    c.in-Ok.ensures.value ∙ ap f c.requires.rows
