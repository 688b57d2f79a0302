use Rattle.std.proofs.Common.{◌∙◌, ◌≤◌, Some, length, sym, ap, take, arith}
use Rattle.trade_file.specs.TradeFile.{member_of}
use Rattle.trade_file.proofs.FoundFacts.{front_short}
use Rattle.trade_file.proofs.found_names.TradeNames.member.Goals as goal

pub returns-in-Some-place-clause-named : goal.returns-in-Some-place-clause-named
returns-in-Some-place-clause-named c =
    let text = c.args.text.now in
    let front = c.in-Some.ensures in
    let within : c.in-Some.end ≤ length text = omega (arith, front.within) in
    let short = front_short text c.in-Some.key c.in-Some.end (λ i. omega (arith, c.type_inv.text i)) within front.few front.keyed in
    record { within = front.within; ended = front.ended; named = c.in-Some-place.ensures (member_of c.args.roster.now) (take c.in-Some.end text) c.requires.members short }

pub returns-clause-found : goal.returns-clause-found
returns-clause-found c =
    let text = c.args.text.now in
    let front = c.in-Some.ensures in
    let within : c.in-Some.end ≤ length text = omega (arith, front.within) in
    let short = front_short text c.in-Some.key c.in-Some.end (λ i. omega (arith, c.type_inv.text i)) within front.few front.keyed in
    let named = sym c.in_ok-member.ensures ∙ ap (λ k. Some k) (sym c.member.view_is) in
    record { members = c.keep.ensures (member_of c.args.roster.now) (take c.in-Some.end text) c.requires.members short named; products = c.requires.products }
