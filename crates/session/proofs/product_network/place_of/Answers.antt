use Rattle.std.proofs.Common.{ℕ, Option, sym, subst}
use Rattle.session.specs.Places.{IsPlaceOf}
use Rattle.session.proofs.PlaceFacts.{place_of_name}
use Rattle.session.proofs.product_network.place_of.Goals as goal

pub returns : goal.returns
returns c =
    subst (λ (place : Option ℕ). IsPlaceOf c.args.roster.now.members c.args.name.now place) (sym c.member_named.ensures)
    (place_of_name c.args.roster.now c.args.name.now c.members-members.ensures.roster)
