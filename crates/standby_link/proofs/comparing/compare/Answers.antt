use Rattle.std.proofs.Common.{None, Some, refl, subst, inl, inr}
use Rattle.standby.specs.declared.follow.FollowEnd.TheVariants.{Memory}
use Rattle.standby_link.specs.Compared.{HasNone}
use Rattle.standby_link.specs.declared.login.Login.{Login}
use Rattle.standby_link.proofs.AskFacts.{not_comparing, nothing_asked}
use Rattle.standby_link.proofs.comparing.compare.Goals as goal

pub returns-then-not-login-clause-compares : goal.returns-then-not-login-clause-compares
returns-then-not-login-clause-compares g c =
    nothing_asked _ c.args.house.now None (inl (not_comparing c.login-login.result c.args.wire.now.start.login c.login-login.ensures c.if-not-login.true)) refl c.requires.is

pub returns-in-Nothing-clause-compares : goal.returns-in-Nothing-clause-compares
returns-in-Nothing-clause-compares g c =
    nothing_asked _ c.args.house.now None (inr (subst (λ (l : Login). HasNone c.args.house.now l.name) c.login-login.ensures c.in-Nothing.ensures.last)) refl c.requires.is

pub returns-in-Memory-clause-compares : goal.returns-in-Memory-clause-compares
returns-in-Memory-clause-compares g c = nothing_asked _ c.args.house.now (Some Memory) tt refl c.requires.is
