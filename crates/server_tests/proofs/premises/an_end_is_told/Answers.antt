use Rattle.std.proofs.Common.{inl, refl}
use Rattle.server_tests.proofs.premises.an_end_is_told.Goals as goal

pub returns : goal.returns
returns c = inl (refl, inl refl)
