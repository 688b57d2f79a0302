use Rattle.std.proofs.Common.{sym, arith}
use Rattle.std.proofs.lemmas.List.{ext_get_or}
use Rattle.std.proofs.lemmas.Slice.Eq.{bytes_eq-Decides}
use Rattle.command_types.proofs.row_places.is_same.Goals as goal

pub returns : goal.returns
returns c = sym ((bytes_eq-Decides _ _).1 (ext_get_or 0 _ _ c.if-a-b.false (λ k lt. c.loop-i.invariant k (omega arith))))
