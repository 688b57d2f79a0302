-- What was sent over layers, and then once more.
use Rattle.std.proofs.Common.{ℕ, List}
use Rattle.member_set.specs.declared.set.MemberSet.{MemberSet}
use Rattle.path_solver.specs.declared.labels.Labels.{Labels}
use Rattle.path_solver.specs.declared.work.Work.{Work}
use Rattle.path_solver.specs.Labels.{IsSentOver}
use Rattle.path_solver.proofs.Pruned.{fewer_more}
use Rattle.path_solver.proofs.SentAlong.{sent_more}

pub sent_over_more : {l : Labels} {top : ℕ} {a b c : Work} {first second third : List MemberSet} → IsSentOver l top a b first second → IsSentOver l top b c second third → IsSentOver l top a c first third
sent_over_more {l} {top} {a} {b} {c} {first} {second} {third} x y = record {
  work = y.work;
  along = sent_more x.along y.along;
  layers = y.layers;
  pruned = y.pruned;
  fewer = fewer_more first second third x.fewer y.fewer;
  shortest = y.shortest;
}
