use Rattle.std.proofs.Common.{[], refl, arith}
use Rattle.std.proofs.lemmas.Result.{on_ok_weaker, on_err_weaker}
use Rattle.session.proofs.PendingFacts.{says_none, says_piece, says_end, front_piece}
use Rattle.session.proofs.ServedFacts.{at_error}
use Rattle.session.proofs.outbox.Outbox.put_long.Goals as goal

pub loop-rest-init : goal.loop-rest-init
loop-rest-init g c = record { said = ([], refl, says_none _ _); never_falls = omega arith }

pub loop-rest-preserved : goal.loop-rest-preserved
loop-rest-preserved g c =
    let s = c.loop-rest.invariant.said in
    record {
      said = says_piece _ _ _ _ _ _ s.0 _ _ _ _ s.1 c.split_at.ensures.by_index.0 s.2 c.in_ok-put.ensures.said;
      never_falls = omega (arith, c.loop-rest.invariant.never_falls, c.in_ok-put.ensures.counts.0);
    }

pub loop-rest-smaller : goal.loop-rest-smaller
loop-rest-smaller g c = omega (arith, c.split_at.ensures.back_len, c.split_at.ensures.front_len)

pub returns-in_err-put-clause-front : goal.returns-in_err-put-clause-front
returns-in_err-put-clause-front g c =
    let s = c.loop-rest.invariant.said in
    at_error _ (front_piece _ _ _ _ _ s.0 _ _ s.1 s.2 c.in_err-put.ensures.front)

pub returns-clause-said : goal.returns-clause-said
returns-clause-said g c =
    let s = c.loop-rest.invariant.said in
    on_ok_weaker c.put-2.result (λ said. says_end _ _ _ _ _ _ s.0 _ _ s.1 s.2 said) c.put-2.ensures.said

pub returns-clause-front : goal.returns-clause-front
returns-clause-front g c =
    let s = c.loop-rest.invariant.said in
    on_err_weaker c.put-2.result (λ front. front_piece _ _ _ _ _ s.0 _ _ s.1 s.2 front) c.put-2.ensures.front
