use Rattle.std.proofs.lemmas.List.Elements.{All-rest}
use Rattle.dual_certificate.specs.Runs.{IsRun}
use Rattle.dual_certificate.proofs.run_joiner.join_runs.Goals as goal

pub loop-run-preserved : goal.loop-run-preserved
loop-run-preserved c =
    let i = c.loop-run.invariant in
    record {
      runs = All-rest (IsRun c.args.roster.now) c.in-Some.run' c.next.new.self.rest.items c.loop-run.run-iterator.rest.items c.in-Some.ensures.steps.0 i.runs;
      joined = c.in_ok-take_run.ensures.joined c.args.bytes.now i.joined;
    }
