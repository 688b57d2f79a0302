use Rattle.compress_server.proofs.top.run.Goals as goal

pub returns-clause-ends : goal.returns-clause-ends
returns-clause-ends g c = record {
  end = c.run_form-end.result.0;
  runs = c.run_form-end.ensures.runs;
  tells = c.tell_end.ensures;
}
