use Rattle.session.proofs.moments.moment_now.Goals as goal

pub returns : goal.returns
returns g c = record { now = c.now.result; told = c.now.ensures; same = c.new.ensures }
