use Rattle.bench_top.proofs.running.run.Goals as goal

pub returns : goal.returns
returns g c = c.run_by.ensures.runs
