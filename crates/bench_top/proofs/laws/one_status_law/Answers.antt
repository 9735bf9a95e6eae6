use Rattle.bench_top.proofs.Completeness.{status-once}
use Rattle.bench_top.proofs.laws.one_status_law.Goals as goal

pub returns : goal.returns
returns c = status-once
