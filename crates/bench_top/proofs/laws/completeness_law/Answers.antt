use Rattle.bench_top.proofs.Completeness.{done-exactly, negative-exactly}
use Rattle.bench_top.proofs.laws.completeness_law.Goals as goal

pub returns : goal.returns
returns c = record { done = done-exactly; negative = negative-exactly }
