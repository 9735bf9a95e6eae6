use Rattle.bench_top.proofs.OneOutput.{bad-once, output-once, outputs-alike, refusal-once}
use Rattle.bench_top.proofs.laws.one_output_law.Goals as goal

pub returns : goal.returns
returns c = record { done = output-once; negative = refusal-once; shown = outputs-alike; bad = bad-once }
