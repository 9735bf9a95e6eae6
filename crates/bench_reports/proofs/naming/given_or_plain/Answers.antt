use Rattle.std.proofs.Common.{ap, sym}
use Rattle.bench_outcomes.specs.Common.{given_or_plain}
use Rattle.bench_reports.proofs.naming.given_or_plain.Goals as goal

pub returns-in-Some-clause-names : goal.returns-in-Some-clause-names
returns-in-Some-clause-names c = sym (ap (given_or_plain c.args.graph.now.order) c.in-Some.is)
