use Rattle.move_text.proofs.from_counting.Common.{◌<◌, Option, subst, arith, mem}
use Rattle.bench_reports.specs.NodeSearch.{AreKeptSteps}
use Rattle.bench_reports.specs.declared.node_places.Steps.{Steps}
use Rattle.bench_reports.proofs.NodeSearches.{steps-merged}
use Rattle.bench_reports.proofs.node_places.below.Goals as goal

pub returns-in-Merged : goal.returns-in-Merged
returns-in-Merged c = λ path are.
    let above = c.in-Some.above in
    let less : above.depth < 128 = grind arith in
    let before = subst (λ (s : Option Steps). AreKeptSteps s path) c.in-Some.is are in
    rw c.in-Merged.is (steps-merged (mem above.merged) (mem c.with.result) above.depth path less before c.with.ensures)
