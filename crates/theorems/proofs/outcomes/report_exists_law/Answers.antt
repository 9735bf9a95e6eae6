use Rattle.bench_tasks.specs.from_decomposer.Common.{NamedPicks, ScriptPicks}
use Rattle.theorems.proofs.AnalysesExist.{analysed-exists, analysed6-exists}
use Rattle.theorems.proofs.BuiltExist.{built-exists, converted-exists, decomposition-exists, grown-exists}
use Rattle.theorems.proofs.CommandOrders.{named-some, script-some}
use Rattle.theorems.proofs.OutcomesExist.{outcome-exists, reported}
use Rattle.theorems.proofs.ReplaysExist.{replay-exists, script-exists}
use Rattle.theorems.proofs.ReportsExist.{check-exists, comparison-exists, ear_check-exists}
use Rattle.theorems.proofs.outcomes.report_exists_law.Goals as goal

pub returns : goal.returns
returns c = record {
  analyse = analysed-exists;
  analyse6 = analysed6-exists;
  convert = converted-exists;
  decompose = λ named order given. decomposition-exists (NamedPicks order) named (named-some order) given;
  decompose_by = λ named picks given. decomposition-exists (ScriptPicks picks) named (script-some picks) given;
  check = λ named t is shores. check-exists named.graph t is shores;
  check_ears = λ named list is start. ear_check-exists named.graph list is start;
  ears = λ named is. built-exists named.graph is;
  replay = λ named t moves is shores. replay-exists named.graph t moves is shores;
  compare = λ named s t is fs ft. comparison-exists named.graph s t is fs ft;
  script = λ named s t given fs ft. script-exists named.graph s t given.limits fs ft;
  grow = grown-exists;
  task = reported;
  outcome = outcome-exists;
}
