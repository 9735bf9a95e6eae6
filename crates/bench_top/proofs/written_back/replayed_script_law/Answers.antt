use Rattle.bench_top.proofs.ScriptReplays.{script-replayed}
use Rattle.bench_top.proofs.written_back.replayed_script_law.Goals as goal

pub returns : goal.returns
returns c = λ files again graph first second script output done one two held within. script-replayed files again graph first second script output done one two held within
