use Rattle.graph_core.proofs.Common.{length-in}
use Rattle.tight_cuts.specs.Common.{origin_of}
use Rattle.tight_cuts.proofs.CandidateLists.{candidate-length}
use Rattle.tight_cuts.proofs.candidate.Candidate.new.Goals as goal

pub overflow_sub-result : goal.overflow_sub-result
overflow_sub-result c = length-in c.args.n c.len-inside.result c.args.shore c.requires.shore c.len-inside.ensures

pub returns : goal.returns
returns c = candidate-length c.args.n c.len-inside.result (origin_of c.args.origin) c.args.shore c.requires.shore c.len-inside.ensures
