use Rattle.tight_cuts.proofs.from_barrier_kit.Common.{bicritical, four_vertices, no_sides}
use Rattle.tight_cuts.proofs.from_separation_kit.CutPairs.{no_cut_pair}
use Rattle.leaf_kinds.proofs.laws.brick_kind_law.Goals as goal

pub returns : goal.returns
returns c = λ g is covered brick.
    let odd = no_sides g is.no_loop brick.0 in
    let critical = bicritical g is.ends covered odd brick.1 in
    record {
      four = four_vertices g is.ends covered odd;
      bicritical = critical;
      connected = λ u v pair. no_cut_pair g is.ends critical brick.1 u v pair.first pair.second pair;
    }
