use Rattle.grow_gen.proofs.Splicing.{splice-multigraph, splice-cubic}
use Rattle.grow_gen.proofs.Parallel.{splice-simple}
use Rattle.grow_gen.proofs.CoveredSplices.{splice-covered}
use Rattle.grow_gen.proofs.laws.splice_law.Goals as goal

pub returns-clause-multigraph : goal.returns-clause-multigraph
returns-clause-multigraph c g h w i mg mh cg ch two ww li = splice-multigraph g h w i mg mh cg ch two ww li

pub returns-clause-cubic : goal.returns-clause-cubic
returns-clause-cubic c g h w i mg mh cg ch two ww li = splice-cubic g h w i mg mh cg ch two ww li

pub returns-clause-simple : goal.returns-clause-simple
returns-clause-simple c g h w i mg mh cg ch two ww li ng nh = splice-simple g h w i mg mh cg ch two ww li ng nh

pub returns-clause-covered : goal.returns-clause-covered
returns-clause-covered c g h w i mg mh cg ch vg vh ww li = splice-covered g h w i mg mh cg ch vg vh ww li
