use Rattle.counting.proofs.Common.{subst, IsRisingIn}
use Rattle.vset_core.specs.WordLaws.{members-rise}
use Rattle.vset_core.proofs.vertex_set.VSet.rises.Goals as goal

pub returns : goal.returns
returns c = subst (λ xs. IsRisingIn 128 xs) c.self.view_is (members-rise c.self.inside.word)
