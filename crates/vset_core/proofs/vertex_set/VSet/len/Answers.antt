use Rattle.std.proofs.Common.{◌∙◌, ap, length, List, ℕ}
use Rattle.vset_core.proofs.Sizes.{ones-length}
use Rattle.vset_core.proofs.vertex_set.VSet.len.Goals as goal

pub returns : goal.returns
returns c = ones-length c.self.inside.word c.self.invariant ∙ ap (λ (xs : List ℕ). length xs) c.self.view_is
