use Rattle.std.proofs.Common.{◌≡◌, ℕ, suc, ◌-◌, ◌<◌, ◌++◌, ◌∷◌, [], arith}
use Rattle.tree_core.proofs.Common.{shape_of}
use Rattle.tree_core.specs.declared.path.Side.TheVariants.{Kept, Merged}
use Rattle.bench_reports.proofs.NodeSearches.{found-here, found-kept, found-merged}
use Rattle.bench_reports.proofs.node_places.+seek.Goals as goal

one-less : (number : ℕ) → 0 < number → number ≡ suc (number - 1)
one-less number some = omega (arith, some)

pub returns-then-number-eq1-clause-found : goal.returns-then-number-eq1-clause-found
returns-then-number-eq1-clause-found t c = grind (arith, found-here)

pub returns-in-Found-clause-found : goal.returns-in-Found-clause-found
returns-in-Found-clause-found t c = λ path are.
    let found = rw c.deref.ensures at c.in-Found.ensures.found (path ++ (Kept ∷ [])) (c.below.ensures path are) in
    rw c.in-Cut.is (found-kept path c.in-Cut.shore (shape_of c.in-Cut.kept.value) (shape_of c.in-Cut.merged.value) c.args.number _ c.in-Found.place (one-less c.args.number c.requires) found)

pub returns-in-Beyond-clause-found : goal.returns-in-Beyond-clause-found
returns-in-Beyond-clause-found t c = λ path are.
    let found = rw c.deref-in-Beyond.ensures at c.seek-in-Beyond.ensures.found (path ++ (Merged ∷ [])) (c.below-in-Beyond.ensures path are) in
    let passed = rw c.deref.ensures at c.in-Beyond.ensures.passed in
    rw c.in-Cut.is (found-merged path c.in-Cut.shore (shape_of c.in-Cut.kept.value) (shape_of c.in-Cut.merged.value) c.args.number _ c.in-Beyond.number c.seek-in-Beyond.result (one-less c.args.number c.requires) passed.0 found)
