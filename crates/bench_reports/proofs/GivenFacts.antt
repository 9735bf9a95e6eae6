-- That a tree or a list of ears fits a graph is a proposition: any two proofs of it are equal.
-- Idea: by induction; each part bounds numbers or all numbers of a list, which is a proposition.
use Rattle.std.proofs.Common.{ℕ}
use Rattle.std.proofs.Props.{props}
use Rattle.std.specs.List.{AllByRecursion-prop}
use Rattle.tree_core.proofs.Common.{Shape, leaf, cut, Fits}
use Rattle.ear_text.specs.from_ear_core.Common.{PlainEars, PlainStep, one, two, FitsEars, FitsStep}

pub tree-fits_prop : (n : ℕ) (t : Shape) → IsProp (Fits n t)
tree-fits_prop n leaf = hlevel props
tree-fits_prop n (cut x k m) = let kept = tree-fits_prop n k in let merged = tree-fits_prop n m in hlevel (props, kept, merged)

step-fits_prop : (n m : ℕ) (s : PlainStep) → IsProp (FitsStep n m s)
step-fits_prop n m (one a) = hlevel props
step-fits_prop n m (two a b) = hlevel props

pub ears-fit_prop : (n m : ℕ) (list : PlainEars) → IsProp (FitsEars n m list)
ears-fit_prop n m list = let steps = AllByRecursion-prop (FitsStep n m) (step-fits_prop n m) list.steps in hlevel (props, steps)
