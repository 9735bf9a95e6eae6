-- Rotate at the end of a path, and the test of two sets with no common vertex.
-- Idea: a path that is not empty is split before its last step, by induction on the steps before.
use Rattle.graph_core.proofs.from_counting.Common.{◌≡◌, ℕ, not, ◌&&◌, List, [], ◌∷◌, ◌++◌, refl, ap, ap₂, ◌∙◌, arith, same_tests, and_from, and_parts, all_in_true, true_all_in, mem, is_apart, is_subset}
use Rattle.tree_core.specs.Common.{last_step, parent_path, result_at, rotate_result, rotate_result_at, Shape}
use Rattle.tree_core.specs.declared.path.Side.{Side}

-- x lies in what it keeps without y exactly when the two have no common vertex
pub apart-test : (x y z : List ℕ) → ((v : ℕ) → mem z v ≡ (mem x v && not (mem y v))) → is_subset x z ≡ is_apart x y
apart-test x y z e = grind (arith, same_tests, true_all_in, and_parts, all_in_true, and_from)

-- a path of at least one step, taken apart before its last step
pub last_step-end : (side : Side) (path : List Side) (last : Side) → last_step side (path ++ last ∷ []) ≡ last
last_step-end side [] last = refl
last_step-end side (next ∷ path) last = last_step-end next path last

pub parent_path-end : (side : Side) (path : List Side) (last : Side) → parent_path side (path ++ last ∷ []) ≡ side ∷ path
parent_path-end side [] last = refl
parent_path-end side (next ∷ path) last = ap (λ (rest : List Side). side ∷ rest) (parent_path-end next path last)

result-end : (parents : List Side) (last : Side) (t : Shape) → rotate_result (parents ++ last ∷ []) t ≡ result_at (rotate_result_at last) parents t
result-end [] last t = refl
result-end (side ∷ parents) last t = ap₂ (λ (s : Side) (path : List Side). result_at (rotate_result_at s) path t) (last_step-end side parents last) (parent_path-end side parents last)

-- Rotate with a path is Rotate by its last step, at the end of the steps before
pub rotate-end : (path parents : List Side) (last : Side) (t : Shape) → path ≡ parents ++ last ∷ [] → rotate_result path t ≡ result_at (rotate_result_at last) parents t
rotate-end path parents last t e = ap (λ (p : List Side). rotate_result p t) e ∙ result-end parents last t
