-- The order of the leaves under a Rotate: its path taken apart before the last step, where the
-- path of the parent ends.
use Rattle.std.proofs.Common.{◌≡◌, ℕ, List, [], ◌∷◌, ◌++◌, ap, ap₂, refl, ◌∙◌}
use Rattle.tree_core.proofs.Common.{last_step-end, parent_path-end, move_order, order_at, rotate_order, rotate_at, Shape}
use Rattle.tree_core.specs.declared.path.Side.{Side}

order-end : (n : ℕ) (parents : List Side) (last : Side) (t : Shape) → move_order n (rotate_at (parents ++ last ∷ [])) t ≡ order_at (rotate_order last) parents 0 t
order-end n [] last t = refl
order-end n (side ∷ parents) last t = ap₂ (λ (s : Side) (path : List Side). order_at (rotate_order s) path 0 t) (last_step-end side parents last) (parent_path-end side parents last)

-- the order of a Rotate, whose path ends in the last step
pub rotated-order : (n : ℕ) (path parents : List Side) (last : Side) (t : Shape) → path ≡ parents ++ last ∷ [] → move_order n (rotate_at path) t ≡ order_at (rotate_order last) parents 0 t
rotated-order n path parents last t e = ap (λ (p : List Side). move_order n (rotate_at p) t) e ∙ order-end n parents last t
