-- An edge joins two vertices where an item of the list of ends has them. Idea: edge e is item e -
-- 1, so that "some of the first k edges" is "some of the first k items", by induction on k.
use Rattle.std.proofs.Common.{◌≡◌, ℕ, suc, zero, ◌-◌, ◌≤◌, Bool, ◌==◌, ◌&&◌, ◌||◌, List, length, take, take_all, get_or, refl, ap, ◌∙◌, arith, le_refl}
use Rattle.vset_core.proofs.from_counting.Common.{list_any_more, list_any, none, some}
use Rattle.graph_core.specs.Common.{Graph, adjacent}

-- the two numbers of the pair are u and v, in either order
abbrev pub joins : ℕ → ℕ → ℕ × ℕ → Bool
joins u v p = (p.0 == u && p.1 == v) || (p.0 == v && p.1 == u)

some_take : {X : Type 0} (p : X → Bool) (xs : List X) (d : X) (k : ℕ) → k ≤ length xs → some k (λ e. p (get_or xs (e - 1) d)) ≡ list_any p (take k xs)
some_take p xs d zero h = refl
some_take p xs d (suc k) h = grind (arith, some_take p xs d k (omega arith), list_any_more p xs k d, list_any p)

-- some place, counted from 1, passes where some item does
pub some_items : {X : Type 0} (p : X → Bool) (xs : List X) (d : X) → some (length xs) (λ e. p (get_or xs (e - 1) d)) ≡ list_any p xs
some_items p xs d = some_take p xs d (length xs) (le_refl (length xs)) ∙ ap (list_any p) (take_all (length xs) xs (le_refl (length xs)))

pub adjacent-ends : (g : Graph) (u v : ℕ) → adjacent g none u v ≡ list_any (joins u v) g.ends
adjacent-ends g u v = some_items (joins u v) g.ends (0, 0)
