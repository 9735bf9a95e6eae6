-- A graph with one more edge: its ends, that it keeps the limits of size where there is room, and
-- that its rows are the old rows with each end of the new edge in the row of the other. Idea: the
-- new edge is the last item of the list of ends, and "some edge joins v and w" is "some item does".
use Rattle.vset_core.proofs.from_counting.Common.{◌≡◌, ◌≢◌, ℕ, ◌+◌, ◌-◌, ◌<◌, ◌∷◌, [], List, length, Bool, false, ◌==◌, ◌&&◌, ◌||◌, arith, get_or_push, cases_eq, get_or_append_left, length-append, list_any-append, Within, item, mem, none}
use Rattle.graph_core.specs.Common.{Graph, first_end, second_end, size, with_edge, AreRows, IsWithinLimits, adjacent}
use Rattle.graph_core.proofs.EndLists.{adjacent-ends, joins}

size-with_edge : (g : Graph) (a b : ℕ) → size (with_edge g a b) ≡ size g + 1
size-with_edge g a b = length-append g.ends ((a, b) ∷ [])

-- what is true of the ends of each edge, and of the new ends, is true of the ends of each edge of
-- the larger graph
each_end : (P : ℕ → ℕ → Type 0) (g : Graph) (a b : ℕ) → P a b → ((e : ℕ) → Within (size g) e → P (first_end g e) (second_end g e)) →
    (e : ℕ) → Within (size (with_edge g a b)) e → P (first_end (with_edge g a b) e) (second_end (with_edge g a b) e)
each_end P g a b new old e w = grind (arith, cases_eq (e - 1) (size g), get_or_push g.ends (a, b) (0, 0) (e - 1), size-with_edge g a b, get_or_append_left g.ends ((a, b) ∷ []) (0, 0) (e - 1))

-- the larger graph keeps the limits where there is room for one more edge
pub limits-with_edge : (g : Graph) (a b : ℕ) → IsWithinLimits g → Within g.order a → Within g.order b → a ≢ b → size g < 2048 → IsWithinLimits (with_edge g a b)
limits-with_edge g a b limits first second differ room = record {
  vertices = limits.vertices;
  edges = let more = size-with_edge g a b in omega arith;
  multigraph = record {
    ends = each_end (λ u v. Within g.order u × Within g.order v) g a b (first, second) limits.multigraph.ends;
    no_loop = each_end (λ u v. u ≢ v) g a b differ limits.multigraph.no_loop;
  };
}

-- the new edge joins its own ends and no others
adjacent-with_edge : (g : Graph) (a b v w : ℕ) → adjacent (with_edge g a b) none v w ≡ (adjacent g none v w || (joins v w (a, b) || false))
adjacent-with_edge g a b v w = grind (arith, adjacent-ends (with_edge g a b) v w, list_any-append (joins v w) g.ends ((a, b) ∷ []), adjacent-ends g v w)

-- w enters the row of v in one of two steps, or was there
two_steps : (old p q r s : Bool) → ((old || (p && q)) || (r && s)) ≡ (old || (((p && q) || (s && r)) || false))
two_steps old p q r s = grind arith

pub rows-with_edge : (g : Graph) (rows between new : List (List ℕ)) (a b : ℕ) → AreRows g rows → length between ≡ length rows → length new ≡ length rows →
    ((u x : ℕ) → Within (length rows) u → mem (item between u) x ≡ (mem (item rows u) x || (a == u && b == x))) →
    ((u x : ℕ) → Within (length between) u → mem (item new u) x ≡ (mem (item between u) x || (b == u && a == x))) →
    AreRows (with_edge g a b) new
rows-with_edge g rows between new a b are same_between same_new first second = grind (arith, two_steps, adjacent-with_edge g a b)
