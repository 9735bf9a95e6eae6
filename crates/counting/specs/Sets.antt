-- Sets of numbers as tests. Their values at 0 and past the last number are meaningless.
-- Stated by: vset_core, graph_core, match_search, match_core, allowed_edges and 19 more.
-- Used by: counting, grow_gen, gallai_edmonds, decomposer, tree_check, graph6_text and 4 more.
use Rattle.std.specs.Prelude.{◌≡◌, ℕ, Bool, true, false, not, ◌&&◌, ◌||◌, ◌==◌, cond}

-- a set of vertices or of edges, given by its test
abbrev pub Set : Type 0
Set = ℕ → Bool

-- the empty set
abbrev pub none : Set
none v = false

-- all numbers
abbrev pub everything : Set
everything v = true

-- {v}
abbrev pub singleton : ℕ → Set
singleton v w = v == w

-- {a, b}
abbrev pub pair_set : ℕ → ℕ → Set
pair_set a b v = (a == v) || (b == v)

-- x ∪ y
abbrev pub union : Set → Set → Set
union x y v = x v || y v

-- x ∩ y
abbrev pub meet : Set → Set → Set
meet x y v = x v && y v

-- x - y
abbrev pub minus : Set → Set → Set
minus x y v = x v && not (y v)

-- the complement of x
abbrev pub complement : Set → Set
complement x v = not (x v)

-- the set x, changed at v: v is in it if and only if b is true
abbrev pub put : Set → ℕ → Bool → Set
put x v b w = cond (w == v) b (x w)

-- x and r are disjoint
abbrev pub Outside : Set → Set → Type 0
Outside r x = (v : ℕ) → x v ≡ true → r v ≡ false
