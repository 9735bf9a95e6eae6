-- A test of tightness: no two edges of the cut lie together. And how often the matchings of a list
-- meet a cut. Idea: an odd set is met by each perfect matching, so one with an odd cut that is not
-- tight is met twice by some.
use Rattle.graph_core.proofs.from_counting.Common.{◌≡◌, ℕ, suc, ◌+◌, ◌≤◌, ◌≢◌, true, false, sym, ap, ◌∙◌, arith, ◌&&◌, not, List, [], ◌∷◌, length, sum_by, get_or, All, cases_lt, and_parts, and_from, false_from_ne_true, All-head, All-tail, All-cons, All-nil, sum_by-cons, two_members, two_of, odd-double, complement_odd, total_at, bit, count, Within, is_odd, mem, Set, none, complement}
use Rattle.barrier_kit.proofs.Common.{inner, even_order}
use Rattle.graph_core.proofs.Common.{parity, odd_meets, Graph, size, IsGraph, in_cut, has_ends, edges_in_cut, IsPerfect, Allowed, Together, IsTight}
use Rattle.tight_cuts.specs.Common.{cut_sum, NoTwoTogether}

-- two edges of one matching in one cut
pub two_in_cut : (g : Graph) (m x : Set) (e f : ℕ) → Within (size g) e → Within (size g) f → e ≢ f → m e ≡ true → m f ≡ true → in_cut g x e ≡ true → in_cut g x f ≡ true → 2 ≤ edges_in_cut g m x
two_in_cut g m x e f we wf d me mf ce cf = two_members (size g) (λ e. m e && in_cut g x e) e f we wf d (and_from (m e) (in_cut g x e) me ce) (and_from (m f) (in_cut g x f) mf cf)

-- a tight cut has no two edges that lie together
pub tight_alone : (g : Graph) (x : Set) → IsTight g x → NoTwoTogether g x
tight_alone g x t e f we wf d ce cf q = let a = two_in_cut g q.0 x e f we wf d q.2 q.3 ce cf in let b = t.cut q.0 q.1 in omega arith

-- an odd cut that has none is tight
pub alone_tight : (g : Graph) (x : Set) → IsGraph g → is_odd (count g.order x) ≡ true → is_odd (count g.order (complement x)) ≡ true → NoTwoTogether g x → IsTight g x
alone_tight g x is o r h = grind (arith, odd_meets g, cases_lt, two_of (size g), and_parts)

-- sums of numbers that are at least 1
pub sum_bound : (ms : List (List ℕ)) (f : List ℕ → ℕ) → All (λ m. 1 ≤ f m) ms → length ms ≤ sum_by f ms
sum_bound [] f h = omega arith
sum_bound (m ∷ ms) f h =
    let a = sum_by-cons f m ms in
    let b = sum_bound ms f (All-tail (λ m. 1 ≤ f m) m ms h) in
    let c = All-head (λ m. 1 ≤ f m) m ms h in omega arith

pub sum_tight : (ms : List (List ℕ)) (f : List ℕ → ℕ) → All (λ m. 1 ≤ f m) ms → sum_by f ms ≡ length ms → All (λ m. f m ≡ 1) ms
sum_tight [] f h e = All-nil (λ m. f m ≡ 1)
sum_tight (m ∷ ms) f h e =
    let a = sum_by-cons f m ms in
    let t = All-tail (λ m. 1 ≤ f m) m ms h in
    let b = sum_bound ms f t in
    let c = All-head (λ m. 1 ≤ f m) m ms h in
    All-cons (λ m. f m ≡ 1) m ms (omega arith) (sum_tight ms f t (omega arith))

pub sum_ones : (ms : List (List ℕ)) (f : List ℕ → ℕ) → All (λ m. f m ≡ 1) ms → sum_by f ms ≡ length ms
sum_ones [] f h = omega arith
sum_ones (m ∷ ms) f h =
    let a = sum_by-cons f m ms in
    let b = sum_ones ms f (All-tail (λ m. f m ≡ 1) m ms h) in
    let c = All-head (λ m. f m ≡ 1) m ms h in omega arith

module _ (g : Graph) (ms : List (List ℕ)) (is : IsGraph g) (perfect : All (λ m. IsPerfect g none (mem m)) ms) (x : Set) (o : is_odd (count g.order x) ≡ true) where
  each_met : All (λ m. 1 ≤ edges_in_cut g (mem m) x) ms
  each_met k d l = odd_meets g (mem (get_or ms k d)) x is (perfect k d l) o

  -- an odd set is met as often as the list is long at least
  pub met_bound : length ms ≤ cut_sum g ms x
  unfolding cut_sum
  met_bound = sum_bound ms (λ m. edges_in_cut g (mem m) x) each_met

  -- and exactly so often if it is tight
  pub tight_met : IsTight g x → cut_sum g ms x ≡ length ms
  unfolding cut_sum
  tight_met t = sum_ones ms (λ m. edges_in_cut g (mem m) x) (λ k d l. t.cut (mem (get_or ms k d)) (perfect k d l))

  -- if it is met so often, each matching has one edge in the cut
  pub met_once : cut_sum g ms x ≡ length ms → All (λ m. edges_in_cut g (mem m) x ≡ 1) ms
  unfolding cut_sum
  met_once s = sum_tight ms (λ m. edges_in_cut g (mem m) x) each_met s

-- one edge of m in the cut
pub lone_cut : (g : Graph) (m x : Set) (e : ℕ) → Within (size g) e → m e ≡ true → in_cut g x e ≡ true → ((f : ℕ) → Within (size g) f → f ≢ e → m f ≡ true → in_cut g x f ≡ false) → edges_in_cut g m x ≡ 1
lone_cut g m x e w me ce h = total_at (size g) (λ f. bit (m f && in_cut g x f)) e w (λ f u d. grind arith) ∙ ap bit (and_from (m e) (in_cut g x e) me ce)

pub odd_from_one : (g : Graph) (m x : Set) → IsGraph g → IsPerfect g none m → edges_in_cut g m x ≡ 1 → is_odd (count g.order x) ≡ true
odd_from_one g m x is p h = let k = inner g m x in let q : count g.order x ≡ suc (k + k) = omega (arith, parity g is m x p) in ap is_odd q ∙ ap not (odd-double k)

-- a set that has e in its cut, and no edge that lies together with e, is odd on both sides
pub odd_sides : (g : Graph) (x : Set) (e : ℕ) → IsGraph g → Within (size g) e → Allowed g e → in_cut g x e ≡ true → ((f : ℕ) → Within (size g) f → f ≢ e → Together g e f → in_cut g x f ≡ false) → (is_odd (count g.order x) ≡ true) × (is_odd (count g.order (complement x)) ≡ true)
odd_sides g x e is w a ce h = grind (arith, odd_from_one g a.0 x is a.1, lone_cut g a.0 x e w a.2 ce, complement_odd g.order x (even_order g a.0 is a.1), even_order g a.0 is a.1)

-- an edge from a to b is in the cut of a set with a and without b
pub cut_between : (g : Graph) (x : Set) (a b e : ℕ) → has_ends g a b e ≡ true → x a ≡ true → x b ≡ false → in_cut g x e ≡ true
cut_between g x a b e h xa xb = grind arith

-- the other edges that lie together with an edge of a tight cut are not in it
pub others_stay : (g : Graph) (x : Set) (e f : ℕ) → IsTight g x → Within (size g) e → Within (size g) f → f ≢ e → Together g e f → in_cut g x e ≡ true → in_cut g x f ≡ false
others_stay g x e f t we wf d q ce = false_from_ne_true (in_cut g x f) (λ cf. tight_alone g x t e f we wf (λ s. d (sym s)) ce cf q)
