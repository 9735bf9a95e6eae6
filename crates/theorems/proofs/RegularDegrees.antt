-- In an r-regular graph r times the vertices of a set are the edges in its cut and twice those
-- inside. So if each odd set has at least r edges in its cut, the order is even unless there is no
-- edge, and an odd set of 2h + 1 vertices has at most r h edges inside.
use Rattle.tree_check.proofs.from_counting.Common.{◌≡◌, ℕ, zero, suc, ◌+◌, ◌*◌, ◌/◌, ◌≤◌, true, false, ◌&&◌, refl, sym, ap, ◌∙◌, arith, eqb-true, inl, inr, ◌%◌, mul-add, mul_comm, and_parts, cases_Bool, count_complement, count_member, is_odd_remainder, member_count, total_congr, total_mul, total_none, two_members, Within, bit, count, is_odd, total, Set, complement, everything, none}
use Rattle.graph_core.proofs.Common.{degrees, first_end, missed_edges, perfect_matching, perfect_misses, second_end, Graph, IsGraph, IsMultigraph, IsPerfect, degree, inside, size}
use Rattle.theorems.specs.RegularGraphs.{HasWideOddCuts, IsRegular, cut_size}

-- how many edges have both ends in x
abbrev pub inner_size : Graph → Set → ℕ
inner_size g x = count (size g) (λ e. everything e && inside g x e)

-- a sum over the ends of all edges
pub weighted_degrees : (r : ℕ) (g : Graph) (y : ℕ → ℕ) → IsRegular r g → total g.order (λ v. y v * degree g everything v) ≡ r * total g.order y
weighted_degrees r g y regular = total_congr g.order (λ v. y v * degree g everything v) (λ v. r * y v) (λ v w. turn (y v) (degree g everything v) (regular v w)) ∙ total_mul g.order r y
  where
    turn : (b d : ℕ) → d ≡ r → b * d ≡ r * b
    turn b d h = ap (λ k. b * k) h ∙ mul_comm b r

pub each_degree : (r : ℕ) (g : Graph) (x : Set) → IsGraph g → IsRegular r g → r * count g.order x ≡ cut_size g x + 2 * inner_size g x
each_degree r g x is regular = sym (weighted_degrees r g (λ v. bit (x v)) regular) ∙ degrees g is everything x

-- all vertices
pub all_count : (n : ℕ) → count n everything ≡ n
all_count n = let c = count_complement n everything in let z : count n (complement everything) ≡ 0 = total_none n _ (λ v w. refl) in omega arith

pub all_cut : (g : Graph) → cut_size g everything ≡ 0
all_cut g = total_none (size g) _ (λ e w. refl)

pub all_edges : (r : ℕ) (g : Graph) → IsGraph g → IsRegular r g → r * g.order ≡ 2 * count (size g) everything
all_edges r g is regular =
    ap (λ n. r * n) (sym (all_count g.order))
    ∙ each_degree r g everything is regular
    ∙ (let z = all_cut g in let i : inner_size g everything ≡ count (size g) everything = refl in omega arith)

none_times : (r n : ℕ) → r ≤ 0 → r * n ≡ 0
none_times zero n h = omega arith
none_times (suc r) n h = absurd (omega arith)

-- without an edge more than none the order is even
pub order_is_even : (r : ℕ) (g : Graph) → HasWideOddCuts r g → 1 ≤ r → is_odd g.order ≡ false
order_is_even r g wide some = elim (cases_Bool (is_odd g.order)) [
  | inr f ↦ f
  | inl t ↦ let w = wide everything (ap is_odd (all_count g.order) ∙ t) in let z = all_cut g in absurd (omega arith)
]

-- where there is an edge, edges are at each vertex
pub some_degree : (r : ℕ) (g : Graph) (e : ℕ) → IsGraph g → IsRegular r g → Within (size g) e → 1 ≤ r
some_degree r g e is regular w = elim (Rattle.std.proofs.lemmas.Bool.cases_lt 0 r) [
  | inl l ↦ l
  | inr l ↦
      let z = none_times r g.order l in
      let a = all_edges r g is regular in
      let m = member_count (size g) everything e w refl in absurd (omega arith)
]

-- few edges are inside an odd set
pub few_inside : (r : ℕ) (g : Graph) (x : Set) → IsGraph g → IsRegular r g → HasWideOddCuts r g → is_odd (count g.order x) ≡ true → inner_size g x ≤ r * (count g.order x / 2)
few_inside r g x is regular wide odd =
    half (count g.order x) (cut_size g x) (inner_size g x) (each_degree r g x is regular) (wide x odd) (eqb-true (count g.order x % 2) 1 (sym (is_odd_remainder (count g.order x)) ∙ odd))
  where
    half : (k c i : ℕ) → r * k ≡ c + 2 * i → r ≤ c → k % 2 ≡ 1 → i ≤ r * (k / 2)
    half k c i h l o = grind (arith, mul-add)

-- two vertices for an edge inside
pub two_inside : (g : Graph) (x : Set) → IsMultigraph g → 1 ≤ inner_size g x → 2 ≤ count g.order x
two_inside g x is h =
    let e = count_member (size g) (λ e. everything e && inside g x e) h in
    let p = and_parts (x (first_end g e.0)) (x (second_end g e.0)) e.2 in
    two_members g.order x (first_end g e.0) (second_end g e.0) (is.ends e.0 e.1).0 (is.ends e.0 e.1).1 (is.no_loop e.0 e.1) p.0 p.1

-- a perfect matching has half as many edges as there are vertices
pub perfect_size : (g : Graph) (p : Set) → IsGraph g → IsPerfect g none p → g.order ≡ 2 * count (size g) p
perfect_size g p is pp =
    let a = missed_edges g none p is (perfect_matching g none p pp) in
    let b = perfect_misses g none p pp in
    let c = count_complement g.order none in
    let z : count g.order none ≡ 0 = total_none g.order _ (λ v w. refl) in omega arith
