-- For two vertices u and v of a bicritical graph, q(u) + q(v) is at most 2 s plus the number of
-- members that separate u from v. The sums over a perfect matching of G and over one of G - u - v
-- differ by q(u) + q(v). A loop is in no perfect matching, so the sums need no balance at loops.
use Rattle.graph_core.proofs.from_counting.Common.{◌≡◌, ℕ, suc, zero, ◌+◌, ◌*◌, ◌≤◌, ◌≢◌, Bool, true, false, ◌==◌, ◌&&◌, ◌||◌, not, List, [], ◌∷◌, sym, ap, ap₂, ◌∙◌, arith, mul-add, All, both_ways, All-head, All-tail, odd-double, total_add, total_congr, total_none, Within, bit, count, is_odd, total, Set, none, pair_set}
use Rattle.graph_core.proofs.Common.{degrees, Graph, IsGraph, degree, edges_in_cut, first_end, in_cut, inside, second_end, size, IsPerfect, IsTight}
use Rattle.separation_kit.proofs.from_barrier_kit.Common.{loop_free}
use Rattle.brick_kit.specs.Balances.{IsBalanced, apart, parts}
use Rattle.brick_kit.proofs.EndSums.{alone, ends_weight}
use Rattle.brick_kit.specs.Weights.{sum_over}

-- a sum, and without a and b
pub pair_total : (g : Graph) (m : Set) (a b : ℕ) (f : ℕ → ℕ) → Within g.order a → Within g.order b → a ≢ b → IsPerfect g (pair_set a b) m → total g.order (λ v. f v * degree g m v) + (f a + f b) ≡ total g.order f
pair_total g m a b f wa wb d p = sym (
    total_congr g.order _ _ (λ v w. grind arith)
    ∙ total_add g.order (λ v. f v * degree g m v) (λ v. bit (a == v) * f v + bit (b == v) * f v)
    ∙ ap (λ k. total g.order (λ v. f v * degree g m v) + k) (total_add g.order (λ v. bit (a == v) * f v) (λ v. bit (b == v) * f v) ∙ ap₂ ◌+◌ (alone g.order f a wa) (alone g.order f b wb)))

-- the edges of m in the cuts of a list, edge by edge
pub cut_sums : (g : Graph) (m : Set) (xs : List Set) → total (size g) (λ e. bit (m e) * apart xs (first_end g e) (second_end g e)) ≡ sum_over (edges_in_cut g m) xs
cut_sums g m [] = total_none (size g) _ (λ e w. omega arith)
cut_sums g m (x ∷ xs) =
    total_congr (size g) _ _ (λ e w. split (m e) (in_cut g x e) (apart xs (first_end g e) (second_end g e)))
    ∙ total_add (size g) (λ e. bit (m e && in_cut g x e)) (λ e. bit (m e) * apart xs (first_end g e) (second_end g e))
    ∙ ap (λ k. edges_in_cut g m x + k) (cut_sums g m xs)
  where
    split : (a c : Bool) (k : ℕ) → bit a * (bit c + k) ≡ bit (a && c) + bit a * k
    split a c k = grind arith

pub balance_total : (g : Graph) (s : ℕ) (q : ℕ → ℕ) (xs : List Set) (m : Set) → IsGraph g → IsBalanced g s q xs → ((e : ℕ) → Within (size g) e → m e ≡ true → first_end g e ≢ second_end g e) →
    total g.order (λ v. q v * degree g m v) ≡ total g.order (λ v. s * degree g m v) + sum_over (edges_in_cut g m) xs
balance_total g s q xs m is bal loop_free_edges =
    ends_weight g q m is
    ∙ total_congr (size g) _ _ (λ e w. term (m e) (q (first_end g e) + q (second_end g e)) ((s + s) + apart xs (first_end g e) (second_end g e)) (λ t. bal.each e w (loop_free_edges e w t)) ∙ mul-add (bit (m e)) (s + s) (apart xs (first_end g e) (second_end g e)))
    ∙ total_add (size g) (λ e. bit (m e) * (s + s)) (λ e. bit (m e) * apart xs (first_end g e) (second_end g e))
    ∙ ap₂ ◌+◌ (sym (ends_weight g (λ v. s) m is)) (cut_sums g m xs)
  where
    term : (b : Bool) (i j : ℕ) → (b ≡ true → i ≡ j) → bit b * i ≡ bit b * j
    term b i j h = grind arith

pub odd_or_parted : (g : Graph) (m x : Set) (a b : ℕ) → IsGraph g → Within g.order a → Within g.order b → a ≢ b → IsPerfect g (pair_set a b) m → is_odd (count g.order x) ≡ true → 1 ≤ edges_in_cut g m x + bit (parts x a b)
odd_or_parted g m x a b is wa wb d p odd = go (x a) (x b) (edges_in_cut g m x) (count (size g) (λ e. m e && inside g x e)) (count g.order x)
    (ap (λ k. k + (bit (x a) + bit (x b))) (sym (degrees g is m x)) ∙ pair_total g m a b (λ v. bit (x v)) wa wb d p) odd
  where
    even : (c k : ℕ) → c ≡ k + k → is_odd c ≡ true → ⊥
    even c k e o = both_ways (is_odd c) (ap is_odd e ∙ odd-double k) o

    go : (i j : Bool) (cut k c : ℕ) → (cut + 2 * k) + (bit i + bit j) ≡ c → is_odd c ≡ true → 1 ≤ cut + bit ((i && not j) || (not i && j))
    go true false cut k c e o = omega arith
    go false true cut k c e o = omega arith
    go true true zero k c e o = absurd (even c (k + 1) (omega arith) o)
    go true true (suc cut) k c e o = omega arith
    go false false zero k c e o = absurd (even c k (omega arith) o)
    go false false (suc cut) k c e o = omega arith

-- each member that does not part a and b has an edge of a matching without the two in its cut
members_crossed : (g : Graph) (p m : Set) (a b : ℕ) (xs : List Set) → IsGraph g → IsPerfect g none p → Within g.order a → Within g.order b → a ≢ b → IsPerfect g (pair_set a b) m → All (IsTight g) xs →
    sum_over (edges_in_cut g p) xs ≤ sum_over (edges_in_cut g m) xs + apart xs a b
members_crossed g p m a b [] is pp wa wb d pm tight = omega arith
members_crossed g p m a b (x ∷ xs) is pp wa wb d pm tight = let t = All-head (IsTight g) x xs tight in
    more (edges_in_cut g p x) (sum_over (edges_in_cut g p) xs) (edges_in_cut g m x) (sum_over (edges_in_cut g m) xs) (bit (parts x a b)) (apart xs a b)
    (t.cut p pp) (odd_or_parted g m x a b is wa wb d pm t.odd) (members_crossed g p m a b xs is pp wa wb d pm (All-tail (IsTight g) x xs tight))
  where
    more : (i is j js k ks : ℕ) → i ≡ 1 → 1 ≤ j + k → is ≤ js + ks → i + is ≤ (j + js) + (k + ks)
    more i is j js k ks p q r = omega arith

pair_numbers : (all rest alls rests s members crossings between qa qb : ℕ) → all ≡ alls + members → rest ≡ rests + crossings → rest + (qa + qb) ≡ all → rests + (s + s) ≡ alls → members ≤ crossings + between → qa + qb ≤ (s + s) + between
pair_numbers all rest alls rests s members crossings between qa qb h i j k l = omega arith

pub pair_bound : (g : Graph) (s : ℕ) (q : ℕ → ℕ) (xs : List Set) (p m : Set) (a b : ℕ) → IsGraph g → IsBalanced g s q xs → IsPerfect g none p → Within g.order a → Within g.order b → a ≢ b →
    IsPerfect g (pair_set a b) m → q a + q b ≤ (s + s) + apart xs a b
pair_bound g s q xs p m a b is bal pp wa wb d pm =
    pair_numbers (total g.order q) (total g.order (λ v. q v * degree g m v)) (total g.order (λ v. s)) (total g.order (λ v. s * degree g m v)) s
    (sum_over (edges_in_cut g p) xs) (sum_over (edges_in_cut g m) xs) (apart xs a b) (q a) (q b)
    (sym (freed q) ∙ balance_total g s q xs p is bal (loop_free g none p is pp) ∙ ap (λ k. k + sum_over (edges_in_cut g p) xs) (freed (λ v. s)))
    (balance_total g s q xs m is bal (loop_free g (pair_set a b) m is pm))
    (pair_total g m a b q wa wb d pm)
    (pair_total g m a b (λ v. s) wa wb d pm)
    (members_crossed g p m a b xs is pp wa wb d pm bal.tight)
  where
    freed : (f : ℕ → ℕ) → total g.order (λ v. f v * degree g p v) ≡ total g.order f
    freed f = grind (arith, total_congr g.order)
