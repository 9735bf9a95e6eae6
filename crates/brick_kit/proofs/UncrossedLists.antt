-- A balanced list in which two members X and Y are replaced by X ∩ Y and X ∪ Y is balanced, and its
-- members separate fewer pairs. For each pair of vertices X ∩ Y and X ∪ Y separate it as often as X
-- and Y do, and twice less if one vertex is in X - Y and the other in Y - X.
use Rattle.graph_core.proofs.from_counting.Common.{◌≡◌, ℕ, ◌+◌, ◌*◌, ◌≤◌, ◌<◌, Bool, true, false, ◌&&◌, ◌||◌, not, List, ◌∷◌, refl, ap, ◌∙◌, arith, All-cons, All-head, All-tail, total_congr, total_le, Within, bit, count, is_odd, total, Set, complement, meet, minus, union}
use Rattle.graph_core.proofs.Common.{meet_tight, no_edge_joins, union_tight, IsCovered, Graph, IsGraph, first_end, second_end, IsTight}
use Rattle.separation_kit.proofs.from_barrier_kit.Common.{tight-turned}
use Rattle.brick_kit.proofs.PartingShores.{Picked}
use Rattle.brick_kit.specs.Balances.{IsBalanced, apart, parts}
use Rattle.brick_kit.proofs.EdgeSums.{total_less}

-- the sum of apart over all ordered pairs of vertices
abbrev pub spread : ℕ → List Set → ℕ
spread n xs = total n (λ u. total n (λ v. apart xs u v))

pub parts_uncrossed : (x t : Set) (u v : ℕ) → bit (parts x u v) + bit (parts t u v) ≡ bit (parts (meet x t) u v) + bit (parts (union x t) u v)
    + 2 * bit ((minus x t u && minus t x v) || (minus t x u && minus x t v))
parts_uncrossed x t u v = grind arith

pub balance_uncrossed : (g : Graph) (s : ℕ) (q : ℕ → ℕ) (x t : Set) (rest : List Set) → IsGraph g → IsCovered g → IsBalanced g s q (x ∷ t ∷ rest) → is_odd (count g.order (meet x t)) ≡ true → IsBalanced g s q (meet x t ∷ union x t ∷ rest)
balance_uncrossed g s q x t rest is cov b odd =
    let tx = All-head (IsTight g) x (t ∷ rest) b.tight in
    let tail = All-tail (IsTight g) x (t ∷ rest) b.tight in
    let tt = All-head (IsTight g) t rest tail in
    record {
      tight = All-cons (IsTight g) (meet x t) (union x t ∷ rest) (meet_tight g is cov x t tx tt odd) (All-cons (IsTight g) (union x t) rest (union_tight g is cov x t tx tt odd) (All-tail (IsTight g) t rest tail));
      each = λ e w d. settle (q (first_end g e) + q (second_end g e)) (s + s) (bit (parts x (first_end g e) (second_end g e))) (bit (parts t (first_end g e) (second_end g e)))
          (bit (parts (meet x t) (first_end g e) (second_end g e))) (bit (parts (union x t) (first_end g e) (second_end g e)))
          (bit ((minus x t (first_end g e) && minus t x (second_end g e)) || (minus t x (first_end g e) && minus x t (second_end g e))))
          (apart rest (first_end g e) (second_end g e))
          (b.each e w d) (parts_uncrossed x t (first_end g e) (second_end g e)) (ap bit (no_edge_joins g is cov x t tx tt odd e w));
    }
  where
    settle : (l s2 a b c d z r : ℕ) → l ≡ s2 + (a + (b + r)) → a + b ≡ c + d + 2 * z → z ≡ 0 → l ≡ s2 + (c + (d + r))
    settle l s2 a b c d z r h i j = omega arith

pub balance_picked : (g : Graph) (s : ℕ) (q : ℕ → ℕ) (x t : Set) (xs rest : List Set) → Picked g xs t rest → IsBalanced g s q (x ∷ xs) → IsBalanced g s q (x ∷ t ∷ rest)
balance_picked g s q x t xs rest p b = let k = p.tight (All-tail (IsTight g) x xs b.tight) in record {
  tight = All-cons (IsTight g) x (t ∷ rest) (All-head (IsTight g) x xs b.tight) (All-cons (IsTight g) t rest k.0 k.1);
  each = λ e w d. b.each e w d ∙ ap (λ k. (s + s) + (bit (parts x (first_end g e) (second_end g e)) + k)) (p.sums (λ y. bit (parts y (first_end g e) (second_end g e))));
}

-- a set and its complement part the same vertices
pub parts_turned : (t : Set) (u v : ℕ) → parts t u v ≡ parts (complement t) u v
parts_turned t u v = grind arith

pub balance_turned : (g : Graph) (s : ℕ) (q : ℕ → ℕ) (x t : Set) (rest : List Set) → IsBalanced g s q (x ∷ t ∷ rest) → IsBalanced g s q (x ∷ complement t ∷ rest)
balance_turned g s q x t rest b = let tail = All-tail (IsTight g) x (t ∷ rest) b.tight in record {
  tight = All-cons (IsTight g) x (complement t ∷ rest) (All-head (IsTight g) x (t ∷ rest) b.tight) (All-cons (IsTight g) (complement t) rest (tight-turned g t (All-head (IsTight g) t rest tail)) (All-tail (IsTight g) t rest tail));
  each = λ e w d. b.each e w d ∙ ap (λ k. (s + s) + (bit (parts x (first_end g e) (second_end g e)) + (bit k + apart rest (first_end g e) (second_end g e)))) (parts_turned t (first_end g e) (second_end g e));
}

pub balance_exchanged : (g : Graph) (s : ℕ) (q : ℕ → ℕ) (x t : Set) (rest : List Set) → IsBalanced g s q (x ∷ t ∷ rest) → IsBalanced g s q (t ∷ x ∷ rest)
balance_exchanged g s q x t rest b = let tail = All-tail (IsTight g) x (t ∷ rest) b.tight in record {
  tight = All-cons (IsTight g) t (x ∷ rest) (All-head (IsTight g) t rest tail) (All-cons (IsTight g) x rest (All-head (IsTight g) x (t ∷ rest) b.tight) (All-tail (IsTight g) t rest tail));
  each = λ e w d. let c = b.each e w d in omega arith;
}

pub spread_same : (n : ℕ) (xs ys : List Set) → ((u v : ℕ) → apart xs u v ≡ apart ys u v) → spread n xs ≡ spread n ys
spread_same n xs ys h = total_congr n _ _ (λ u w. total_congr n _ _ (λ v z. h u v))

pub spread_falls : (n : ℕ) (x t : Set) (rest : List Set) (a b : ℕ) → Within n a → Within n b → x a ≡ true → t a ≡ false → x b ≡ false → t b ≡ true → spread n (meet x t ∷ union x t ∷ rest) < spread n (x ∷ t ∷ rest)
spread_falls n x t rest a b wa wb xa ta xb tb =
    total_less n (λ u. total n (λ v. apart (meet x t ∷ union x t ∷ rest) u v)) (λ u. total n (λ v. apart (x ∷ t ∷ rest) u v))
    (λ u w. total_le n (λ v. apart (meet x t ∷ union x t ∷ rest) u v) (λ v. apart (x ∷ t ∷ rest) u v) (λ v z. rises u v)) a wa
    (total_less n (λ v. apart (meet x t ∷ union x t ∷ rest) a v) (λ v. apart (x ∷ t ∷ rest) a v) (λ v z. rises a v) b wb
    (falls (bit (parts x a b)) (bit (parts t a b)) (bit (parts (meet x t) a b)) (bit (parts (union x t) a b)) (bit ((minus x t a && minus t x b) || (minus t x a && minus x t b))) (apart rest a b)
    (parts_uncrossed x t a b) (crosses (x a) (t a) (x b) (t b) xa ta xb tb)))
  where
    falls : (a b c d z r : ℕ) → a + b ≡ c + d + 2 * z → z ≡ 1 → c + (d + r) < a + (b + r)
    falls a b c d z r h i = omega arith

    rises : (u v : ℕ) → apart (meet x t ∷ union x t ∷ rest) u v ≤ apart (x ∷ t ∷ rest) u v
    rises u v = grind arith

    crosses : (p q r s : Bool) → p ≡ true → q ≡ false → r ≡ false → s ≡ true → bit (((p && not q) && (s && not r)) || ((q && not p) && (r && not s))) ≡ 1
    crosses p q r s i j k l = rw (i, j, k, l) refl
