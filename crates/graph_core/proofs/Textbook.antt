-- A matching by degrees is a set of edges of which no two share an end. Two edges at a vertex
-- would make its degree two; where no two are there, a sum of ends is at most one.
use Rattle.vset_core.proofs.from_counting.Common.{◌≡◌, ℕ, suc, zero, ◌*◌, ◌≤◌, ◌≢◌, Bool, true, refl, sym, arith, inl, inr, eq-eqb, ne_eqb, cases_eq, true≢false, total_none, Within, bit, total, Set, none}
use Rattle.graph_core.proofs.Edits.{degree_sum, ends_of, ends_of_is, two_ends_le_degree}
use Rattle.graph_core.specs.Common.{Graph, HasNoLoop, IsGraph, degree, first_end, second_end, size, IsEnd, IsMatching, ShareNoEnd}

pub one_end : (g : Graph) (e v : ℕ) → IsEnd g e v → 1 ≤ ends_of g e v
one_end g e v h = grind (arith, ends_of_is g e (first_end g e) (second_end g e), eq-eqb (first_end g e) v, eq-eqb (second_end g e) v)

-- in the textbook's words: a matching has no two edges that share an end
pub matching_apart : (g : Graph) (m : Set) → IsMatching g none m → ShareNoEnd g m
matching_apart g m mm e f v we wf wv me mf ee ff = grind (arith, cases_eq e f, two_ends_le_degree g m e f v we wf, one_end g e v ee, one_end g f v ff)

-- an edge that is not a loop has at most one end at a vertex
pub ends_one : (g : Graph) (e v : ℕ) → first_end g e ≢ second_end g e → ends_of g e v ≤ 1
ends_one g e v d = grind (arith, ends_of_is g e (first_end g e) (second_end g e) (inl (refl, refl)) v)

-- and where no edge is a loop, such a set is a matching
pub apart_matching : (g : Graph) (m : Set) → IsGraph g → HasNoLoop g → ShareNoEnd g m → IsMatching g none m
apart_matching g m is no_loop h = record { once = once; away = λ v w o. absurd (true≢false (sym o)) }
  where
    is_end : (e v : ℕ) → 1 ≤ ends_of g e v → IsEnd g e v
    is_end e v p = grind (arith, ends_of_is g e (first_end g e) (second_end g e), cases_eq (first_end g e) v, cases_eq (second_end g e) v, ne_eqb (first_end g e) v, ne_eqb (second_end g e) v)

    -- a sum with terms of at most 1, of which two are never both 1
    sum_le_one : (k : ℕ) (f : ℕ → ℕ) → ((e : ℕ) → Within k e → f e ≤ 1) → ((d e : ℕ) → Within k d → Within k e → 1 ≤ f d → 1 ≤ f e → d ≡ e) → total k f ≤ 1
    sum_le_one zero f a b = omega arith
    sum_le_one (suc k) f a b = elim (cases_eq (f (suc k)) 0) [
      | inl z ↦ let ih = sum_le_one k f (λ e w. a e (omega arith)) (λ d e wd we. b d e (omega arith) (omega arith)) in omega arith
      | inr z ↦ let t = total_none k f (λ e w. elim (cases_eq (f e) 0) [ inl q ↦ q | inr q ↦ let s = b e (suc k) (omega arith) (omega arith) (omega arith) (omega arith) in absurd (omega arith) ]) in
          let l = a (suc k) (omega arith) in omega arith
    ]

    in_both : (b : Bool) (k : ℕ) → 1 ≤ bit b * k → (b ≡ true) × (1 ≤ k)
    in_both b k q = grind arith

    once : (v : ℕ) → Within g.order v → degree g m v ≤ 1
    once v wv = let s = degree_sum g m v in
        let t = sum_le_one (size g) (λ e. bit (m e) * ends_of g e v) (λ e w. let a = ends_one g e v (no_loop e w) in grind arith)
        (λ d e wd we pd pe. let x = in_both (m d) (ends_of g d v) pd in let y = in_both (m e) (ends_of g e v) pe in h d e v wd we wv x.0 y.0 (is_end d v x.1) (is_end e v y.1)) in omega arith
