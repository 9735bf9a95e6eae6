-- The pieces of an edge. Idea: an edge that lies together with it meets neither of its ends, so
-- it stays in one piece, and a tight set has it on one side.
use Rattle.graph_core.proofs.from_counting.Common.{◌≡◌, ℕ, ◌≤◌, ◌≢◌, Bool, true, false, sym, ap, ap₂, ◌∙◌, arith, ◌&&◌, ◌||◌, not, ne_eqb, or_from, both_ways, not-true, alike_not_apart, complement_odd, same_tests, count, Within, is_odd, Set, none, complement, pair_set}
use Rattle.barrier_kit.proofs.Common.{part_step, even_order}
use Rattle.graph_core.proofs.Common.{joined_walk, walk_joined, ends_of, two_ends_le_degree, has_ends-cases, adjacent-edge, adjacent_within, Walk-stays, IsClosed, joined_self, Graph, size, first_end, second_end, IsGraph, in_cut, has_ends, IsPerfect, Together, IsTight, joined, Joined, adjacent}
use Rattle.tight_cuts.proofs.PairsOfEdges.{lone_cut, odd_from_one, others_stay, cut_between}
use Rattle.tight_cuts.specs.Common.{IsBeside}
use Rattle.barrier_kit.proofs.from_match_search.NearPerfectSets.{ends_far, ends_near}

-- a set that no edge of h leaves holds all of a component or nothing
pub uncrossed_joined : (h : Graph) (s z : Set) → IsGraph h → ((f : ℕ) → Within (size h) f → in_cut h z f ≡ false) → (u v : ℕ) → joined h s u v ≡ true → z u ≡ z v
unfolding Joined IsClosed
uncrossed_joined h s z is c u v j = same_tests (z u) (z v)
    (λ t. let w = joined_walk h s u v j in Walk-stays h.order (adjacent h s) z (adjacent_within h s is) (λ p q wp wq zp a. step z c p q zp a) u v w.0 t w.1)
    (λ t. true_back (z u) (λ f. let w = joined_walk h s u v j in both_ways (z v) (not-true (z v) (Walk-stays h.order (adjacent h s) (λ p. not (z p)) (adjacent_within h s is) (λ p q wp wq zp a. step (λ p. not (z p)) (λ f wf. negated (z (first_end h f)) (z (second_end h f)) (c f wf)) p q zp a) u v w.0 (ap not f) w.1)) t))
  where
    true_back : (b : Bool) → (b ≡ false → ⊥) → b ≡ true
    true_back b h = grind arith

    negated : (s t : Bool) → ((s && not t) || (not s && t)) ≡ false → ((not s && not (not t)) || (not (not s) && not t)) ≡ false
    negated s t h = grind arith

    stay : (s t r : Bool) → ((s && not t) || (not s && t)) ≡ false → s ≡ true → t ≡ r → r ≡ true
    stay s t r h p q = grind arith

    stay' : (s t r : Bool) → ((s && not t) || (not s && t)) ≡ false → t ≡ true → s ≡ r → r ≡ true
    stay' s t r h p q = grind arith

    step : (z : Set) → ((f : ℕ) → Within (size h) f → in_cut h z f ≡ false) → (p q : ℕ) → z p ≡ true → adjacent h s p q ≡ true → z q ≡ true
    step z c p q zp a = grind (arith, adjacent-edge h s p q a, has_ends-cases h p q, stay, stay')

-- an edge between a and b has an end at each
pub ends_at : (g : Graph) (a b e : ℕ) → has_ends g a b e ≡ true → (1 ≤ ends_of g e a) × (1 ≤ ends_of g e b)
ends_at g a b e h = grind (arith, ends_near g e, ends_far g e, has_ends-cases g a b e h, ends_of g e)

-- a second edge of a perfect matching has no end at an end of the first
pub apart_ends : (g : Graph) (m : Set) (e f v : ℕ) → IsPerfect g none m → Within g.order v → Within (size g) e → Within (size g) f → e ≢ f → m e ≡ true → m f ≡ true → 1 ≤ ends_of g e v → (v ≢ first_end g f) × (v ≢ second_end g f)
apart_ends g m e f v p wv we wf d me mf o = grind (arith, two_ends_le_degree g m e f v we wf d me mf, ends_near g f, ends_far g f, ends_of g f)

module _ (g h : Graph) (is : IsGraph g) (a b e : ℕ) (wa : Within g.order a) (wb : Within g.order b) (we : Within (size g) e) (ends : has_ends g a b e ≡ true) (beside : IsBeside g e h) where
  pub beside_graph : IsGraph h
  beside_graph f w = let d = beside.from f w in let q = is d.0 d.1 in let n = d.4 in let r = d.5 in let o = beside.order in ((omega arith, omega arith), (omega arith, omega arith))

  -- an edge that lies together with e has no end a or b
  pub outside_pair : (f : ℕ) → Within (size g) f → f ≢ e → Together g e f → (pair_set a b (first_end g f) ≡ false) × (pair_set a b (second_end g f) ≡ false)
  outside_pair f wf d t = grind (arith, ends_at, apart_ends, or_from, first_end, ne_eqb, second_end)

  -- an edge of the perfect matching with e stays in each piece
  beside_stays : (f u : ℕ) → Within g.order u → Within (size g) f → f ≢ e → beside.base f ≡ true → joined h (pair_set a b) u (first_end g f) ≡ joined h (pair_set a b) u (second_end g f)
  beside_stays f u wu wf d t = grind (arith, outside_pair f wf d (beside.base, beside.perfect, beside.held, t), part_step h (pair_set a b) u, beside_graph)

  -- so its ends are in one piece
  beside_joined : (f : ℕ) → Within (size g) f → f ≢ e → beside.base f ≡ true → joined h (pair_set a b) (first_end g f) (second_end g f) ≡ true
  beside_joined f wf d t = let w = is f wf in let r = beside.order in
      sym (beside_stays f (first_end g f) w.0 wf d t) ∙ walk_joined h (pair_set a b) beside_graph (first_end g f) (first_end g f) (omega arith) (joined_self h (pair_set a b) (first_end g f))

  -- a tight set with e in its cut is a union of pieces, and of some of a, b
  pub tight_piece : (x : Set) → IsTight g x → in_cut g x e ≡ true → (u v : ℕ) → joined h (pair_set a b) u v ≡ true → x u ≡ x v
  tight_piece x t c u v j = uncrossed_joined h (pair_set a b) x beside_graph (λ f w. let d = beside.from f w in
      ap₂ (λ p q. (x p && not (x q)) || (not (x p) && x q)) d.4 d.5 ∙ others_stay g x e d.0 t we d.1 d.2 d.3 c) u v j

  -- a set with a, without b, that is a union of pieces otherwise is odd on both sides
  pub pieces_odd : (x : Set) → x a ≡ true → x b ≡ false → ((u v : ℕ) → Within g.order u → Within g.order v → joined h (pair_set a b) u v ≡ true → x u ≡ x v) → (is_odd (count g.order x) ≡ true) × (is_odd (count g.order (complement x)) ≡ true)
  pieces_odd x xa xb c =
      let o = odd_from_one g beside.base x is beside.perfect (lone_cut g beside.base x e we beside.held (cut_between g x a b e ends xa xb) (λ f wf d t.
      alike_not_apart (x (first_end g f)) (x (second_end g f)) (c (first_end g f) (second_end g f) (is f wf).0 (is f wf).1 (beside_joined f wf d t)))) in
      (o, complement_odd g.order x (even_order g beside.base is beside.perfect) o)
