-- An even alternating path exchanged moves the missed vertex to its other end; two disjoint ones
-- and an edge augment. By pairs of edges from the front: each pair moves the missed vertex by two
-- places, and all other degrees stay.
use Rattle.graph_core.proofs.from_counting.Common.{◌≡◌, ℕ, suc, zero, ◌+◌, ◌*◌, ◌≤◌, ◌<◌, ◌≢◌, Bool, true, false, cond, ◌==◌, refl, sym, ap, ◌∙◌, arith, not, eq-eqb, ne_eqb, inl, inr, subst, cases_eq, both_ways, count_put, odd-double, Within, bit, count, Set, put}
use Rattle.graph_core.proofs.Common.{add_edge, degree_put, ends_of, ends_of_is, Graph, degree, size, HasEnds, IsMatching}
use Rattle.match_search.proofs.OddCycles.{same_ends}
use Rattle.match_search.specs.Common.{IsAlternating, IsPath, flipped}

pub put_at : (m : Set) (e : ℕ) (b : Bool) → put m e b e ≡ b
put_at m e b = ap (λ t. cond t b (m e)) (eq-eqb e e refl)

pub put_off : (m : Set) (e : ℕ) (b : Bool) (d : ℕ) → d ≢ e → put m e b d ≡ m d
put_off m e b d n = ap (λ t. cond t b (m d)) (ne_eqb d e n)

module _ (g : Graph) (r : Set) (k : ℕ) (v e : ℕ → ℕ) (is : IsPath g r k v e) where
  pub path_edges : (i j : ℕ) → i < k + k → j < k + k → e i ≡ e j → i ≡ j
  path_edges i j wi wj q = grind arith

-- an edge with other ends than those of the path's edges is none of them
module _ (g : Graph) (r f : Set) (mm : IsMatching g r f) (k : ℕ) (v e : ℕ → ℕ) (is : IsAlternating g r f k v e) where
  pub flipped_off : (i d : ℕ) → i ≤ k → ((j : ℕ) → j < i + i → d ≢ e j) → flipped f e i d ≡ f d
  flipped_off zero d le n = refl
  flipped_off (suc i) d le n =
      put_off (put (flipped f e i) (e (i + i)) true) (e (suc (i + i))) false d (n (suc (i + i)) (omega arith))
      ∙ put_off (flipped f e i) (e (i + i)) true d (n (i + i) (omega arith))
      ∙ flipped_off i d (omega arith) (λ j l. n j (omega arith))

  before_false : (i : ℕ) → suc i ≤ k → flipped f e i (e (i + i)) ≡ false
  before_false i l = flipped_off i (e (i + i)) (omega arith) (λ j m q. let a = path_edges g r k v e is.path (i + i) j (omega arith) (omega arith) q in absurd (omega arith)) ∙ is.turns (i + i) (omega arith) ∙ odd-double i

  before_true : (i : ℕ) → suc i ≤ k → put (flipped f e i) (e (i + i)) true (e (suc (i + i))) ≡ true
  before_true i l =
      put_off (flipped f e i) (e (i + i)) true (e (suc (i + i))) (λ q. let a = path_edges g r k v e is.path (suc (i + i)) (i + i) (omega arith) (omega arith) q in absurd (omega arith))
      ∙ flipped_off i (e (suc (i + i))) (omega arith) (λ j m q. let a = path_edges g r k v e is.path (suc (i + i)) j (omega arith) (omega arith) q in absurd (omega arith))
      ∙ is.turns (suc (i + i)) (omega arith) ∙ ap not (odd-double i)

  -- the first i pairs of edges move what is missed from v 0 to v (i + i)
  pub flipped_degree : (i w : ℕ) → i ≤ k → degree g (flipped f e i) w + bit (v (i + i) == w) ≡ degree g f w + bit (v 0 == w)
  flipped_degree zero w l = ap (λ s. degree g f w + bit (v s == w)) (omega arith)
  flipped_degree (suc i) w l =
      let a = degree_put g (flipped f e i) (e (i + i)) true w (is.path.real (i + i) (omega arith)) in
      let b = degree_put g (put (flipped f e i) (e (i + i)) true) (e (suc (i + i))) false w (is.path.real (suc (i + i)) (omega arith)) in
      let c = ap (λ s. bit s * ends_of g (e (i + i)) w) (before_false i l) in
      let d = ap (λ s. bit s * ends_of g (e (suc (i + i))) w) (before_true i l) in
      let x = ends_of_is g (e (i + i)) (v (i + i)) (v (suc (i + i))) (is.path.ends (i + i) (omega arith)) w in
      let y = ends_of_is g (e (suc (i + i))) (v (suc (i + i))) (v (suc (suc (i + i)))) (is.path.ends (suc (i + i)) (omega arith)) w in
      let z : bit (v (suc i + suc i) == w) ≡ bit (v (suc (suc (i + i))) == w) = ap (λ s. bit (v s == w)) (omega arith) in
      let h = flipped_degree i w (omega arith) in
      omega arith

  pub flipped_count : (i : ℕ) → i ≤ k → count (size g) (flipped f e i) ≡ count (size g) f
  flipped_count zero l = refl
  flipped_count (suc i) l =
      let a = count_put (size g) (flipped f e i) (e (i + i)) true (is.path.real (i + i) (omega arith)) in
      let b = count_put (size g) (put (flipped f e i) (e (i + i)) true) (e (suc (i + i))) false (is.path.real (suc (i + i)) (omega arith)) in
      let c = ap bit (before_false i l) in
      let d = ap bit (before_true i l) in
      let h = flipped_count i (omega arith) in
      omega arith

  room : (w : ℕ) → Within g.order w → degree g f w + bit (v 0 == w) ≤ 1
  room w ww = elim (cases_eq (v 0) w) [
    | inl q ↦ let a = ap (degree g f) q in let b = is.free in let c = ap bit (eq-eqb (v 0) w q) in omega arith
    | inr q ↦ let c = ap bit (ne_eqb (v 0) w q) in let o = mm.once w ww in omega arith
  ]

  pub flipped_matching : (i : ℕ) → i ≤ k → IsMatching g r (flipped f e i)
  flipped_matching i l = grind (arith, flipped_degree i, ne_eqb (v 0), both_ways)

  pub flipped_end : (i : ℕ) → i ≤ k → degree g (flipped f e i) (v (i + i)) ≡ 0
  flipped_end i l = let a = flipped_degree i (v (i + i)) l in let b = room (v (i + i)) (is.path.within (i + i) (omega arith)) in let c = ap bit (eq-eqb (v (i + i)) (v (i + i)) refl) in omega arith

  pub flipped_elsewhere : (i w : ℕ) → i ≤ k → v 0 ≢ w → v (i + i) ≢ w → degree g (flipped f e i) w ≡ degree g f w
  flipped_elsewhere i w l p q = let a = flipped_degree i w l in let b = ap bit (ne_eqb (v 0) w p) in let c = ap bit (ne_eqb (v (i + i)) w q) in omega arith

-- two paths without a common vertex, and an edge between their last vertices
pub augmented : (g : Graph) (r f : Set) → IsMatching g r f → (k : ℕ) (v e : ℕ → ℕ) → IsAlternating g r f k v e → (l : ℕ) (w d : ℕ → ℕ) → IsAlternating g r f l w d → ((i j : ℕ) → i ≤ k + k → j ≤ l + l → v i ≢ w j) →
    (a : ℕ) → Within (size g) a → HasEnds g a (v (k + k)) (w (l + l)) → IsMatching g r (put (flipped (flipped f e k) d l) a true) × (count (size g) (put (flipped (flipped f e k) d l) a true) ≡ count (size g) f + 1)
augmented g r f mm k v e p l w d q apart a wa ends = (added.0, (let x = added.1 in let y = size_2 in omega arith))
  where
    f1 : Set
    f1 = flipped f e k

    kk : k ≤ k
    kk = omega arith

    ll : l ≤ l
    ll = omega arith

    m1 : IsMatching g r f1
    m1 = flipped_matching g r f mm k v e p k kk

    other : (i j : ℕ) → i < l + l → j < k + k → d i ≢ e j
    other i j wi wj same =
        elim (same_ends g (d i) (w i) (w (suc i)) (v j) (v (suc j)) (q.path.ends i wi) (subst (λ x. HasEnds g x (v j) (v (suc j))) (sym same) (p.path.ends j wj))) [
          | inl x ↦ apart j i (omega arith) (omega arith) (sym x.0)
          | inr x ↦ apart (suc j) i (omega arith) (omega arith) (sym x.0)
        ]

    q1 : IsAlternating g r f1 l w d
    q1 = record {
      path = q.path;
      free = flipped_elsewhere g r f mm k v e p k (w 0) kk (apart 0 0 (omega arith) (omega arith)) (apart (k + k) 0 (omega arith) (omega arith)) ∙ q.free;
      turns = λ i wi. flipped_off g r f mm k v e p k (d i) kk (λ j wj. other i j wi wj) ∙ q.turns i wi;
    }

    f2 : Set
    f2 = flipped f1 d l

    m2 : IsMatching g r f2
    m2 = flipped_matching g r f1 m1 l w d q1 l ll

    size_2 : count (size g) f2 ≡ count (size g) f
    size_2 = flipped_count g r f1 m1 l w d q1 l ll ∙ flipped_count g r f mm k v e p k kk

    u_free : degree g f2 (v (k + k)) ≡ 0
    u_free = flipped_elsewhere g r f1 m1 l w d q1 l (v (k + k)) ll (λ s. apart (k + k) 0 (omega arith) (omega arith) (sym s)) (λ s. apart (k + k) (l + l) (omega arith) (omega arith) (sym s)) ∙ flipped_end g r f mm k v e p k kk

    w_free : degree g f2 (w (l + l)) ≡ 0
    w_free = flipped_end g r f1 m1 l w d q1 l ll

    added : IsMatching g r (put f2 a true) × (count (size g) (put f2 a true) ≡ count (size g) f2 + 1)
    added = add_edge g r f2 a (v (k + k)) (w (l + l)) m2 wa (apart (k + k) (l + l) (omega arith) (omega arith)) (p.path.outside (k + k) (omega arith)) (q.path.outside (l + l) (omega arith)) ends u_free w_free

pub two_paths : (g : Graph) (r f : Set) → IsMatching g r f → (k : ℕ) (v e : ℕ → ℕ) → IsAlternating g r f k v e → (l : ℕ) (w d : ℕ → ℕ) → IsAlternating g r f l w d → ((i j : ℕ) → i ≤ k + k → j ≤ l + l → v i ≢ w j) →
    (a : ℕ) → Within (size g) a → HasEnds g a (v (k + k)) (w (l + l)) → (m : Set) × IsMatching g r m × (count (size g) m ≡ count (size g) f + 1)
two_paths g r f mm k v e p l w d q apart a wa ends = let s = augmented g r f mm k v e p l w d q apart a wa ends in (put (flipped (flipped f e k) d l) a true, s.0, s.1)
