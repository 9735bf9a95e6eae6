-- The two-ear theorem. If no pair serves alone and no two do together, each pair lies in a class
-- or outside it; the parts of a class that keep the pairs outside joined are united, and the
-- union leaves too many components.
use Rattle.graph_core.proofs.from_counting.Common.{◌≡◌, ℕ, suc, zero, ◌+◌, ◌*◌, ◌≤◌, ◌≢◌, Bool, true, false, cond, ◌==◌, refl, sym, ap, ◌∙◌, arith, ◌&&◌, not, eq-eqb, ne_eqb, eqb-true, ◌⊎◌, inl, inr, [], ◌∷◌, List, length, same_tests, cases_eq, and_left, true≢false, not-true, not-false, or_left, or_right, or_cases, total_add, total_at, total_congr, total_zero, Within, bit, count, total, Set, union, IsIn}
use Rattle.graph_core.proofs.Common.{component_count, IsCovered, Graph, IsGraph, degree, first_end, second_end, size, with_ends, HasPerfect, IsPerfect, Equivalent, IsBarrier}
use Rattle.barrier_kit.proofs.Common.{perfect_or_not, equivalent_back, equivalent_on, class_barrier, perfect_congr, class_set, class_list}
use Rattle.two_ears.proofs.AddedEdges.{degree-with_pairs, each-with_pairs, keeps-with_pairs, with_new}
use Rattle.two_ears.proofs.BarrierComponents.{few_components, none_inside, unite_parts}
use Rattle.two_ears.proofs.ComponentCuts.{odd_need}
use Rattle.two_ears.proofs.JoinedClasses.{keeps-itself}
use Rattle.two_ears.proofs.PairBarriers.{PairBarrier, pairs_barrier, same_components}
use Rattle.two_ears.specs.AddedEdges.{KeepsEdges, with_pairs}
use Rattle.two_ears.specs.VertexPairs.{AreDisjoint, in_pairs, pairs_at, set_of_pair}

-- one of two for each pair of a list
pub scan_pairs : (P Q : ℕ × ℕ → Type 0) → ((p : ℕ × ℕ) → P p ⊎ Q p) → (ps : List (ℕ × ℕ)) → ((p : ℕ × ℕ) × IsIn p ps × P p) ⊎ ((p : ℕ × ℕ) → IsIn p ps → Q p)
scan_pairs P Q h [] = inr (λ p i. absurd i)
scan_pairs P Q h (q ∷ ps) = elim (h q) [
  | inl a ↦ inl (q, inl refl, a)
  | inr b ↦ grind (arith, scan_pairs P Q h ps)
]

pub two_or_none : (g : Graph) (ps : List (ℕ × ℕ)) → ((p : ℕ × ℕ) × (q : ℕ × ℕ) × IsIn p ps × IsIn q ps × HasPerfect g (union (set_of_pair p) (set_of_pair q))) ⊎ ((p : ℕ × ℕ) → IsIn p ps → (q : ℕ × ℕ) → IsIn q ps → (m : Set) → IsPerfect g (union (set_of_pair p) (set_of_pair q)) m → ⊥)
two_or_none g ps = elim (scan_pairs (λ p. (q : ℕ × ℕ) × IsIn q ps × HasPerfect g (union (set_of_pair p) (set_of_pair q))) (λ p. (q : ℕ × ℕ) → IsIn q ps → (m : Set) → IsPerfect g (union (set_of_pair p) (set_of_pair q)) m → ⊥)
    (λ p. scan_pairs (λ q. HasPerfect g (union (set_of_pair p) (set_of_pair q))) (λ q. (m : Set) → IsPerfect g (union (set_of_pair p) (set_of_pair q)) m → ⊥) (λ q. perfect_or_not g (union (set_of_pair p) (set_of_pair q))) ps) ps) [
      | inl r ↦ inl (r.0, r.2.0, r.1, r.2.1, r.2.2)
      | inr f ↦ inr f
    ]

-- the pairs whose first vertex is in s, and the others
pub pairs_in : Set → List (ℕ × ℕ) → List (ℕ × ℕ)
pairs_in s [] = []
pairs_in s (p ∷ ps) = cond (s p.0) (p ∷ pairs_in s ps) (pairs_in s ps)

pub pairs_in_has : (s : Set) (ps : List (ℕ × ℕ)) (p : ℕ × ℕ) → IsIn p (pairs_in s ps) → IsIn p ps × (s p.0 ≡ true)
unfolding pairs_in
pairs_in_has s [] p i = absurd i
pairs_in_has s (q ∷ ps) p i = go (s q.0) refl i (pairs_in_has s ps p)
  where
    go : (b : Bool) → s q.0 ≡ b → IsIn p (cond b (q ∷ pairs_in s ps) (pairs_in s ps)) → (IsIn p (pairs_in s ps) → IsIn p ps × (s p.0 ≡ true)) → IsIn p (q ∷ ps) × (s p.0 ≡ true)
    go true e j h = elim j [ inl k ↦ (inl k, ap (λ r. s r.0) k ∙ e) | inr k ↦ let r = h k in (inr r.0, r.1) ]
    go false e j h = let r = h j in (inr r.0, r.1)

pub pairs_ends : (s : Set) (ps : List (ℕ × ℕ)) (v : ℕ) → pairs_at (pairs_in s ps) v + pairs_at (pairs_in (λ w. not (s w)) ps) v ≡ pairs_at ps v
unfolding pairs_in
pairs_ends s [] v = refl
pairs_ends s (q ∷ ps) v = go (s q.0) (pairs_ends s ps v)
  where
    go : (b : Bool) → pairs_at (pairs_in s ps) v + pairs_at (pairs_in (λ w. not (s w)) ps) v ≡ pairs_at ps v →
        pairs_at (cond b (q ∷ pairs_in s ps) (pairs_in s ps)) v + pairs_at (cond (not b) (q ∷ pairs_in (λ w. not (s w)) ps) (pairs_in (λ w. not (s w)) ps)) v ≡ (bit (q.0 == v) + bit (q.1 == v)) + pairs_at ps v
    go true e = omega arith
    go false e = omega arith

pub ends_of_one : (ps : List (ℕ × ℕ)) (p : ℕ × ℕ) (v : ℕ) → IsIn p ps → bit (p.0 == v) + bit (p.1 == v) ≤ pairs_at ps v
ends_of_one [] p v i = absurd i
ends_of_one (q ∷ ps) p v i = elim i [
  | inl e ↦ let a = ap (λ r. bit (r.0 == v) + bit (r.1 == v)) e in omega arith
  | inr j ↦ let a = ends_of_one ps p v j in omega arith
]

pub ends_total : (n : ℕ) (ps : List (ℕ × ℕ)) → ((p : ℕ × ℕ) → IsIn p ps → Within n p.0 × Within n p.1) → total n (pairs_at ps) ≡ 2 * length ps
ends_total n [] w = total_zero n
ends_total n (p ∷ ps) w =
    let a = total_add n (λ v. bit (p.0 == v) + bit (p.1 == v)) (pairs_at ps) in
    let b = total_add n (λ v. bit (p.0 == v)) (λ v. bit (p.1 == v)) in
    let c = once p.0 (w p (inl refl)).0 in
    let d = once p.1 (w p (inl refl)).1 in
    let e = ends_total n ps (λ q i. w q (inr i)) in omega arith
  where
    once : (c : ℕ) → Within n c → total n (λ v. bit (c == v)) ≡ 1
    once c w = total_at n (λ v. bit (c == v)) c w (λ v u e. ap bit (ne_eqb c v (λ q. e (sym q)))) ∙ ap bit (eq-eqb c c refl)

-- the sum of the barriers of the pairs in one class
record Joint (g : Graph) (s : Set) (xs : List (ℕ × ℕ)) (es : List (ℕ × ℕ)) : Type 0 where
  b : Set
  less : (w : ℕ) → Within g.order w → b w ≡ true → s w ≡ true
  has : (w : ℕ) → 1 ≤ pairs_at es w → b w ≡ true
  large : count g.order b + 1 ≤ component_count (with_ends g xs) b + length es

module _ (g : Graph) (is : IsGraph g) (cov : IsCovered g) (p0 : ℕ × ℕ) (rest : List (ℕ × ℕ)) (dis : AreDisjoint g.order (p0 ∷ rest)) (m : Set) (perfect : IsPerfect g (in_pairs (p0 ∷ rest)) m)
    (no_two : (p : ℕ × ℕ) → IsIn p (p0 ∷ rest) → (q : ℕ × ℕ) → IsIn q (p0 ∷ rest) → (k : Set) → IsPerfect g (union (set_of_pair p) (set_of_pair q)) k → ⊥) where
  abbrev ps : List (ℕ × ℕ)
  ps = p0 ∷ rest

  -- the class of the first vertex
  s : Set
  s = class_set g p0.0

  w0 : Within g.order p0.0
  w0 = (dis.within p0 (inl refl)).0

  bar : IsBarrier g s
  unfolding s
  bar = class_barrier g p0.0 (class_set g p0.0) is cov w0 (class_list g p0.0)

  in_s : (w : ℕ) → Within g.order w → Equivalent g p0.0 w → s w ≡ true
  unfolding s
  in_s w ww e = (class_list g p0.0).all w ww e

  of_s : (w : ℕ) → Within g.order w → s w ≡ true → Equivalent g p0.0 w
  unfolding s
  of_s w ww e = (class_list g p0.0).holds w ww e

  alone : (p : ℕ × ℕ) → IsIn p ps → (k : Set) → IsPerfect g (set_of_pair p) k → ⊥
  alone p i k q = no_two p i p i k (perfect_congr g (set_of_pair p) (union (set_of_pair p) (set_of_pair p)) k (λ v w. grind arith) q)

  differ : (p : ℕ × ℕ) → IsIn p ps → p.0 ≢ p.1
  differ p i e =
      let a = ends_of_one ps p p.0 i in
      let b = dis.once p.0 (dis.within p i).0 in
      let c = ap bit (eq-eqb p.0 p.0 refl) in
      let d = ap bit (eq-eqb p.1 p.0 (sym e)) in omega arith

  -- both vertices of a pair are in s, or none
  follows : (p : ℕ × ℕ) → IsIn p ps → s p.0 ≡ s p.1
  follows p i =
      let w = dis.within p i in
      let e : Equivalent g p.0 p.1 = inr (λ k. alone p i k.0 k.1) in
      same_tests (s p.0) (s p.1)
      (λ t. in_s p.1 w.1 (equivalent_on g p0.0 p.0 p.1 is cov w0 w.0 w.1 (of_s p.0 w.0 t) e))
      (λ t. in_s p.0 w.0 (equivalent_on g p0.0 p.1 p.0 is cov w0 w.1 w.0 (of_s p.1 w.1 t) (equivalent_back g p.0 p.1 e)))

  has0 : s p0.0 ≡ true
  has0 = in_s p0.0 w0 (inl refl)

  -- the other pairs in s, and those outside
  abbrev es : List (ℕ × ℕ)
  es = pairs_in s rest

  abbrev fs : List (ℕ × ℕ)
  fs = pairs_in (λ w. not (s w)) rest

  abbrev xs : List (ℕ × ℕ)
  xs = with_pairs g.ends fs

  of_es : (p : ℕ × ℕ) → IsIn p (p0 ∷ es) → IsIn p ps × (s p.0 ≡ true)
  of_es p i = grind (arith, s, has0, pairs_in_has)

  of_fs : (p : ℕ × ℕ) → IsIn p fs → IsIn p ps × (s p.0 ≡ false)
  of_fs p i = let r = pairs_in_has (λ w. not (s w)) rest p i in (inr r.0, not-true (s p.0) r.1)

  hx : KeepsEdges g xs
  hx = keeps-with_pairs g (keeps-itself g is) fs (λ p i. dis.within p (of_fs p i).0)

  apart : (e : ℕ) → Within (size (with_ends g xs)) e → first_end (with_ends g xs) e ≢ second_end (with_ends g xs) e → (s (first_end (with_ends g xs) e) && s (second_end (with_ends g xs) e)) ≡ false
  apart e w = each-with_pairs g (λ c d. c ≢ d → (s c && s d) ≡ false) fs
      (λ e we. none_inside g is cov g.ends (keeps-itself g is) s bar p0.0 (dis.within p0 (inl refl)).0 has0 e we)
      (λ p i n. and_left (s p.0) (s p.1) (of_fs p i).1) e w

  -- the barrier of one pair of s against all pairs outside
  one : (p : ℕ × ℕ) → IsIn p (p0 ∷ es) → PairBarrier g s p.0 p.1 (λ b. component_count (with_ends g xs) b ≡ count g.order b)
  one p i =
      let r = of_es p i in
      let w = dis.within p r.0 in
      let s1 = sym (follows p r.0) ∙ r.1 in
      let class : (v : ℕ) → Within g.order v → Equivalent g p.0 v → s v ≡ true = λ v wv e. in_s v wv (equivalent_on g p0.0 p.0 v is cov w0 w.0 wv (of_s p.0 w.0 r.1) e) in
      let d = differ p r.0 in
      let al = alone p r.0 in
      let t = pairs_barrier g is cov s bar p.0 p.1 w.0 w.1 d r.1 s1 class al fs (λ q j.
      let f = of_fs q j in (dis.within q f.0, f.1, sym (follows q f.0) ∙ f.1, λ k z. no_two p r.0 q f.0 k z)) in
      record {
        b = t.b;
        less = t.less;
        has_u = t.has_u;
        has_v = t.has_v;
        full = t.full;
        keeps = same_components g is cov s bar p.0 p.1 w.0 w.1 d r.1 s1 class al fs t.b (λ q j. dis.within q (of_fs q j).0) t.keeps ∙ t.full;
      }

  holds_ends : (b : Set) (p : ℕ × ℕ) → b p.0 ≡ true → b p.1 ≡ true → (w : ℕ) → 1 ≤ bit (p.0 == w) + bit (p.1 == w) → b w ≡ true
  holds_ends b p b0 b1 w l = grind (arith, cases_eq)

  joint : (p : ℕ × ℕ) (qs : List (ℕ × ℕ)) → ((q : ℕ × ℕ) → IsIn q (p ∷ qs) → IsIn q (p0 ∷ es)) → Joint g s xs (p ∷ qs)
  joint p [] f =
      let t = one p (f p (inl refl)) in
      record { b = t.b; less = t.less; has = λ w l. holds_ends t.b p t.has_u t.has_v w (omega arith); large = let k = t.keeps in omega arith }
  joint p (q ∷ qs) f =
      let t = one p (f p (inl refl)) in
      let j = joint q qs (λ r i. f r (inr i)) in
      record {
        b = union j.b t.b;
        less = λ w ww x. elim (or_cases (j.b w) (t.b w) x) [ inl y ↦ j.less w ww y | inr y ↦ t.less w ww y ];
        has = λ w l. has j t w l;
        large = let u = unite_parts g is cov s bar xs hx apart j.b t.b j.less t.less (length (q ∷ qs)) j.large t.keeps in omega arith;
      }
    where
      has : (j : Joint g s xs (q ∷ qs)) (t : PairBarrier g s p.0 p.1 (λ b. component_count (with_ends g xs) b ≡ count g.order b)) → (w : ℕ) → 1 ≤ (bit (p.0 == w) + bit (p.1 == w)) + pairs_at (q ∷ qs) w → union j.b t.b w ≡ true
      has j t w l = elim (cases_eq (pairs_at (q ∷ qs) w) 0) [
        | inl e ↦ or_right (j.b w) (t.b w) (holds_ends t.b p t.has_u t.has_v w (omega arith))
        | inr d ↦ or_left (j.b w) (t.b w) (j.has w (omega arith))
      ]

  ends_split : (v : ℕ) → pairs_at (p0 ∷ es) v + pairs_at fs v ≡ pairs_at ps v
  ends_split v = let a = pairs_ends s rest v in omega arith

  covers_some : (qs : List (ℕ × ℕ)) (v : ℕ) → in_pairs qs v ≡ true → 1 ≤ pairs_at qs v
  covers_some qs v t = pos (pairs_at qs v) t
    where
      pos : (k : ℕ) → not (k == 0) ≡ true → 1 ≤ k
      pos zero h = absurd (true≢false (sym h))
      pos (suc k) h = omega arith

  covers_none : (qs : List (ℕ × ℕ)) (v : ℕ) → in_pairs qs v ≡ false → pairs_at qs v ≡ 0
  covers_none qs v t = eqb-true (pairs_at qs v) 0 (not-false (pairs_at qs v == 0) t)

  some_covers : (qs : List (ℕ × ℕ)) (v : ℕ) → 1 ≤ pairs_at qs v → in_pairs qs v ≡ true
  some_covers qs v l = ap not (ne_eqb (pairs_at qs v) 0 (λ e. omega arith))

  -- m with the pairs outside s is a perfect matching of what is left by the pairs in s
  perfect_x : IsPerfect (with_ends g xs) (in_pairs (p0 ∷ es)) (with_new g m)
  perfect_x = record { once = once; away = away }
    where
      once : (v : ℕ) → Within g.order v → in_pairs (p0 ∷ es) v ≡ false → degree (with_ends g xs) (with_new g m) v ≡ 1
      once v w o = grind (arith, degree-with_pairs g m fs v, covers_none (p0 ∷ es) v o, ends_split v, dis.once v w)

      away : (v : ℕ) → Within g.order v → in_pairs (p0 ∷ es) v ≡ true → degree (with_ends g xs) (with_new g m) v ≡ 0
      away v w o =
          let a = degree-with_pairs g m fs v in
          let b = covers_some (p0 ∷ es) v o in
          let c = ends_split v in
          let d = dis.once v w in
          let e = perfect.away v w (some_covers ps v (omega arith)) in omega arith

  count_covers : count g.order (in_pairs (p0 ∷ es)) ≡ 2 * length (p0 ∷ es)
  count_covers = total_congr g.order _ _ (λ v w. let c = ends_split v in let d = dis.once v w in each (pairs_at (p0 ∷ es) v) (omega arith)) ∙ ends_total g.order (p0 ∷ es) (λ p i. dis.within p (of_es p i).0)
    where
      each : (k : ℕ) → k ≤ 1 → bit (not (k == 0)) ≡ k
      each zero l = refl
      each (suc zero) l = refl
      each (suc (suc k)) l = absurd (omega arith)

  two_ears_not : ⊥
  two_ears_not =
      let j = joint p0 es (λ q i. i) in
      let l : 1 ≤ pairs_at (p0 ∷ es) p0.0 = let x = ap bit (eq-eqb p0.0 p0.0 refl) in omega arith in
      let a = few_components g is cov s bar xs hx j.b j.less p0.0 w0 (j.has p0.0 l) in
      let b = odd_need (with_ends g xs) xs (in_pairs (p0 ∷ es)) (with_new g m) j.b hx.graph (keeps-itself (with_ends g xs) hx.graph) perfect_x (λ v w t. j.has v (covers_some (p0 ∷ es) v t)) in
      let c = count_covers in
      let d = j.large in omega arith

-- the two-ear theorem: of pairs that serve together two serve, or one
pub two_ears : (g : Graph) → IsGraph g → IsCovered g → (ps : List (ℕ × ℕ)) → ps ≢ [] → AreDisjoint g.order ps → HasPerfect g (in_pairs ps) →
    (p : ℕ × ℕ) × (q : ℕ × ℕ) × IsIn p ps × IsIn q ps × HasPerfect g (union (set_of_pair p) (set_of_pair q))
two_ears g is cov [] some dis m = absurd (some refl)
two_ears g is cov (p ∷ ps) some dis m = elim (two_or_none g (p ∷ ps)) [
  | inl r ↦ r
  | inr f ↦ absurd (two_ears_not g is cov p ps dis m.0 m.1 f)
]
