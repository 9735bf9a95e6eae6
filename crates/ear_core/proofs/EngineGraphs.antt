-- The edges of a stage in a graph of their own. The degree by rank is the degree in g, so a
-- perfect matching of the listed edges is one of the graph of the stage; and an edge lies in one
-- if its two ends may be left out.
use Rattle.graph_core.proofs.from_counting.Common.{◌≡◌, ℕ, suc, zero, ◌+◌, ◌*◌, ◌≢◌, Bool, true, false, cond, List, ◌==◌, refl, sym, ap, ap₂, ◌∙◌, arith, ◌&&◌, ◌||◌, not, subst, eq-eqb, eqb-true, inl, inr, [], ◌∷◌, ◌++◌, length, ◌↔◌, true_from_ne_false, same_tests, or_right, cases_Bool, and_parts, and_from, both_ways, false_from_ne_true, not-true, or_left, or_cases, or_parts, or_from, rank_once, some_true, true_some, bit, count, mem, Within, Set, union, put, pair_set, complement, some}
use Rattle.ear_core.proofs.TraceEdges.{some-met, unmet, degree_le}
use Rattle.two_ears.proofs.from_barrier_kit.Common.{perfect_congr}
use Rattle.ear_core.specs.Common.{by_rank, listed, is_met, IsAsked, IsPerfectOff, IsPerfectOf, Serves}
use Rattle.ear_core.specs.declared.asking.Asked.{Asked}
use Rattle.two_ears.proofs.AddedEdges.{size-added, degree-added}
use Rattle.graph_core.proofs.Common.{degree_congr, ends_of, ends_le_degree, degree_put, Graph, size, first_end, second_end, degree, IsGraph, with_ends, IsPerfect, HasPerfect}

pub ends-met : (g : Graph) (f : Set) (e : ℕ) → Within (size g) e → f e ≡ true → (is_met g f (first_end g e) ≡ true) × (is_met g f (second_end g e) ≡ true)
unfolding ends_of
ends-met g f e w h =
    let a = ends_le_degree g f e (first_end g e) w h in
    let b = ends_le_degree g f e (second_end g e) w h in
    let c = ap bit (eq-eqb (first_end g e) (first_end g e) refl) in
    let d = ap bit (eq-eqb (second_end g e) (second_end g e) refl) in
    (some-met g f (first_end g e) (omega arith), some-met g f (second_end g e) (omega arith))

pub listed_size : (g : Graph) (f : Set) (k : ℕ) → length (listed g f k) ≡ count k f
listed_size g f zero = refl
listed_size g f (suc k) = go (f (suc k)) (listed_size g f k)
  where
    go : (b : Bool) → length (listed g f k) ≡ count k f → length (cond b (listed g f k ++ ((first_end g (suc k), second_end g (suc k)) ∷ [])) (listed g f k)) ≡ count k f + bit b
    go b e = grind (arith, size-added g (listed g f k) (first_end g (suc k), second_end g (suc k)))

-- the degree by rank, for the first k edges
pub listed_degree : (g : Graph) (f m : Set) (v k : ℕ) → degree (with_ends g (listed g f k)) m v ≡ count k (λ e. by_rank f m e && (first_end g e == v)) + count k (λ e. by_rank f m e && (second_end g e == v))
listed_degree g f m v zero = refl
listed_degree g f m v (suc k) = go (f (suc k)) refl (listed_degree g f m v k)
  where
    bits : (x y : Bool) → bit (x && y) ≡ bit x * bit y
    bits x y = grind arith

    go : (b : Bool) → f (suc k) ≡ b → degree (with_ends g (listed g f k)) m v ≡ count k (λ e. by_rank f m e && (first_end g e == v)) + count k (λ e. by_rank f m e && (second_end g e == v)) →
        degree (with_ends g (cond b (listed g f k ++ ((first_end g (suc k), second_end g (suc k)) ∷ [])) (listed g f k))) m v
        ≡ (count k (λ e. by_rank f m e && (first_end g e == v)) + bit ((b && m (count k f + bit b)) && (first_end g (suc k) == v))) + (count k (λ e. by_rank f m e && (second_end g e == v)) + bit ((b && m (count k f + bit b)) && (second_end g (suc k) == v)))
    go b q e = grind (arith, degree-added, listed_size, bits)

module _ (g : Graph) (f r : Set) where
  abbrev kf : Graph
  kf = with_ends g (listed g f (size g))

  abbrev out : Set
  out = union (complement (is_met g f)) r

  -- a perfect matching of the listed edges, by rank
  pub from_listed : (m : Set) → IsPerfect kf out m → IsPerfectOff g f r (by_rank f m)
  from_listed m p = grind (arith, and_parts, listed_degree g f m, or_from, or_right)

  pub rank_of : Set → Set
  rank_of m i = some (size g) (λ e. (f e && m e) && (count e f == i))

  pub same_rank : (m : Set) → ((e : ℕ) → Within (size g) e → m e ≡ true → f e ≡ true) → (e : ℕ) → Within (size g) e → by_rank f (rank_of m) e ≡ m e
  unfolding rank_of
  same_rank m part e w = same_tests (f e && rank_of m (count e f)) (m e)
      (λ t. let a = and_parts (f e) (rank_of m (count e f)) t in
      let d = some_true (size g) (λ d. (f d && m d) && (count d f == count e f)) a.1 in
      let b = and_parts (f d.0 && m d.0) (count d.0 f == count e f) d.2 in
      let c = and_parts (f d.0) (m d.0) b.0 in ap m (sym (rank_once f d.0 e c.0 a.0 (eqb-true (count d.0 f) (count e f) b.1))) ∙ c.1)
      (λ t. and_from (f e) (rank_of m (count e f)) (part e w t) (true_some (size g) (λ d. (f d && m d) && (count d f == count e f)) e w (and_from (f e && m e) (count e f == count e f) (and_from (f e) (m e) (part e w t) t) (eq-eqb (count e f) (count e f) refl))))

  pub to_listed : (m : Set) → IsPerfectOff g f r m → IsPerfect kf out (rank_of m)
  to_listed m p = record {
    once = λ v w o. let b = or_parts (not (is_met g f v)) (r v) o in same v ∙ p.once v w (true_from_ne_false (is_met g f v) (λ x. both_ways (not (is_met g f v)) b.0 (ap not x))) b.1;
    away = λ v w o. same v ∙ (elim (or_cases (not (is_met g f v)) (r v) o) [
      | inr x ↦ p.away v w x
      | inl x ↦ let a = unmet g f v (not-true (is_met g f v) x) in let b = degree_le g m f v p.part in omega arith
    ]);
  }
    where
      same : (v : ℕ) → degree kf (rank_of m) v ≡ degree g m v
      same v = listed_degree g f (rank_of m) v (size g) ∙ degree_congr g (by_rank f (rank_of m)) m v (same_rank m p.part)

  -- what the engine is asked: the listed edges without the vertices off the stage and r
  pub served_listed : ((m : Set) × IsPerfectOff g f r m) ↔ HasPerfect kf out
  served_listed = (λ x. (rank_of x.0, to_listed x.0 x.1), λ x. (by_rank f x.0, from_listed x.0 x.1))

-- an edge of f lies in a perfect matching of f if its two ends serve
pub edge_serves : (g : Graph) (f : Set) (e : ℕ) → IsGraph g → Within (size g) e → first_end g e ≢ second_end g e → f e ≡ true → ((m : Set) × IsPerfectOf g f m × (m e ≡ true)) ↔ ((m : Set) × IsPerfectOff g f (pair_set (first_end g e) (second_end g e)) m)
unfolding ends_of
edge_serves g f e is w d fe = (there, back)
  where
    ends_two : (v : ℕ) → pair_set (first_end g e) (second_end g e) v ≡ true → ends_of g e v ≡ 1
    ends_two v t = grind arith

    ends_zero : (v : ℕ) → pair_set (first_end g e) (second_end g e) v ≡ false → ends_of g e v ≡ 0
    ends_zero v t = let p = or_parts (first_end g e == v) (second_end g e == v) t in let a = ap bit p.0 in let b = ap bit p.1 in omega arith

    is_touched : (v : ℕ) → pair_set (first_end g e) (second_end g e) v ≡ true → is_met g f v ≡ true
    is_touched v t = grind (arith, ends-met g f e w fe, or_cases (first_end g e == v) (second_end g e == v) t, eqb-true (first_end g e) v, eqb-true (second_end g e) v)

    put_at : (m : Set) (b : Bool) (c : ℕ) → (c ≢ e → m c ≡ true → f c ≡ true) → put m e b c ≡ true → f c ≡ true
    put_at m b c h t = grind arith

    there : (m : Set) × IsPerfectOf g f m × (m e ≡ true) → (m : Set) × IsPerfectOff g f (pair_set (first_end g e) (second_end g e)) m
    there x = (
      put x.0 e false,
      record {
        part = λ c wc t. put_at x.0 false c (λ n h. x.1.part c wc h) t;
        once = λ v wv t o. let a = degree_put g x.0 e false v w in let b = ends_zero v o in let c = x.1.once v wv t in let i = ap (λ k. bit (x.0 e) * k) b in omega arith;
        away = λ v wv o. let a = degree_put g x.0 e false v w in let b = ends_two v o in let c = x.1.once v wv (is_touched v o) in let i = ap (λ k. bit k * ends_of g e v) x.2 in omega arith;
      },
    )

    own : (m : Set) → put m e true e ≡ true
    own m = ap (λ x. cond x true (m e)) (eq-eqb e e refl)

    back : (m : Set) × IsPerfectOff g f (pair_set (first_end g e) (second_end g e)) m → (m : Set) × IsPerfectOf g f m × (m e ≡ true)
    back x = (
      put x.0 e true,
      record {
        part = λ c wc t. put_at x.0 true c (λ n h. x.1.part c wc h) t;
        once = λ v wv t. let a = degree_put g x.0 e true v w in let n = not_in x.0 x.1 in let i = ap (λ k. bit k * ends_of g e v) n in elim (cases_Bool (pair_set (first_end g e) (second_end g e) v)) [
          | inl o ↦ let b = ends_two v o in let c = x.1.away v wv o in omega arith
          | inr o ↦ let b = ends_zero v o in let c = x.1.once v wv t o in omega arith
        ];
      },
      own x.0,
    )
      where
        not_in : (m : Set) → IsPerfectOff g f (pair_set (first_end g e) (second_end g e)) m → m e ≡ false
        not_in m p = false_from_ne_true (m e) (λ t.
            let a = ends_le_degree g m e (first_end g e) w t in
            let o = or_left (first_end g e == first_end g e) (second_end g e == first_end g e) (eq-eqb (first_end g e) (first_end g e) refl) in
            let b = p.away (first_end g e) (is e w).0 o in
            let c = ends_two (first_end g e) o in omega arith)

-- the graph of the listed edges is asked about their stage
pub asked-listed : (g : Graph) (f : Set) (asked : Asked) → asked.stage ≡ with_ends g (listed g f (size g)) → ((v : ℕ) → Within g.order v → mem asked.outside v ≡ not (is_met g f v)) → IsAsked g f asked
asked-listed g f asked is outside = record {
  order = ap (λ (h : Graph). h.order) is;
  edges = ap size is ∙ listed_size g f (size g);
  outside = outside;
  serves = λ r. let s = served_listed g f r in subst (λ (h : Graph). HasPerfect h (union (complement (is_met g f)) r) ↔ Serves g f r) (sym is) (s.1, s.0);
}

-- what it is asked about the vertices x of the stage
pub asked-perfect : (g : Graph) (f : Set) (asked : Asked) → IsAsked g f asked → (removed x : Set) → ((v : ℕ) → Within g.order v → removed v ≡ (mem asked.outside v || x v)) → HasPerfect asked.stage removed ↔ Serves g f x
asked-perfect g f asked is removed x joined =
    let same : (v : ℕ) → Within asked.stage.order v → removed v ≡ union (complement (is_met g f)) x v = λ v w. let ww = subst (λ n. Within n v) is.order w in joined v ww ∙ ap (λ b. b || x v) (is.outside v ww) in (
      λ p. (is.serves x).0 (p.0, perfect_congr asked.stage removed (union (complement (is_met g f)) x) p.0 same p.1),
      λ q. let p = (is.serves x).1 q in (p.0, perfect_congr asked.stage (union (complement (is_met g f)) x) removed p.0 (λ v w. sym (same v w)) p.1),
    )

-- the vertices off the stage
pub outside-is : (g : Graph) (f : Set) (n : ℕ) (full met off : List ℕ) → n ≡ g.order → ((v : ℕ) → (mem full v ≡ true) ↔ Within n v) → ((v : ℕ) → mem met v ≡ is_met g f v) → ((v : ℕ) → mem off v ≡ (mem full v && not (mem met v))) → (v : ℕ) → Within g.order v → mem off v ≡ not (is_met g f v)
outside-is g f n full met off order all same is v w = is v ∙ ap₂ (λ a b. a && not b) ((all v).1 (subst (λ k. Within k v) (sym order) w)) (same v)
