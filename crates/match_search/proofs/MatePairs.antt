-- Matchings by mates: mates are mates of each other, and a path exchanged by mates is the path
-- exchanged by edges. Two edges of a matching at one vertex are one edge, so the mate of a mate
-- is the vertex itself.
use Rattle.graph_core.proofs.from_counting.Common.{◌≡◌, ◌≢◌, ℕ, zero, suc, ◌+◌, ◌≤◌, true, false, cond, sym, ap, ◌∙◌, arith, eq-eqb, ne_eqb, inl, inr, subst, ◌⊎◌, rules, cases_eq, Within, bit, Set, put}
use Rattle.graph_core.proofs.Common.{Graph, IsGraph, HasEnds, degree, size, IsMatching}
use Rattle.match_search.specs.Common.{IsAlternating, flipped, HasMates, with_mate, with_pair, flipped_mates}
use Rattle.match_search.proofs.AlternatingPaths.{put_at, put_off, path_edges, flipped_degree, flipped_matching, flipped_end}
use Rattle.match_search.proofs.Forests.{met, one_edge, turned}
use Rattle.match_search.proofs.LongerPaths.{end_within}
use Rattle.match_search.proofs.OddCycles.{same_ends}

pub with_here : (mate : ℕ → ℕ) (v w u : ℕ) → u ≡ v → with_mate mate v w u ≡ w
with_here mate v w u q = ap (λ b. cond b w (mate u)) (eq-eqb u v q)

pub with_there : (mate : ℕ → ℕ) (v w u : ℕ) → u ≢ v → with_mate mate v w u ≡ mate u
with_there mate v w u q = ap (λ b. cond b w (mate u)) (ne_eqb u v q)

module _ (g : Graph) (is : IsGraph g) (r m : Set) (mate : ℕ → ℕ) (has : HasMates g r m mate) where
  -- a mate is a vertex, and the vertex is its mate
  pub mate_back : (v : ℕ) → Within g.order v → mate v ≢ 0 → Within g.order (mate v) × (mate (mate v) ≡ v)
  mate_back v w n =
      let d = has.paired v w n in
      let u = end_within g is d.0 (mate v) v d.1 (turned g d.0 v (mate v) d.3) in
      let e = has.paired (mate v) u (λ z. let a = has.exposed (mate v) u z in let b = (met g m d.0 v (mate v) d.1 d.2 d.3).1 in absurd (omega arith)) in
      let back = turned g d.0 v (mate v) d.3 in
      grind (arith, one_edge g r m has.matching d.0 e.0 (mate v) v (mate (mate v)) u d.1 e.1 d.2 e.2 back e.3, same_ends g e.0 (mate v) (mate (mate v)) (mate v) v e.3)

  -- a removed vertex has no mate
  pub removed_mate : (v : ℕ) → Within g.order v → r v ≡ true → mate v ≡ 0
  removed_mate v w t = elim (cases_eq (mate v) 0) [
    | inl q ↦ q
    | inr q ↦ let d = has.paired v w q in let a = (met g m d.0 v (mate v) d.1 d.2 d.3).0 in let b = has.matching.away v w t in absurd (omega arith)
  ]

module _ (g : Graph) (r f : Set) (mate : ℕ → ℕ) (has : HasMates g r f mate) (k : ℕ) (v e : ℕ → ℕ) (p : IsAlternating g r f k v e) where
  -- one pair of edges more
  module _ (i : ℕ) (l : suc i ≤ k) (before : HasMates g r (flipped f e i) (flipped_mates mate v i)) where
    abbrev a : ℕ
    a = v (i + i)

    abbrev b : ℕ
    b = v (suc (i + i))

    abbrev c : ℕ
    c = v (suc (suc (i + i)))

    abbrev old : ℕ → ℕ
    old = flipped_mates mate v i

    abbrev new : Set
    new = flipped f e (suc i)

    c_is : v (suc i + suc i) ≡ c
    c_is = grind arith

    at_c : (u : ℕ) → u ≡ c → flipped_mates mate v (suc i) u ≡ 0
    at_c u s = with_here (with_pair old a b) c 0 u s

    at_b : (u : ℕ) → u ≢ c → u ≡ b → flipped_mates mate v (suc i) u ≡ a
    at_b u nc s = with_there (with_pair old a b) c 0 u nc ∙ with_here (with_mate old a b) b a u s

    at_a : (u : ℕ) → u ≢ c → u ≢ b → u ≡ a → flipped_mates mate v (suc i) u ≡ b
    at_a u nc nb s = with_there (with_pair old a b) c 0 u nc ∙ with_there (with_mate old a b) b a u nb ∙ with_here old a b u s

    at_old : (u : ℕ) → u ≢ c → u ≢ b → u ≢ a → flipped_mates mate v (suc i) u ≡ old u
    at_old u nc nb na = with_there (with_pair old a b) c 0 u nc ∙ with_there (with_mate old a b) b a u nb ∙ with_there old a b u na

    in_new : new (e (i + i)) ≡ true
    in_new = put_off (put (flipped f e i) (e (i + i)) true) (e (suc (i + i))) false (e (i + i)) (λ s. let z = path_edges g r k v e p.path (i + i) (suc (i + i)) (omega arith) (omega arith) s in absurd (omega arith)) ∙ put_at (flipped f e i) (e (i + i)) true

    pair_more : HasMates g r new (flipped_mates mate v (suc i))
    pair_more = record {
      matching = flipped_matching g r f has.matching k v e p (suc i) l;
      exposed = λ u w q. elim (cases_eq u c) [
        | inl s ↦ subst (λ (x : ℕ). degree g new x ≡ 0) (c_is ∙ sym s) (flipped_end g r f has.matching k v e p (suc i) l)
        | inr nc ↦ elim (cases_eq u b) [
          | inl s ↦ let z = sym (at_b u nc s) ∙ q in let x = p.path.within (i + i) (omega arith) in absurd (omega arith)
          | inr nb ↦ elim (cases_eq u a) [
            | inl s ↦ let z = sym (at_a u nc nb s) ∙ q in let x = p.path.within (suc (i + i)) (omega arith) in absurd (omega arith)
            | inr na ↦
                let z = before.exposed u w (sym (at_old u nc nb na) ∙ q) in
                let x = flipped_degree g r f has.matching k v e p i u (omega arith) in
                let y = flipped_degree g r f has.matching k v e p (suc i) u l in
                let o = ap bit (ne_eqb a u (λ s. na (sym s))) in
                let t = ap bit (ne_eqb (v (suc i + suc i)) u (λ s. nc (sym s ∙ c_is))) in omega arith
          ]
        ]
      ];
      paired = λ u w q. elim (cases_eq u c) [
        | inl s ↦ absurd (q (at_c u s))
        | inr nc ↦ elim (cases_eq u b) [
          | inl s ↦ (e (i + i), p.path.real (i + i) (omega arith), in_new, subst (λ (x : ℕ). HasEnds g (e (i + i)) u x) (sym (at_b u nc s)) (subst (λ (x : ℕ). HasEnds g (e (i + i)) x a) (sym s) (turned g (e (i + i)) a b (p.path.ends (i + i) (omega arith)))))
          | inr nb ↦ elim (cases_eq u a) [
            | inl s ↦ (e (i + i), p.path.real (i + i) (omega arith), in_new, subst (λ (x : ℕ). HasEnds g (e (i + i)) u x) (sym (at_a u nc nb s)) (subst (λ (x : ℕ). HasEnds g (e (i + i)) x b) (sym s) (p.path.ends (i + i) (omega arith))))
            | inr na ↦ search (rules, at_old u nc nb na, same_ends g)
          ]
        ]
      ];
    }

  -- the mates of the matching with the path exchanged
  pub flipped_pairs : (i : ℕ) → i ≤ k → HasMates g r (flipped f e i) (flipped_mates mate v i)
  flipped_pairs zero l = has
  flipped_pairs (suc i) l = pair_more i l (flipped_pairs i (omega arith))

-- a pair more: an edge between two exposed vertices
pub joined_pairs : (g : Graph) (r m : Set) (mate : ℕ → ℕ) (a v w : ℕ) → HasMates g r m mate → IsMatching g r (put m a true) → Within (size g) a → HasEnds g a v w → v ≢ w → ((u : ℕ) → u ≢ v → u ≢ w → degree g (put m a true) u ≡ degree g m u) → Within g.order v → Within g.order w →
    HasMates g r (put m a true) (with_pair mate v w)
joined_pairs g r m mate a v w has mm wa ends vw same wv ww = grind arith

-- along a flipped path the last vertex alone is newly exposed
pub flipped_exposes : (mate v : ℕ → ℕ) (k : ℕ) → ((i : ℕ) → i ≤ k + k → v i ≢ 0) → (u : ℕ) → flipped_mates mate v k u ≡ 0 → (u ≡ v (k + k)) ⊎ (mate u ≡ 0)
flipped_exposes mate v zero real u z = inr z
flipped_exposes mate v (suc k) real u z = elim (cases_eq u (v (suc (suc (k + k))))) [
  | inl q ↦ inl (q ∙ ap v (omega arith))
  | inr last ↦
      let pair = sym (with_there (with_pair (flipped_mates mate v k) (v (k + k)) (v (suc (k + k)))) (v (suc (suc (k + k)))) 0 u last) ∙ z in
      elim (cases_eq u (v (suc (k + k)))) [
        | inl q ↦ absurd (real (k + k) (omega arith) (sym (with_here (with_mate (flipped_mates mate v k) (v (k + k)) (v (suc (k + k)))) (v (suc (k + k))) (v (k + k)) u q) ∙ pair))
        | inr second ↦
            let single = sym (with_there (with_mate (flipped_mates mate v k) (v (k + k)) (v (suc (k + k)))) (v (suc (k + k))) (v (k + k)) u second) ∙ pair in
            elim (cases_eq u (v (k + k))) [
              | inl q ↦ absurd (real (suc (k + k)) (omega arith) (sym (with_here (flipped_mates mate v k) (v (k + k)) (v (suc (k + k))) u q) ∙ single))
              | inr first ↦ elim (flipped_exposes mate v k (λ i l. real i (omega arith)) u (sym (with_there (flipped_mates mate v k) (v (k + k)) (v (suc (k + k))) u first) ∙ single)) [
                | inl q ↦ absurd (first q)
                | inr q ↦ inr q
              ]
            ]
      ]
]
