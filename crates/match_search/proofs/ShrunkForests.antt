-- A set of vertices of a forest, a blossom, is shrunk to its base: what is left of the matching,
-- and what are the mates? Idea: all mates in the set but that of the base are in the set. So
-- outside the set and at the base the degrees and the mates are what they were, and in the set
-- there are none.
use Rattle.graph_core.proofs.from_counting.Common.{◌≡◌, ◌≢◌, ℕ, suc, ◌+◌, ◌*◌, ◌≤◌, ◌⊎◌, true, false, cond, ◌==◌, refl, sym, ap, ◌∙◌, arith, not, ◌&&◌, ◌||◌, eq-eqb, ne_eqb, inl, inr, subst, List, and_false, and_from, and_parts, both_ways, cases_Bool, cases_eq, false_from_ne_true, not-true, total_at, Within, bit, count, Set, minus}
use Rattle.graph_core.proofs.Common.{edge_at, Graph, HasEnds, IsGraph, IsMatching, degree, size, with_ends}
use Rattle.match_search.specs.Common.{HasMates, IsContractible, IsAlternatingForest, IsShrunk, shrunk_removed, shrunk_vertex}
use Rattle.match_search.proofs.Forests.{met, one_edge, turned}
use Rattle.match_search.proofs.LongerPaths.{end_within, ends_by}
use Rattle.match_search.proofs.MatePairs.{mate_back}
use Rattle.match_search.proofs.NearPerfectSets.{bit_minus, count_split, degree_split}
use Rattle.match_search.proofs.OddCycles.{same_ends}
use Rattle.match_search.proofs.Shrinking.{degree_in, degree_out, degree_z, shrunk_graph, shut_out, shut_z}
use Rattle.match_search.proofs.ShrunkInstances.{pulled_ends}

-- the path up from u: its mate is a child of p, and the path of u is that of p extended by its mate
-- and u
pub record WalksUp (outer : Set) (k : ℕ → ℕ) (v : ℕ → ℕ → ℕ) (parent mate : ℕ → ℕ) (u p : ℕ) : Type 0 where
  pub parent_is : parent (mate u) ≡ p
  pub outer_is : outer p ≡ true
  pub pairs : k u ≡ suc (k p)
  pub inner : v u (suc (k p + k p)) ≡ mate u
  pub before : (j : ℕ) → j ≤ k p + k p → v u j ≡ v p j

-- the sets, the parents and the mates after the members of c were taken out: the base is outer, it
-- is the parent of what had a parent in c, and c but the base has no mates
pub record IsContracted (outer inner : Set) (parent mate : ℕ → ℕ) (c : Set) (z : ℕ) (outer' inner' : Set) (parent' mate' : ℕ → ℕ) : Type 0 where
  pub outer_is : (u : ℕ) → outer' u ≡ ((outer u && not (c u)) || (z == u))
  pub inner_is : (u : ℕ) → inner' u ≡ (inner u && not (c u))
  pub parents : (y : ℕ) → inner' y ≡ true → parent' y ≡ shrunk_vertex c z (parent y)
  pub mates : (u : ℕ) → mate' u ≡ cond (c u && not (u == z)) 0 (mate u)

-- a forest for f in g - r, with the mates and the parents of its paths
pub record IsWalkedForest (g : Graph) (r f : Set) (outer inner : Set) (parent mate : ℕ → ℕ) : Type 0 where
  pub k : ℕ → ℕ
  pub v : ℕ → ℕ → ℕ
  pub e : ℕ → ℕ → ℕ
  pub forest : IsAlternatingForest g r f outer inner k v e
  pub up : (u : ℕ) → outer u ≡ true → k u ≢ 0 → (p : ℕ) × WalksUp outer k v parent mate u p

-- a vertex that stays: it is outside c or the base
abbrev pub Stays : Set → ℕ → ℕ → Type 0
Stays c z w = (c w ≡ false) ⊎ (w ≡ z)

-- an edge of f leads from a vertex to its mate
pub edge_mate : (g : Graph) (is : IsGraph g) (r f : Set) (mate : ℕ → ℕ) → HasMates g r f mate → (d x y : ℕ) → Within (size g) d → f d ≡ true → HasEnds g d x y → mate x ≡ y
edge_mate g is r f mate has d x y w fd ends =
    let wx = end_within g is d x y w ends in
    let p = has.paired x wx (λ q. let a = has.exposed x wx q in let b = (met g f d x y w fd ends).0 in absurd (omega arith)) in
    let same = one_edge g r f has.matching d p.0 x y (mate x) wx w p.1 fd p.2 ends p.3 in
    elim (same_ends g d x y x (mate x) ends (ends_by g d p.0 x x (mate x) (mate x) same refl refl p.3)) [
      | inl s ↦ sym s.1
      | inr s ↦ sym s.0 ∙ sym s.1
    ]

-- a forest with mates and parents, and a set c of its vertices that can be shrunk to its base z; es
-- are the ends of the edges after that, and e1 contains the edges of f in c
pub record ShrunkForest : Type 0 where
  pub g : Graph
  pub is : IsGraph g
  pub r : Set
  pub f : Set
  pub outer : Set
  pub inner : Set
  pub parent : ℕ → ℕ
  pub mate : ℕ → ℕ
  pub has : HasMates g r f mate
  pub walked : IsWalkedForest g r f outer inner parent mate
  pub c : Set
  pub z : ℕ
  pub es : List (ℕ × ℕ)
  pub shrunk : IsShrunk g c z es
  pub e1 : Set
  pub fits : IsContractible g r f outer walked.k walked.v mate c z e1

-- the shrunk graph, the vertices removed from it, and what is left of the matching
abbrev pub H : ShrunkForest → Graph
H s = with_ends s.g s.es

abbrev pub rs : ShrunkForest → Set
rs s = shrunk_removed s.r s.c s.z

abbrev pub left_edges : ShrunkForest → Set
left_edges s = minus s.f s.e1

module _ (given : ShrunkForest) where
  open given use {g, is, r, f, outer, inner, parent, mate, has, walked, c, z, es, shrunk, e1, fits}
  open given.walked use {k, v, forest}

  pub wz : Within g.order z
  wz = (forest.outer_in z fits.base_outer).0

  pub graph_below : IsGraph (H given)
  graph_below = shrunk_graph g is r c z es shrunk fits.left wz fits.base

  -- an edge of f at a member other than the base has both ends in c
  pub edge_stays_in : (d x y : ℕ) → Within (size g) d → f d ≡ true → HasEnds g d x y → c x ≡ true → x ≢ z → c y ≡ true
  edge_stays_in d x y w fd ends cx n = ap c (sym (edge_mate g is r f mate has d x y w fd ends)) ∙ fits.pairs x cx n

  chosen_ends : (d x y : ℕ) → Within (size g) d → HasEnds g d x y → e1 d ≡ true → (f d ≡ true) × (c x ≡ true) × (c y ≡ true)
  chosen_ends d x y w ends t = let a = fits.chosen d w t in elim ends [
    | inl s ↦ (a.0, ap c (sym s.0) ∙ a.1, ap c (sym s.1) ∙ a.2)
    | inr s ↦ (a.0, ap c (sym s.1) ∙ a.2, ap c (sym s.0) ∙ a.1)
  ]

  pub taken_ends : (d x y : ℕ) → Within (size g) d → HasEnds g d x y → f d ≡ true → c x ≡ true → c y ≡ true → e1 d ≡ true
  taken_ends d x y w ends fd cx cy = grind (arith, fits, c)

  -- no edge of e1 has an end outside c
  pub off_left : (d x y : ℕ) → Within (size g) d → HasEnds g d x y → c x ≡ false → e1 d ≡ false
  off_left d x y w ends cx = false_from_ne_true (e1 d) (λ t. both_ways (c x) cx (chosen_ends d x y w ends t).1)

  left_is : (d : ℕ) → f d ≡ true → e1 d ≡ false → left_edges given d ≡ true
  left_is d fd ed = and_from (f d) (not (e1 d)) fd (ap not ed)

  pub left_from_f : (d : ℕ) → left_edges given d ≡ true → (f d ≡ true) × (e1 d ≡ false)
  left_from_f d t = let a = and_parts (f d) (not (e1 d)) t in (a.0, not-true (e1 d) a.1)

  -- the mate of the base is outside c
  pub base_mate_out : k z ≢ 0 → c (mate z) ≡ false
  base_mate_out n = let p = walked.up z fits.base_outer n in let q = p.1.pairs in ap c (sym p.1.inner) ∙ fits.stem (suc (k p.0 + k p.0)) (omega arith)

  pub degree_parts : (u : ℕ) → degree g f u ≡ degree g (left_edges given) u + degree g e1 u
  degree_parts u = degree_split g f (left_edges given) e1 u (λ i w. bit_minus (f i) (e1 i) (λ t. (fits.chosen i w t).0))

  pub missed_out : (u : ℕ) → c u ≡ false → degree g e1 u ≡ 0
  missed_out u q = elim (cases_eq (degree g e1 u) 0) [
    | inl s ↦ s
    | inr s ↦ let m = edge_at g e1 u (omega arith) in absurd (both_ways (c u) q (chosen_ends m.0 u m.3.0 m.1 m.3.1 m.2).1)
  ]

  pub missed_in : (u : ℕ) → c u ≡ true → u ≢ z → degree g (left_edges given) u ≡ 0
  missed_in u q n = elim (cases_eq (degree g (left_edges given) u) 0) [
    | inl s ↦ s
    | inr s ↦
        let m = edge_at g (left_edges given) u (omega arith) in
        let a = left_from_f m.0 m.2 in
        absurd (both_ways (e1 m.0) a.1 (taken_ends m.0 u m.3.0 m.1 m.3.1 a.0 q (edge_stays_in m.0 u m.3.0 m.1 a.0 m.3.1 q n)))
  ]

  -- a base that is a root has no edge of f
  free_root : k z ≡ 0 → degree g f z ≡ 0
  free_root t = let start : v z 0 ≡ z = ap (v z) (omega arith) ∙ forest.last z fits.base_outer in ap (degree g f) (sym start) ∙ (forest.path z fits.base_outer).free

  pub missed_base : degree g e1 z ≡ 0
  missed_base = elim (cases_eq (degree g e1 z) 0) [
    | inl s ↦ s
    | inr s ↦
        let m = edge_at g e1 z (omega arith) in
        let a = chosen_ends m.0 z m.3.0 m.1 m.3.1 m.2 in
        elim (cases_eq (k z) 0) [
          | inl t ↦ let free = free_root t in let one = (met g f m.0 z m.3.0 m.1 a.0 m.3.1).0 in absurd (omega arith)
          | inr t ↦ absurd (both_ways (c (mate z)) (base_mate_out t) (ap c (edge_mate g is r f mate has m.0 z m.3.0 m.1 a.0 m.3.1) ∙ a.2))
        ]
  ]

  pub stays_or_not : (u : ℕ) → Stays c z u ⊎ ((c u ≡ true) × (u ≢ z))
  stays_or_not u = grind (arith, cases_Bool, c, cases_eq, z)

  pub stays_left : (w : ℕ) → Stays c z w → r w ≡ false → rs given w ≡ false
  stays_left w st rw' = grind (arith, shut_out, g, is, r, c, z, es, shrunk, fits, wz, shut_z)

  pub stays_degree : (w : ℕ) → Stays c z w → degree (H given) (left_edges given) w ≡ degree g f w
  stays_degree w st = elim st [
    | inl q ↦ let a = degree_out g is r c z es shrunk fits.left wz fits.base (left_edges given) w q in let b = degree_parts w in let d = missed_out w q in omega arith
    | inr q ↦
        let a = degree_z g is r c z es shrunk fits.left wz fits.base (left_edges given) in
        let b = total_at g.order (λ d. bit (c d) * degree g (left_edges given) d) z wz (λ u wu n. inside u n) in
        let t = ap (λ s. bit s * degree g (left_edges given) z) fits.base in
        let o = degree_parts z in
        let s = missed_base in
        ap (degree (H given) (left_edges given)) q ∙ (omega arith) ∙ ap (degree g f) (sym q)
  ]
    where
      inside : (u : ℕ) → u ≢ z → bit (c u) * degree g (left_edges given) u ≡ 0
      inside u n = elim (cases_Bool (c u)) [
        | inr q ↦ ap (λ s. bit s * degree g (left_edges given) u) q ∙ (omega arith)
        | inl q ↦ ap (λ s. bit (c u) * s) (missed_in u q n) ∙ (omega arith)
      ]

  pub pulled_at_stay : (w : ℕ) → Stays c z w → shrunk_vertex c z w ≡ w
  pulled_at_stay w st = grind (arith, z, c, fits)

  pub left_matching : IsMatching (H given) (rs given) (left_edges given)
  left_matching = record {
    once = λ u w. elim (stays_or_not u) [
      | inl s ↦ let a = stays_degree u s in let b = has.matching.once u w in omega arith
      | inr s ↦ let a = degree_in g is r c z es shrunk fits.left wz fits.base (left_edges given) u s.0 s.1 in omega arith
    ];
    away = λ u w t. elim (stays_or_not u) [
      | inl s ↦ stays_degree u s ∙ has.matching.away u w (grind (arith, stays_left u s))
      | inr s ↦ degree_in g is r c z es shrunk fits.left wz fits.base (left_edges given) u s.0 s.1
    ];
  }

  -- an edge between vertices that stay has the ends that it had
  keep_ends : (d x y : ℕ) → Within (size g) d → HasEnds g d x y → Stays c z x → Stays c z y → HasEnds (H given) d x y
  keep_ends d x y w ends sx sy = ends_by (H given) d d x (shrunk_vertex c z x) y (shrunk_vertex c z y) refl (sym (pulled_at_stay x sx)) (sym (pulled_at_stay y sy)) (pulled_ends g c z es shrunk fits.base d x y w ends)

  pub in_h : (d : ℕ) → Within (size g) d → Within (size (H given)) d
  in_h d w = let a = shrunk.same in omega arith

  pub in_g : (d : ℕ) → Within (size (H given)) d → Within (size g) d
  in_g d w = let a = shrunk.same in omega arith

  not_root : (u : ℕ) → Within g.order u → u ≡ z → mate u ≢ 0 → k z ≢ 0
  not_root u w q n t = let free = ap (degree g f) q ∙ free_root t in let p = has.paired u w n in let one = (met g f p.0 u (mate u) p.1 p.2 p.3).0 in absurd (omega arith)

  -- the mate of a vertex that stays does so, and one of the two is outside c
  mate_apart : (u : ℕ) → Within g.order u → Stays c z u → mate u ≢ 0 → Stays c z (mate u) × ((c u ≡ false) ⊎ (c (mate u) ≡ false))
  mate_apart u w st n = elim st [
    | inl q ↦ (
      elim (stays_or_not (mate u)) [
        | inl s ↦ s
        | inr s ↦ absurd (both_ways (c u) q (ap c (sym (mate_back g is r f mate has u w n).1) ∙ fits.pairs (mate u) s.0 s.1))
      ],
      inl q,
    )
    | inr q ↦
        let out : c (mate u) ≡ false = ap (λ x. c (mate x)) q ∙ base_mate_out (not_root u w q n) in
        (inl out, inr out)
  ]

  -- the edge to a mate stays
  mate_edge : (u : ℕ) → Within g.order u → Stays c z u → mate u ≢ 0 → (d : ℕ) × Within (size (H given)) d × (left_edges given d ≡ true) × HasEnds (H given) d u (mate u)
  mate_edge u w st n =
      let p = has.paired u w n in
      let m = mate_apart u w st n in
      let off : e1 p.0 ≡ false = elim m.1 [
        | inl q ↦ off_left p.0 u (mate u) p.1 p.3 q
        | inr q ↦ off_left p.0 (mate u) u p.1 (turned g p.0 u (mate u) p.3) q
      ] in
      (p.0, in_h p.0 p.1, left_is p.0 p.2 off, keep_ends p.0 u (mate u) p.1 p.3 st m.0)

  pub contracted_count : count (size (H given)) (left_edges given) + count (size g) e1 ≡ count (size g) f
  contracted_count =
      let a = count_split (size g) f (left_edges given) e1 (λ i w. bit_minus (f i) (e1 i) (λ t. (fits.chosen i w t).0)) in
      let b = ap (λ (n : ℕ). count n (left_edges given)) shrunk.same in omega arith

  module _ (outer' inner' : Set) (parent' mate' : ℕ → ℕ) (after : IsContracted outer inner parent mate c z outer' inner' parent' mate') where
    -- mates of vertices that stay
    pub mate_stay : (u : ℕ) → Stays c z u → mate' u ≡ mate u
    mate_stay u st = after.mates u ∙ elim st [
      | inl q ↦ ap (λ b. cond (b && not (u == z)) 0 (mate u)) q
      | inr q ↦ ap (λ b. cond (c u && not b) 0 (mate u)) (eq-eqb u z q) ∙ ap (λ b. cond b 0 (mate u)) (and_false (c u))
    ]

    pub mate_gone : (u : ℕ) → c u ≡ true → u ≢ z → mate' u ≡ 0
    mate_gone u q n = after.mates u ∙ ap (λ b. cond b 0 (mate u)) (and_from (c u) (not (u == z)) q (ap not (ne_eqb u z n)))

    pub contracted_mates : HasMates (H given) (rs given) (left_edges given) mate'
    contracted_mates = record {
      matching = left_matching;
      exposed = λ u w q. elim (stays_or_not u) [
        | inl s ↦ stays_degree u s ∙ has.exposed u w (sym (mate_stay u s) ∙ q)
        | inr s ↦ degree_in g is r c z es shrunk fits.left wz fits.base (left_edges given) u s.0 s.1
      ];
      paired = λ u w n. elim (stays_or_not u) [
        | inl s ↦ subst (λ (x : ℕ). (d : ℕ) × Within (size (H given)) d × (left_edges given d ≡ true) × HasEnds (H given) d u x) (sym (mate_stay u s)) (mate_edge u w s (λ q. n (mate_stay u s ∙ q)))
        | inr s ↦ absurd (n (mate_gone u s.0 s.1))
      ];
    }
