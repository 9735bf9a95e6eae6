-- What a matching with a frame is: maximum, with the Gallai-Edmonds sets as its outer and inner
-- vertices; perfect if and only if there is no outer vertex. A missed vertex is outer, and an outer
-- vertex is missed by some matching of the same size.
use Rattle.graph_core.proofs.from_counting.Common.{◌≡◌, ℕ, ◌≤◌, ◌<◌, ◌≢◌, Bool, true, false, ◌==◌, ◌↔◌, refl, sym, ap, arith, List, [], ◌∷◌, length, subst, inl, inr, eq-eqb, both_ways, true≢false, false_from_ne_true, mem-rising_list, set-narrower, fun_ext, Within, count, is_odd, Set, none, mem, rising_list, IsRisingIn}
use Rattle.graph_core.proofs.Common.{Graph, IsGraph, degree, size, IsMatching, IsMaximum, IsPerfect, HasPerfect, Attains, InD, InA, joined, degree_congr, edge_of, missed_edges, has_ends-from, perfect_matching, perfect_misses, missed_one, adjacent_from}
use Rattle.match_search.specs.Common.{Frame, HasFrame, HasMates, numbers, marks, IsBest}
use Rattle.match_search.specs.declared.best.Best.{Best}
use Rattle.match_search.proofs.SameMates.{same_mates_count}
use Rattle.match_search.specs.declared.answer.FinalSets.{FinalSets}
use Rattle.match_search.proofs.Certificates.{certificate_bound}
use Rattle.match_core.proofs.OddComponents.{certificate_components, certificate_maximum, outer_free, outer_missable, missable_outer, inner_next, next_inner}
use Rattle.match_core.proofs.OuterComponents.{outer_odd, odd_outer}

-- a matching of g - r is one of g
pub whole_matching : (g : Graph) (r m : Set) → IsMatching g r m → IsMatching g none m
whole_matching g r m mm = record { once = mm.once; away = λ v w q. absurd (true≢false (sym q)) }

-- the marked edges as a list are the marks
pub listed_marks : (g : Graph) (m : Set) (e : ℕ) → Within (size g) e → mem (rising_list (size g) m) e ≡ m e
listed_marks g m e w = mem-rising_list (size g) m e w

-- the marks of a perfect matching are passed on, and made a list of edges: this is a perfect
-- matching again
module _ (g : Graph) (r : Set) (mark passed : List Bool) (passed_is : passed ≡ mark) (p : IsPerfect g r (marks mark)) where
  pub passed_matching : IsMatching g none (marks passed)
  passed_matching = subst (λ (row : List Bool). IsMatching g none (marks row)) (sym passed_is) (whole_matching g r (marks mark) (perfect_matching g r (marks mark) p))

  pub listed_perfect : (es : List ℕ) → es ≡ rising_list (size g) (marks passed) → IsPerfect g r (mem es)
  listed_perfect es es_is = grind (arith, degree_congr, listed_marks)

-- what the search returns if nothing is removed, where a matching with its mates is a list of edges
module _ (g : Graph) (is : IsGraph g) (removed : List ℕ) (mate : List ℕ) (sets : FinalSets) (nothing : removed ≡ []) (framed : HasFrame g (mem removed) mate sets) where
  whole : HasFrame g none mate sets
  whole = subst (λ (r : Set). HasFrame g r mate sets) (fun_ext (λ v. ap (λ s. mem s v) nothing)) framed

  module _ (passed : List ℕ) (passed_is : passed ≡ mate) (es : List ℕ) (paired : (r f : Set) → HasMates g r f (numbers passed) → HasMates g r (mem es) (numbers passed)) where
    has : HasMates g none (mem es) (numbers mate)
    has = subst (λ (row : List ℕ). HasMates g none (mem es) (numbers row)) passed_is (paired none whole.m (subst (λ (row : List ℕ). HasMates g none whole.m (numbers row)) (sym passed_is) whole.mates))

    mm : IsMatching g none (mem es)
    mm = has.matching

    frame : Frame g none (count (size g) (mem es)) (mem sets.outer) (mem sets.inner)
    frame = subst (λ k. Frame g none k (mem sets.outer) (mem sets.inner)) (same_mates_count g is none whole.m (mem es) (numbers mate) whole.mates has) whole.frame

    abbrev outer : Set
    outer = mem sets.outer

    abbrev inner : Set
    inner = mem sets.inner

    abbrev k : ℕ
    k = count (size g) (mem es)

    pub best_maximum : IsMaximum g none (mem es)
    best_maximum = certificate_maximum g none inner k frame.label frame.classes is frame.certificate (mem es) mm refl

    pub best_attains : Attains g none inner (mem es)
    best_attains = (certificate_components g none inner k frame.label frame.classes is frame.certificate (mem es) mm refl).1

    pub best_odd : (v : ℕ) → Within g.order v → (outer v ≡ true) ↔ ((inner v ≡ false) × (is_odd (count g.order (joined g inner v)) ≡ true))
    best_odd v w = (
      (λ t. (outer_free g is none k outer inner frame (mem es) mm refl v w t, outer_odd g is none k outer inner frame (mem es) mm refl v w t)),
      (λ t. odd_outer g is none k outer inner frame (mem es) mm refl v w refl t.0 t.1),
    )

    pub best_missed : (v : ℕ) → Within g.order v → (outer v ≡ true) ↔ InD g v
    best_missed v w = (
      (λ t. (outer_missable g is none k outer inner frame (mem es) mm refl v w t).1),
      (λ d. missable_outer g is none k outer inner frame (mem es) mm refl v w refl d.0 d.1 d.2),
    )

    pub best_next : (v : ℕ) → Within g.order v → (inner v ≡ true) ↔ InA g v
    best_next v w = (
      (λ t.
          let n = inner_next g is none k outer inner frame (mem es) mm refl v w t in
          let o = n.2.1 in
          let wo : Within g.order o = elim n.2.3 [ inl q ↦ subst (Within g.order) q.1 (is n.2.0 n.2.2).1 | inr q ↦ subst (Within g.order) q.0 (is n.2.0 n.2.2).0 ] in (
            (λ d. both_ways (outer v) n.0 ((best_missed v w).1 d)),
            (o, wo, (best_missed o wo).0 n.2.4, adjacent_from g none v o n.2.0 refl refl n.2.2 (has_ends-from g v o n.2.0 n.2.3)),
          )),
      (λ a.
          let u = a.1.0 in
          let e = edge_of g none v u a.1.3 in
          next_inner g is none k outer inner frame (mem es) mm refl v w (false_from_ne_true (outer v) (λ t. a.0 ((best_missed v w).0 t))) refl e.0 u e.1 e.4 ((best_missed u a.1.1).1 a.1.2)),
    )

    pub outer_rises : IsRisingIn 128 sets.outer → IsRisingIn g.order sets.outer
    outer_rises rises = set-narrower 128 g.order sets.outer rises (λ v q. ((whole.vertices v).0 q).1)

    pub inner_rises : IsRisingIn 128 sets.inner → IsRisingIn g.order sets.inner
    inner_rises rises = set-narrower 128 g.order sets.inner rises (λ v q. ((whole.vertices v).1 q).1)

-- a matching with a frame is perfect if and only if there is no outer vertex
module _ (g : Graph) (is : IsGraph g) (r m outer inner : Set) (mm : IsMatching g r m) (frame : Frame g r (count (size g) m) outer inner) where
  no_outer-perfect : ((v : ℕ) → outer v ≡ false) → IsPerfect g r m
  no_outer-perfect h = record { once = λ v w rv. one (degree g m v) (mm.once v w) (λ z. met v w rv z); away = mm.away }
    where
      met : (v : ℕ) → Within g.order v → r v ≡ false → degree g m v ≡ 0 → ⊥
      met v w rv z = both_ways (outer v) (h v) (missable_outer g is r (count (size g) m) outer inner frame m mm refl v w rv m (certificate_maximum g r inner (count (size g) m) frame.label frame.classes is frame.certificate m mm refl) z)

      one : (d : ℕ) → d ≤ 1 → (d ≡ 0 → ⊥) → d ≡ 1
      one d l n = grind arith

  outer-no_perfect : (v : ℕ) → Within g.order v → outer v ≡ true → HasPerfect g r → ⊥
  outer-no_perfect v w t p =
      let f = frame.missable v w t in
      let a = missed_edges g r f.0 is f.1 in
      let b = missed_edges g r p.0 is (perfect_matching g r p.0 p.1) in
      let c = perfect_misses g r p.0 p.1 in
      let d = certificate_bound g is r inner frame.label frame.classes frame.certificate.labels p.0 (perfect_matching g r p.0 p.1) (count (size g) m) frame.certificate.sizes in
      let o = (outer_missable g is r (count (size g) m) outer inner frame m mm refl v w t).0 in
      let e = missed_one g r f.0 v w o f.3 in
      let s = f.2 in absurd (omega arith)

-- an empty list, and the first of one that is not
empty-mem : (xs : List ℕ) → length xs ≡ 0 → (v : ℕ) → mem xs v ≡ false
empty-mem [] l v = refl
empty-mem (x ∷ xs) l v = absurd (omega arith)

some-mem : (xs : List ℕ) → 0 < length xs → (v : ℕ) × (mem xs v ≡ true)
some-mem [] l = absurd (omega arith)
some-mem (x ∷ xs) l = (x, Rattle.std.proofs.lemmas.Bool.or_left (x == x) (mem xs x) (eq-eqb x x refl))

-- the matching that the engine returns is perfect if and only if its list of outer vertices is
-- empty
module _ (g : Graph) (is : IsGraph g) (r : Set) (b : Best) (best : IsBest g r b) where
  pub no_outer-best_perfect : length b.sets.outer ≡ 0 → IsPerfect g r (marks b.mark.items)
  no_outer-best_perfect nothing = no_outer-perfect g is r (marks b.mark.items) (mem b.sets.outer) (mem b.sets.inner) best.matching best.frame (empty-mem b.sets.outer nothing)

  pub outer-none_perfect : length b.sets.outer ≢ 0 → HasPerfect g r → ⊥
  outer-none_perfect some = grind (arith, some-mem b.sets.outer, outer-no_perfect g is r (marks b.mark.items) (mem b.sets.outer) (mem b.sets.inner) best.matching best.frame)

-- the same where the mates of a matching are given: it holds for each matching with these mates
module _ (g : Graph) (is : IsGraph g) (r : Set) (mate : List ℕ) (sets : FinalSets) (framed : HasFrame g r mate sets) where
  pub no_outer-mates_perfect : length sets.outer ≡ 0 → (w : Set) → HasMates g r w (numbers mate) → IsPerfect g r w
  no_outer-mates_perfect nothing w has = no_outer-perfect g is r w (mem sets.outer) (mem sets.inner) has.matching
      (subst (λ k. Frame g r k (mem sets.outer) (mem sets.inner)) (same_mates_count g is r framed.m w (numbers mate) framed.mates has) framed.frame)
      (empty-mem sets.outer nothing)

  pub outer-mates_none : length sets.outer ≢ 0 → HasPerfect g r → ⊥
  outer-mates_none some = grind (arith, some-mem sets.outer, outer-no_perfect g is r framed.m (mem sets.outer) (mem sets.inner) framed.mates.matching framed.frame)
