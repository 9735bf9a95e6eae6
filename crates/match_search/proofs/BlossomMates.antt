-- A blossom is shrunk to its base: which matchings has the smaller graph, by mates, and what are
-- they in the graph? Where the base is exposed, a matching misses the blossom; where it has a
-- mate, the edge between them can be put at a vertex of the blossom that the mate touches.
use Rattle.graph_core.proofs.from_counting.Common.{◌≡◌, ◌≢◌, ℕ, suc, zero, ◌+◌, ◌*◌, ◌≤◌, ◌<◌, true, false, ◌==◌, refl, sym, ap, ◌∙◌, arith, eq-eqb, ne_eqb, eqb-true, inl, inr, not, ◌&&◌, ◌||◌, subst, List, fun_ext, cases_Bool, cases_eq, both_ways, not-true, false_from_ne_true, and_from, or_right, half, some_true, at_le_total, Within, bit, count, is_odd, Set, complement, minus, put, mem}
use Rattle.graph_core.proofs.Common.{add_edge, ends_of_is, Graph, HasEnds, IsGraph, degree, size, with_ends, IsMatching}
use Rattle.match_search.specs.Common.{IsNearPerfect, IsShrunk, shrunk_removed, HasMates, with_mate, with_pair, IsOddCycle, every_other, listed, picked, IsOpenedCycle, IsInstance, Touches, shrunk_ends}
use Rattle.match_search.proofs.ClosingPairs.{cycle_missed, degree_elsewhere, mates_alike}
use Rattle.match_search.proofs.Forests.{met, turned}
use Rattle.match_search.proofs.LongerPaths.{end_within}
use Rattle.match_search.proofs.MatePairs.{joined_pairs, mate_back, removed_mate, with_here, with_there}
use Rattle.match_search.proofs.OddCycles.{cycle_holds, cycle_outside, cycle_size, every_other-near_perfect}
use Rattle.match_search.proofs.OpenedPairs.{less, less_count, less_pairs}
use Rattle.match_search.proofs.Shrinking.{degree_in, degree_out, degree_z, shrunk_ends_shrunk, shrunk_graph}
use Rattle.match_search.proofs.ShrunkMatchings.{down}
use Rattle.match_search.proofs.ShrunkFrames.{complement_size}
use Rattle.match_search.proofs.ShrunkInstances.{edge_keeps, edge_stays, edge_was}
use Rattle.match_search.proofs.Instances.{left_from}
use Rattle.match_search.specs.declared.instance.Instance.{Instance}

module _ (g : Graph) (is : IsGraph g) (r f m : Set) (n : ℕ) (c e : ℕ → ℕ) (opened : IsOpenedCycle g r f m n c e) where
  abbrev pub cs : Set
  cs = listed n c

  abbrev pub z : ℕ
  z = c 1

  abbrev pub es : List (ℕ × ℕ)
  es = shrunk_ends g cs z

  abbrev pub H : Graph
  H = with_ends g es

  abbrev pub rs : Set
  rs = shrunk_removed r cs z

  abbrev pub cyc : IsOddCycle g r n c e
  cyc = opened.cycle

  pub pulls : IsShrunk g cs z es
  pulls = shrunk_ends_shrunk g cs z

  pub first_within : Within n 1
  first_within = let a = cyc.three in omega arith

  pub cr : (v : ℕ) → cs v ≡ true → r v ≡ false
  cr = cycle_outside g r n c e cyc

  pub cw : (v : ℕ) → cs v ≡ true → Within g.order v
  cw v t = let at = some_true n (λ i. c i == v) t in subst (Within g.order) (eqb-true (c at.0) v at.2) (cyc.within at.0 at.1)

  pub wz : Within g.order z
  wz = cyc.within 1 first_within

  pub cz : cs z ≡ true
  cz = cycle_holds g r n c e cyc 1 first_within

  pub halves : (k : ℕ) × (count g.order cs ≡ suc (k + k)) × (1 ≤ k)
  halves = go n cyc.odd cyc.three (cycle_size g r n c e cyc)
    where
      go : (t : ℕ) → is_odd t ≡ true → 3 ≤ t → count g.order cs ≡ t → (k : ℕ) × (count g.order cs ≡ suc (k + k)) × (1 ≤ k)
      go zero o l s = absurd (omega arith)
      go (suc t) o l s = let q = half t (not-true (is_odd t) o) in (q.0, (let a = q.1 in omega arith), (let a = q.1 in omega arith))

  pub near_sets : (t : ℕ) → Within g.order t → cs t ≡ true → (d : Set) × IsNearPerfect g cs t d
  near_sets t w q = grind (arith, some_true n, eqb-true, every_other-near_perfect g r n c e cyc)

  pub graph : IsGraph H
  graph = shrunk_graph g is r cs z es pulls cr wz cz

  m_is : m ≡ minus opened.stem (picked n (every_other 1) e)
  m_is = fun_ext opened.left

  pub downs : IsMatching H rs m × (degree H m z ≡ 0) × (count (size H) m + halves.0 ≡ count (size g) opened.stem)
  downs = subst (λ (x : Set). IsMatching H rs x × (degree H x z ≡ 0) × (count (size H) x + halves.0 ≡ count (size g) opened.stem)) (sym m_is)
      (down g is r cs z es pulls cr wz cz opened.stem (picked n (every_other 1) e) halves.0 opened.matching opened.free opened.holds (every_other-near_perfect g r n c e cyc 1 first_within) halves.1)

  pub smaller : count g.order (complement rs) < count g.order (complement r)
  smaller = let a = complement_size g is r cs z es pulls cr wz cz halves.0 halves.1 in let b = halves.2 in omega arith

  pub same_size : size H ≡ size g
  same_size = pulls.same

  in_h : (d : ℕ) → Within (size g) d → Within (size H) d
  in_h d w = let a = same_size in omega arith

  in_g : (d : ℕ) → Within (size H) d → Within (size g) d
  in_g d w = let a = same_size in omega arith

  pub below_size : count (size H) m + halves.0 ≡ count (size g) f
  below_size = downs.2 ∙ opened.same

  -- the mates of the opened matching are mates in the shrunk graph
  pub below_mates : (mate : ℕ → ℕ) → HasMates g r m mate → HasMates H rs m mate
  below_mates mate has = record {
    matching = downs.0;
    exposed = λ v w q. elim (cases_Bool (cs v)) [
      | inl t ↦ elim (cases_eq v z) [
        | inl s ↦ ap (degree H m) s ∙ downs.1
        | inr s ↦ degree_in g is r cs z es pulls cr wz cz m v t s
      ]
      | inr t ↦ degree_out g is r cs z es pulls cr wz cz m v t ∙ has.exposed v w q
    ];
    paired = λ v w q.
        let d = has.paired v w q in
        let a = met g m d.0 v (mate v) d.1 d.2 d.3 in
        let wm = end_within g is d.0 (mate v) v d.1 (turned g d.0 v (mate v) d.3) in
        (d.0, in_h d.0 d.1, d.2, edge_keeps g cs z es pulls cz v (mate v) d.0 (out v w a.0) (out (mate v) wm a.1) d.1 d.3);
  }
    where
      out : (v : ℕ) → Within g.order v → 1 ≤ degree g m v → cs v ≡ false
      out v w l = false_from_ne_true (cs v) (λ t. let x = cycle_missed g r f m n c e opened v w t in absurd (omega arith))

  -- a matching of the shrunk graph, by mates
  module _ (m2 : Set) (mate : ℕ → ℕ) (has : HasMates H rs m2 mate) where
    removed_in : (v : ℕ) → cs v ≡ true → v ≢ z → rs v ≡ true
    removed_in v t s = or_right (r v) (cs v && not (v == z)) (and_from (cs v) (not (v == z)) t (ap not (ne_eqb v z s)))

    -- a vertex with a mate, except for the base, is outside the blossom
    mate_out : (v : ℕ) → Within g.order v → mate v ≢ 0 → v ≢ z → cs v ≡ false
    mate_out v w q s = false_from_ne_true (cs v) (λ t. q (removed_mate H graph rs m2 mate has v w (removed_in v t s)))

    -- where the base is exposed, the matching misses the blossom, and is one of g
    module _ (free : mate z ≡ 0) where
      pub blossom_missed : (v : ℕ) → Within g.order v → cs v ≡ true → degree g m2 v ≡ 0
      blossom_missed v w t =
          let a = degree_z g is r cs z es pulls cr wz cz m2 in
          let b = has.exposed z wz free in
          let d = at_le_total g.order (λ d. bit (cs d) * degree g m2 d) v w in
          let x : bit (cs v) * degree g m2 v ≡ degree g m2 v = ap (λ b. bit b * degree g m2 v) t ∙ Rattle.std.proofs.Common.one-mul (degree g m2 v) in omega arith

      pub free_mates : HasMates g r m2 mate
      free_mates = record {
        matching = record {
          once = λ v w. elim (cases_Bool (cs v)) [
            | inl t ↦ let a = blossom_missed v w t in omega arith
            | inr t ↦ let a = degree_out g is r cs z es pulls cr wz cz m2 v t in let b = has.matching.once v w in omega arith
          ];
          away = λ v w q. elim (cases_Bool (cs v)) [
            | inl t ↦ blossom_missed v w t
            | inr t ↦ sym (degree_out g is r cs z es pulls cr wz cz m2 v t) ∙ has.matching.away v w (ap (λ b. b || (cs v && not (v == z))) q)
          ];
        };
        exposed = λ v w q. elim (cases_Bool (cs v)) [
          | inl t ↦ blossom_missed v w t
          | inr t ↦ sym (degree_out g is r cs z es pulls cr wz cz m2 v t) ∙ has.exposed v w q
        ];
        paired = λ v w q.
            let d = has.paired v w q in
            let back = mate_back H graph rs m2 mate has v w q in
            let cv = mate_out v w q (λ s. q (ap mate s ∙ free)) in
            let cm = mate_out (mate v) back.0 (λ s. let a = sym back.1 ∙ s in absurd (omega arith)) (λ s. let a = sym back.1 ∙ ap mate s ∙ free in absurd (omega arith)) in
            (d.0, in_g d.0 d.1, d.2, edge_stays g cs z es pulls cz v (mate v) d.0 cv cm (in_g d.0 d.1) d.3);
      }

  -- where the base has a mate x, and an edge of g joins x to a vertex u of the blossom
  module _ (m2 : Set) (mate : ℕ → ℕ) (has : HasMates H rs m2 mate) (taken : mate z ≢ 0) where
    abbrev pub x : ℕ
    x = mate z

    back : Within g.order x × (mate x ≡ z)
    back = mate_back H graph rs m2 mate has z wz taken

    x_out : cs x ≡ false
    x_out = false_from_ne_true (cs x) (λ t. elim (cases_eq x z) [
      | inl s ↦
          let d = has.paired z wz taken in
          let a = ends_of_is H d.0 z x d.3 z in
          let b = Rattle.graph_core.proofs.Edits.ends_le_degree H m2 d.0 z d.1 d.2 in
          let o = has.matching.once z wz in
          let p = ap bit (eq-eqb z z refl) in
          let q = ap bit (eq-eqb x z s) in absurd (omega arith)
      | inr s ↦ both_ways (cs x) (mate_out m2 mate has x back.0 (λ q. let a = sym back.1 ∙ q in let w = wz in absurd (omega arith)) s) t
    ])

    x_not_z : x ≢ z
    x_not_z s = both_ways (cs x) x_out (ap cs s ∙ cz)

    rx : r x ≡ false
    rx = false_from_ne_true (r x) (λ t. let a = removed_mate H graph rs m2 mate has x back.0 (ap (λ b. b || (cs x && not (x == z))) t) in let b = sym back.1 ∙ a in let w = wz in absurd (omega arith))

    pub edge : (d : ℕ) × Within (size H) d × (m2 d ≡ true) × HasEnds H d z x
    edge = has.paired z wz taken

    abbrev pub fewer : Set
    fewer = less H rs m2 mate has edge.0 z x edge.1 edge.2 edge.3

    abbrev pub parted : ℕ → ℕ
    parted = with_mate (with_mate mate z 0) x 0

    parted_has : HasMates H rs fewer parted
    parted_has = less_pairs H rs m2 mate has edge.0 z x edge.1 edge.2 edge.3

    parted_free : parted z ≡ 0
    parted_free = with_there (with_mate mate z 0) x 0 z (λ s. x_not_z (sym s)) ∙ with_here mate z 0 z refl

    parted_below : HasMates g r fewer parted
    parted_below = free_mates fewer parted parted_has parted_free

    -- in g, the mate of the base touches a vertex of the blossom
    pub outside_near : (s : Instance) → IsInstance g r s → (i : ℕ) × Within n i × (mem s.left (c i) ≡ true) × Touches s (mate z) (c i)
    outside_near s inst =
        let d = has.paired z wz taken in
        let w = edge_was g cs z es pulls cz x d.0 x_out (in_g d.0 d.1) (turned H d.0 z x d.3) in
        let at = some_true n (λ i. c i == w.0) w.2 in
        let same = eqb-true (c at.0) w.0 at.2 in (
          at.0,
          at.1,
          left_from g r s inst (c at.0) (cyc.within at.0 at.1) (cr (c at.0) (cycle_holds g r n c e cyc at.0 at.1)),
          subst (Touches s x) (sym same) (inst.touched d.0 x w.0 (in_g d.0 d.1) w.1 back.0 (cw w.0 w.2) rx (cr w.0 w.2) (λ q. both_ways (cs x) x_out (ap cs q ∙ w.2))),
        )

    -- and a vertex of the blossom that it touches is joined to it by an edge
    pub outside_edge : (s : Instance) → IsInstance g r s → (t : ℕ) → Within n t → Touches s (mate z) (c t) → (d : ℕ) × Within (size g) d × HasEnds g d (mate z) (c t)
    outside_edge s inst t wt q =
        let ct = cycle_holds g r n c e cyc t wt in
        inst.joined x (c t) back.0 (cyc.within t wt) rx (cr (c t) ct) (λ h. both_ways (cs x) x_out (ap cs h ∙ ct)) q

    pub outside_within : Within g.order (mate z)
    outside_within = back.0

    module _ (u d2 : ℕ) (cu : cs u ≡ true) (wd : Within (size g) d2) (ends : HasEnds g d2 (mate z) u) where
      x_not_u : x ≢ u
      x_not_u s = both_ways (cs x) x_out (ap cs s ∙ cu)

      added : IsMatching g r (put fewer d2 true) × (count (size g) (put fewer d2 true) ≡ count (size g) fewer + 1)
      added = add_edge g r fewer d2 x u parted_below.matching wd x_not_u rx (cr u cu) ends (parted_below.exposed x back.0 (with_here (with_mate mate z 0) x 0 x refl)) (blossom_missed fewer parted parted_has parted_free u (cw u cu) cu)

      -- the edge at the base put at u
      abbrev pub moved : Set
      moved = put fewer d2 true

      pub moved_mates : HasMates g r moved (with_pair (with_mate mate z 0) x u)
      moved_mates = mates_alike g r moved (with_pair parted x u) (with_pair (with_mate mate z 0) x u) (grind arith)
          (joined_pairs g r fewer parted d2 x u parted_below added.0 wd ends x_not_u (λ v nx nu. degree_elsewhere g fewer d2 x u wd ends v nx nu) back.0 (cw u cu))

      pub moved_missed : (v : ℕ) → Within g.order v → cs v ≡ true → v ≢ u → degree g moved v ≡ 0
      moved_missed v w t s = degree_elsewhere g fewer d2 x u wd ends v (λ q. both_ways (cs x) x_out (ap cs (sym q) ∙ t)) s ∙ blossom_missed fewer parted parted_has parted_free v w t

      pub moved_count : count (size g) moved ≡ count (size H) m2
      moved_count =
          let a = less_count H rs m2 mate has edge.0 z x edge.1 edge.2 edge.3 in
          let b = added.1 in
          let d = ap (λ (k : ℕ). count k fewer) same_size in omega arith
