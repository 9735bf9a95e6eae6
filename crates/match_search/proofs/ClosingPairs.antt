-- Two closing paths by mates: where they do not meet, the exchanged pairs and the pair of their
-- last vertices are a matching with one more edge; where they meet, the mates without the blossom
-- are those of the opened matching.
use Rattle.graph_core.proofs.from_counting.Common.{◌≡◌, ◌≢◌, ℕ, suc, ◌+◌, ◌-◌, ◌/◌, ◌≤◌, ◌<◌, true, false, cond, ◌==◌, refl, sym, ap, ◌∙◌, arith, ne_eqb, inl, inr, subst, length, List, ◌&&◌, not, fun_ext, cases_Bool, cases_eq, both_ways, false_from_ne_true, half, Within, bit, count, Set, minus, put, mem}
use Rattle.graph_core.proofs.Common.{degree_put, ends_of_is, Graph, HasEnds, degree, size, IsMatching}
use Rattle.match_search.specs.Common.{AreClosingPaths, ExposesOnly, HoldsBlossom, IsAugmented, second_start, IsAlternating, flipped, IsNearPerfect, HasMates, with_pair, flipped_mates, cleared_mates, IsOddCycle, every_other, listed, picked, numbers, part, IsOpenedCycle}
use Rattle.match_search.specs.declared.blossom.Blossom.{Blossom}
use Rattle.match_search.specs.declared.paths.Paths.{Paths}
use Rattle.match_search.proofs.Alike.{cycle_alike}
use Rattle.match_search.proofs.AlternatingPaths.{augmented, flipped_elsewhere, flipped_off}
use Rattle.match_search.proofs.ClosingEdges.{around, cycle, edges_around, even_j, high, low, spot, stem_count, stem_free, stem_holds, stem_matching}
use Rattle.match_search.proofs.Forests.{met}
use Rattle.match_search.proofs.MatePairs.{flipped_exposes, flipped_pairs, joined_pairs}
use Rattle.match_search.proofs.OddCycles.{cycle_holds, every_other-near_perfect, same_ends}
use Rattle.match_search.proofs.NearPerfectSets.{bit_minus, degree_split}

-- the mates of a set with the same members
pub mates_alike : (g : Graph) (r m : Set) (mate new : ℕ → ℕ) → ((u : ℕ) → new u ≡ mate u) → HasMates g r m mate → HasMates g r m new
mates_alike g r m mate new h has = subst (λ (x : ℕ → ℕ). HasMates g r m x) (sym (fun_ext h)) has

-- an edge more changes no degree but those of its ends
pub degree_elsewhere : (g : Graph) (m : Set) (d x y : ℕ) → Within (size g) d → HasEnds g d x y → (u : ℕ) → u ≢ x → u ≢ y → degree g (put m d true) u ≡ degree g m u
degree_elsewhere g m d x y w ends u nx ny = grind (arith, degree_put g m d true u w, ends_of_is g d x y ends u, ne_eqb x u, ne_eqb y u)

-- the mates of the stem without the cycle are those of the opened matching
module _ (g : Graph) (r f m : Set) (n : ℕ) (c e : ℕ → ℕ) (is : IsOpenedCycle g r f m n c e) where
  abbrev e1 : Set
  e1 = picked n (every_other 1) e

  cyc : IsOddCycle g r n c e
  cyc = is.cycle

  near : IsNearPerfect g (listed n c) (c 1) e1
  near = every_other-near_perfect g r n c e cyc 1 (let t = cyc.three in omega arith)

  m_is : m ≡ minus is.stem e1
  m_is = fun_ext is.left

  split : (v : ℕ) → degree g is.stem v ≡ degree g m v + degree g e1 v
  split v = subst (λ (x : Set). degree g is.stem v ≡ degree g x v + degree g e1 v) (sym m_is) (degree_split g is.stem (minus is.stem e1) e1 v (λ i w. bit_minus (is.stem i) (e1 i) (λ t. is.holds i w t)))

  -- the matching misses the cycle
  pub cycle_missed : (v : ℕ) → Within g.order v → listed n c v ≡ true → degree g m v ≡ 0
  cycle_missed v w t = elim (cases_eq v (c 1)) [
    | inl q ↦ let a = split v in let b = ap (degree g is.stem) q ∙ is.free in omega arith
    | inr q ↦
        let a = split v in
        let b = near.degrees v w in
        let x : bit (listed n c v && not (v == c 1)) ≡ 1 = grind arith in
        let o = is.matching.once v w in omega arith
  ]

  none_in_cycle : (v : ℕ) → Within g.order v → listed n c v ≡ false → degree g e1 v ≡ 0
  none_in_cycle v w t = near.degrees v w ∙ ap (λ b. bit (b && not (v == c 1))) t

  pub opened_pairs : (mate : ℕ → ℕ) → HasMates g r is.stem mate → HasMates g r m (cleared_mates mate n c)
  opened_pairs mate has = record {
    matching = record {
      once = λ v w. let a = split v in let b = is.matching.once v w in omega arith;
      away = λ v w t. let a = split v in let b = is.matching.away v w t in omega arith;
    };
    exposed = λ v w q. elim (cases_Bool (listed n c v)) [
      | inl t ↦ cycle_missed v w t
      | inr t ↦ let a = split v in let b = has.exposed v w (sym (ap (λ b. cond b 0 (mate v)) t) ∙ q) in omega arith
    ];
    paired = λ v w q. elim (cases_Bool (listed n c v)) [
      | inl t ↦ absurd (q (ap (λ b. cond b 0 (mate v)) t))
      | inr t ↦
          let here = ap (λ b. cond b 0 (mate v)) t in
          let d = has.paired v w (λ z. q (here ∙ z)) in
          let off = false_from_ne_true (e1 d.0) (λ o. let a = none_in_cycle v w t in let b = (met g e1 d.0 v (mate v) d.1 o d.3).0 in absurd (omega arith)) in
          (d.0, d.1, is.left d.0 ∙ ap (λ b. is.stem d.0 && not b) off ∙ ap (λ b. b && true) d.2, subst (λ (x : ℕ). HasEnds g d.0 v x) (sym here) d.3)
    ];
  }

module _ (g : Graph) (r f : Set) (mate : List ℕ) (w : Paths) (are : AreClosingPaths g r f mate w) where
  abbrev pub k : ℕ
  k = w.first

  abbrev pub l : ℕ
  l = w.second

  abbrev pub P : ℕ → ℕ
  P = part w.row.items 0

  abbrev pub Q : ℕ → ℕ
  Q = part w.row.items (second_start w)

  abbrev pub a : ℕ → ℕ
  a = are.first_edges

  abbrev pub b : ℕ → ℕ
  b = are.second_edges

  abbrev pub pp : IsAlternating g r f k P a
  pp = are.first_path

  abbrev pub qq : IsAlternating g r f l Q b
  qq = are.second_path

  -- the vertices of the paths have mates in the row of mates
  pub second_in : (j : ℕ) → j ≤ l + l → Q j < length mate
  second_in j lj = let v = qq.path.within j lj in let e = are.long in omega arith

  module _ (apart : (i j : ℕ) → i ≤ k + k → j ≤ l + l → P i ≢ Q j) where
    abbrev f1 : Set
    f1 = flipped f a k

    abbrev f2 : Set
    f2 = flipped f1 b l

    abbrev top : ℕ
    top = P (k + k)

    abbrev side : ℕ
    side = Q (l + l)

    other : (i j : ℕ) → i < l + l → j < k + k → b i ≢ a j
    other i j wi wj same =
        elim (same_ends g (b i) (Q i) (Q (suc i)) (P j) (P (suc j)) (qq.path.ends i wi) (subst (λ (z : ℕ). HasEnds g z (P j) (P (suc j))) (sym same) (pp.path.ends j wj))) [
          | inl s ↦ apart j i (omega arith) (omega arith) (sym s.0)
          | inr s ↦ apart (suc j) i (omega arith) (omega arith) (sym s.0)
        ]

    q1 : IsAlternating g r f1 l Q b
    q1 = record {
      path = qq.path;
      free = flipped_elsewhere g r f are.mates.matching k P a pp k (Q 0) (omega arith) (apart 0 0 (omega arith) (omega arith)) (apart (k + k) 0 (omega arith) (omega arith)) ∙ qq.free;
      turns = λ i wi. flipped_off g r f are.mates.matching k P a pp k (b i) (omega arith) (λ j wj. other i j wi wj) ∙ qq.turns i wi;
    }

    abbrev two : ℕ → ℕ
    two = flipped_mates (flipped_mates (numbers mate) P k) Q l

    has : HasMates g r f2 two
    has = flipped_pairs g r f1 (flipped_mates (numbers mate) P k) (flipped_pairs g r f (numbers mate) are.mates k P a pp k (omega arith)) l Q b q1 l (omega arith)

    more : IsMatching g r (put f2 are.edge true) × (count (size g) (put f2 are.edge true) ≡ count (size g) f + 1)
    more = augmented g r f are.mates.matching k P a pp l Q b qq apart are.edge are.real are.ends

    elsewhere : (u : ℕ) → u ≢ top → u ≢ side → degree g (put f2 are.edge true) u ≡ degree g f2 u
    elsewhere u nx ny = degree_elsewhere g f2 are.edge top side are.real are.ends u nx ny

    pub pairs_augmented : (new : List ℕ) → ((u : ℕ) → numbers new u ≡ with_pair two top side u) → IsAugmented g r f new
    pairs_augmented new h = (
      put f2 are.edge true,
      mates_alike g r (put f2 are.edge true) (with_pair two top side) (numbers new) h
          (joined_pairs g r f2 two are.edge top side has more.0 are.real are.ends are.different elsewhere (pp.path.within (k + k) (omega arith)) (qq.path.within (l + l) (omega arith))),
      more.1,
    )

  module _ (i j : ℕ) (li : i ≤ k + k) (lj : j ≤ l + l) (meet : P i ≡ Q j) (latest : (s u : ℕ) → i < s → s ≤ k + k → u ≤ l + l → P s ≢ Q u) (cs : List ℕ)
      (c_low : (y : ℕ) → y ≤ l + l - j → numbers cs (1 + y) ≡ numbers w.row.items (second_start w + j + y)) (c_high : (y : ℕ) → y < k + k - i → numbers cs (l + l - j + 2 + y) ≡ numbers w.row.items (i + 1 + (k + k - i - 1 - y))) where
    abbrev pub m : ℕ
    m = l + l - j

    abbrev pub x : ℕ
    x = k + k - i

    pub mj : m + j ≡ l + l
    mj = omega arith

    pub xi : x + i ≡ k + k
    xi = omega arith

    abbrev pub n : ℕ
    n = suc (m + x)

    abbrev pub round : ℕ → ℕ
    round = around g r f are.mates.matching are.inner k l P a Q b pp qq are.first_sides are.second_sides are.edge are.real are.ends are.different are.off i j li lj meet latest m x mj xi

    abbrev pub edge_round : ℕ → ℕ
    edge_round = edges_around g r f are.mates.matching are.inner k l P a Q b pp qq are.first_sides are.second_sides are.edge are.real are.ends are.different are.off i j li lj meet latest m x mj xi

    c_is : (s : ℕ) → Within n s → numbers cs s ≡ round s
    c_is s ws = elim (spot g r f are.mates.matching are.inner k l P a Q b pp qq are.first_sides are.second_sides are.edge are.real are.ends are.different are.off i j li lj meet latest m x mj xi s ws) [
      | inl t ↦ ap (numbers cs) (one t.0 t.2) ∙ c_low t.0 t.1 ∙ ap (numbers w.row.items) (plus (second_start w) j t.0) ∙ sym (ap round t.2 ∙ low g r f are.mates.matching are.inner k l P a Q b pp qq are.first_sides are.second_sides are.edge are.real are.ends are.different are.off i j li lj meet latest m x mj xi t.0 t.1)
      | inr t ↦ ap (numbers cs) (back s t.0 t.1 t.2 t.3) ∙ c_high (k + k - t.0) (let a = t.1 in let b = t.2 in omega arith) ∙ ap (numbers w.row.items) (place t.0 t.1 t.2) ∙ sym (high g r f are.mates.matching are.inner k l P a Q b pp qq are.first_sides are.second_sides are.edge are.real are.ends are.different are.off i j li lj meet latest m x mj xi s t.0 t.2 t.3)
    ]
      where
        one : (y : ℕ) → s ≡ suc y → s ≡ 1 + y
        one y h = omega arith

        plus : (a b c : ℕ) → a + b + c ≡ a + (b + c)
        plus a b c = omega arith

        back : (s y : ℕ) → i < y → y ≤ k + k → s + y ≡ k + k + suc (suc m) → s ≡ m + 2 + (k + k - y)
        back s y a b h = omega arith

        place : (y : ℕ) → i < y → y ≤ k + k → i + 1 + (k + k - i - 1 - (k + k - y)) ≡ 0 + y
        place y a b = omega arith

    pub blossom_cycle : IsOddCycle g r n (numbers cs) edge_round
    blossom_cycle = cycle_alike g r n round edge_round (numbers cs) edge_round c_is (λ i w. refl) (cycle g r f are.mates.matching are.inner k l P a Q b pp qq are.first_sides are.second_sides are.edge are.real are.ends are.different are.off i j li lj meet latest m x mj xi)

    pub half_is : j ≡ j / 2 + j / 2
    half_is = let t = half j (even_j g r f are.mates.matching are.inner k l P a Q b pp qq are.first_sides are.second_sides are.edge are.real are.ends are.different are.off i j li lj meet latest) in let h = t.1 in omega arith

    pub half_in : j / 2 ≤ l
    half_in = let h = half_is in omega arith

    abbrev stem : Set
    stem = flipped f b (j / 2)

    abbrev opened_matching : Set
    opened_matching = minus stem (picked n (every_other 1) edge_round)

    is_opened : IsOpenedCycle g r f opened_matching n (numbers cs) edge_round
    is_opened = record {
      cycle = blossom_cycle;
      stem = stem;
      matching = stem_matching g r f are.mates.matching are.inner k l P a Q b pp qq are.first_sides are.second_sides are.edge are.real are.ends are.different are.off i j li lj meet latest m x mj xi (j / 2) half_is;
      same = stem_count g r f are.mates.matching are.inner k l P a Q b pp qq are.first_sides are.second_sides are.edge are.real are.ends are.different are.off i j li lj meet latest m x mj xi (j / 2) half_is;
      free = ap (degree g stem) (c_is 1 (omega arith)) ∙ stem_free g r f are.mates.matching are.inner k l P a Q b pp qq are.first_sides are.second_sides are.edge are.real are.ends are.different are.off i j li lj meet latest m x mj xi (j / 2) half_is;
      holds = stem_holds g r f are.mates.matching are.inner k l P a Q b pp qq are.first_sides are.second_sides are.edge are.real are.ends are.different are.off i j li lj meet latest m x mj xi (j / 2) half_is;
      left = λ d. refl;
    }

    pub blossom_holds : (blossom : Blossom) → blossom.cycle.items ≡ cs → suc n ≡ length cs → ((v : ℕ) → mem blossom.members v ≡ listed (length cs - 1) (numbers cs) v) → (new : List ℕ) →
        ((u : ℕ) → numbers new u ≡ cleared_mates (flipped_mates (numbers mate) Q (j / 2)) (length cs - 1) (numbers cs) u) → HoldsBlossom g r f new blossom
    unfolding is_opened
    blossom_holds blossom row long members new mates = record {
      members = subst (λ (xs : List ℕ). (v : ℕ) → mem blossom.members v ≡ listed (length xs - 1) (numbers xs) v) (sym row) members;
      m = opened_matching;
      edge = edge_round;
      opened = subst (λ (xs : List ℕ). IsOpenedCycle g r f opened_matching (length xs - 1) (numbers xs) edge_round) (sym row) (subst (λ (t : ℕ). IsOpenedCycle g r f opened_matching t (numbers cs) edge_round) size is_opened);
      mates = mates_alike g r opened_matching (cleared_mates sm n (numbers cs)) (numbers new) (λ u. mates u ∙ ap (λ (t : ℕ). cleared_mates sm t (numbers cs) u) (sym size))
          (opened_pairs g r f opened_matching n (numbers cs) edge_round is_opened sm (flipped_pairs g r f (numbers mate) are.mates l Q b qq (j / 2) half_in));
    }
      where
        size : n ≡ length cs - 1
        size = omega arith

        sm : ℕ → ℕ
        sm = flipped_mates (numbers mate) Q (j / 2)

    pub blossom_exposes : (blossom : Blossom) → suc n ≡ length cs → ((v : ℕ) → mem blossom.members v ≡ listed (length cs - 1) (numbers cs) v) → (new : List ℕ) →
        ((u : ℕ) → numbers new u ≡ cleared_mates (flipped_mates (numbers mate) Q (j / 2)) (length cs - 1) (numbers cs) u) → ExposesOnly mate new blossom
    blossom_exposes blossom long members new mates v z = elim (cases_Bool (listed (length cs - 1) (numbers cs) v)) [
      | inl t ↦ inl (members v ∙ t)
      | inr t ↦ elim (flipped_exposes (numbers mate) Q (j / 2) (λ i b q. let w = qq.path.within i (let h = half_in in omega arith) in omega arith) v (sym (ap (λ b. cond b 0 (flipped_mates (numbers mate) Q (j / 2) v)) t) ∙ sym (mates v) ∙ z)) [
        | inl q ↦ absurd (both_ways (listed (length cs - 1) (numbers cs) v) t (ap (listed (length cs - 1) (numbers cs)) (q ∙ ap Q (sym half_is) ∙ base) ∙ subst (λ (k : ℕ). listed k (numbers cs) (numbers cs 1) ≡ true) size (cycle_holds g r n (numbers cs) edge_round blossom_cycle 1 (omega arith))))
        | inr q ↦ inr q
      ]
    ]
      where
        size : n ≡ length cs - 1
        size = omega arith

        base : Q j ≡ numbers cs 1
        base = ap (numbers w.row.items) (omega arith) ∙ sym (c_low 0 (omega arith))
