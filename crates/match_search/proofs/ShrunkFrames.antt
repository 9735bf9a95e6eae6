-- A set C is shrunk to one vertex z of it. Do labellings and frames of the shrunk graph go up?
-- Yes: each vertex of C gets the label of z, and is outer.
use Rattle.graph_core.proofs.from_counting.Common.{◌≡◌, ℕ, suc, ◌+◌, ◌*◌, ◌≤◌, Bool, true, false, cond, ◌==◌, refl, sym, ap, ap₂, ◌∙◌, arith, ◌||◌, not, eq-eqb, ne_eqb, inl, inr, nat_lt, List, cases_Bool, odd-add, odd-double, total_add, total_at, total_congr, or_false, or_true, Within, bit, count, is_odd, total, Set, complement, union}
use Rattle.graph_core.proofs.Common.{Graph, IsGraph, degree, first_end, second_end, size, HasEnds, with_ends, IsMatching}
use Rattle.match_search.specs.Common.{Frame, IsCertificate, IsOddLabelling, IsNearPerfect, IsShrunk, shrunk_vertex, shrunk_removed}
use Rattle.match_search.proofs.Certificates.{certificate_tight}
use Rattle.match_search.proofs.Shrinking.{in_g, shrunk_graph, in_le_z, tip, shut_z, shut_out}
use Rattle.match_search.proofs.ShrunkMatchings.{up}

module _ (g : Graph) (is : IsGraph g) (r c : Set) (z : ℕ) (es : List (ℕ × ℕ)) (pulls : IsShrunk g c z es) (cr : (v : ℕ) → c v ≡ true → r v ≡ false) (wz : Within g.order z) (cz : c z ≡ true) where
  abbrev h : Graph
  h = with_ends g es

  abbrev r' : Set
  r' = shrunk_removed r c z

  -- r' has all of c but z beside r
  pub complement_size : (k : ℕ) → count g.order c ≡ suc (k + k) → count g.order (complement r) ≡ count g.order (complement r') + (k + k)
  complement_size k odd =
      let a = total_congr g.order (λ v. bit (complement r v) + bit (z == v)) (λ v. bit (complement r' v) + bit (c v)) (λ v w. grind arith) in
      let b = total_add g.order (λ v. bit (complement r v)) (λ v. bit (z == v)) in
      let d = total_add g.order (λ v. bit (complement r' v)) (λ v. bit (c v)) in
      let e : total g.order (λ v. bit (z == v)) ≡ 1 = total_at g.order (λ v. bit (z == v)) z wz (λ v w n. ap bit (ne_eqb z v (λ e. n (sym e)))) ∙ ap bit (eq-eqb z z refl) in
      omega arith

  -- the labels of h, with that of z for each vertex of c
  abbrev pub lifted : (ℕ → ℕ) → ℕ → ℕ
  lifted label v = cond (c v) (label z) (label v)

  module _ (s : Set) (label : ℕ → ℕ) (p k : ℕ) (labels : IsOddLabelling h (union r' s) label p) (sr : (v : ℕ) → Within g.order v → s v ≡ true → r' v ≡ false) (sz : s z ≡ false) (odd : count g.order c ≡ suc (k + k)) where
    s_out : (v : ℕ) → Within g.order v → s v ≡ true → c v ≡ false
    s_out v w t = grind arith

    x_out : (v : ℕ) → Within g.order v → union r s v ≡ true → c v ≡ false
    x_out v w t = grind arith

    lifted_is : (a : ℕ) → lifted label a ≡ label (shrunk_vertex c z a)
    lifted_is a = grind arith

    pulled_free : (a : ℕ) → union r s a ≡ false → union r' s (shrunk_vertex c z a) ≡ false
    pulled_free a q = grind arith

    class_size : (j : ℕ) → 1 ≤ j → count g.order (λ v. lifted label v == j) + bit (label z == j) ≡ count g.order (λ v. label v == j) + bit (label z == j) * count g.order c
    class_size j l =
        ap (λ k. count g.order (λ v. lifted label v == j) + k) (sym (total_at g.order (λ v. bit (z == v) * bit (label z == j)) z wz (λ v w n. ap (λ k. k * bit (label z == j)) (ap bit (ne_eqb z v (λ e. n (sym e)))) ∙ Rattle.std.proofs.Common.zero-mul (bit (label z == j))) ∙ ap (λ b. bit b * bit (label z == j)) (eq-eqb z z refl) ∙ Rattle.std.proofs.Common.one-mul (bit (label z == j))))
        ∙ sym (total_add g.order (λ v. bit (lifted label v == j)) (λ v. bit (z == v) * bit (label z == j)))
        ∙ total_congr g.order _ _ (λ v w. grind arith)
        ∙ total_add g.order (λ v. bit (label v == j)) (λ v. bit (label z == j) * bit (c v))
        ∙ ap (λ k. count g.order (λ v. label v == j) + k) (Rattle.graph_core.proofs.from_counting.Totals.total_mul g.order (bit (label z == j)) (λ v. bit (c v)))

    pub labels_up : IsOddLabelling g (union r s) (lifted label) p
    labels_up = grind (arith, low_at, x_out, shut_out g is r c z es pulls cr wz cz, lifted_is, pulled_free, odd_at)
      where
        low_at : (v : ℕ) → Within g.order v → (b : Bool) → cond b (label z) (label v) ≤ p
        low_at v w b = grind arith

        odd_at : (j : ℕ) → Within p j → is_odd (count g.order (λ v. lifted label v == j)) ≡ true
        odd_at j w = go (label z == j) (class_size j w.0)
          where
            go : (b : Bool) → count g.order (λ v. lifted label v == j) + bit b ≡ count g.order (λ v. label v == j) + bit b * count g.order c → is_odd (count g.order (λ v. lifted label v == j)) ≡ true
            go false e = let a : count g.order (λ v. lifted label v == j) ≡ count g.order (λ v. label v == j) = omega arith in ap is_odd a ∙ labels.odd j w
            go true e = let a : count g.order (λ v. lifted label v == j) ≡ count g.order (λ v. label v == j) + (k + k) = omega arith in
                ap is_odd a ∙ odd-add (count g.order (λ v. label v == j)) (k + k) ∙ ap₂ (λ x y. cond x (not y) y) (labels.odd j w) (odd-double k)

  pub certificate_up : (s : Set) (label : ℕ → ℕ) (p k l : ℕ) → IsCertificate h r' l s label p → s z ≡ false → count g.order c ≡ suc (k + k) → IsCertificate g r (l + k) s (lifted label) p
  certificate_up s label p k l cert sz odd = record {
    outside = λ v w t. sym (shut_out g is r c z es pulls cr wz cz v (s_out s label p k cert.labels cert.outside sz odd v w t)) ∙ cert.outside v w t;
    labels = labels_up s label p k cert.labels cert.outside sz odd;
    sizes = let a = complement_size k odd in let b = cert.sizes in omega arith;
  }

  -- the frame of h is one of g, with c among the outer vertices
  pub frame_up : (m outer inner : Set) (k l : ℕ) → IsMatching h r' m → degree h m z ≡ 0 → count (size h) m ≡ l → Frame h r' l outer inner → ((t : ℕ) → Within g.order t → c t ≡ true → (e : Set) × IsNearPerfect g c t e) → count g.order c ≡ suc (k + k)
      → (outer z ≡ true) × (inner z ≡ false) × Frame g r (l + k) (union outer c) inner
  frame_up m outer inner k l mm mz size_m frame near_sets odd = (
    outer_z,
    tight.1,
    record {
      label = lifted frame.label;
      classes = frame.classes;
      certificate = certificate_up inner frame.label frame.classes k l frame.certificate tight.1 odd;
      labelled = λ v w. labelled v w;
      missable = λ v w t. missable v w t;
      seen = λ i w t. seen i w t;
    },
  )
    where
      tight : (nat_lt 0 (frame.label z) ≡ true) × (inner z ≡ false)
      tight = certificate_tight h (shrunk_graph g is r c z es pulls cr wz cz) r' inner frame.label frame.classes frame.certificate.labels m mm l frame.certificate.sizes size_m z wz (shut_z g is r c z es pulls cr wz cz) mz

      outer_z : outer z ≡ true
      outer_z = frame.labelled z wz ∙ tight.0

      labelled : (v : ℕ) → Within g.order v → union outer c v ≡ nat_lt 0 (lifted frame.label v)
      labelled v w = go (c v)
        where
          go : (b : Bool) → (outer v || b) ≡ nat_lt 0 (cond b (frame.label z) (frame.label v))
          go true = or_true (outer v) ∙ sym tight.0
          go false = or_false (outer v) ∙ frame.labelled v w

      missable : (v : ℕ) → Within g.order v → union outer c v ≡ true → (n : Set) × IsMatching g r n × (count (size g) n ≡ l + k) × (degree g n v ≡ 0)
      missable v w t = elim (cases_Bool (c v)) [
        | inl q ↦
            let e = near_sets v w q in
            let u = up g is r c z es pulls cr wz cz m e.0 k v mm w q (λ d wd cd n. let a = in_le_z g is r c z es pulls cr wz cz m d wd cd in omega arith) e.1 odd in
            (union m e.0, u.0, (let a = u.1 in omega arith), u.3 ∙ mz)
        | inr q ↦
            let f = frame.missable v w (go (outer v) (c v) q t) in
            let tp = tip g is r c z es pulls cr wz cz f.0 (f.1.once z wz) in
            let e = near_sets tp.0 tp.1 tp.2 in
            let u = up g is r c z es pulls cr wz cz f.0 e.0 k tp.0 f.1 tp.1 tp.2 tp.3 e.1 odd in
            (union f.0 e.0, u.0, (let a = u.1 in let b = f.2 in omega arith), u.2 v w q ∙ f.3)
      ]
        where
          go : (a b : Bool) → b ≡ false → (a || b) ≡ true → a ≡ true
          go a b p q = grind arith

      seen : (i : ℕ) → Within g.order i → inner i ≡ true → (e : ℕ) × (o : ℕ) × Within (size g) e × HasEnds g e i o × (union outer c o ≡ true)
      seen i w t =
          let f = frame.seen i w t in
          let we = in_g g is r c z es pulls cr wz cz f.0 f.2 in
          let ci = s_out inner frame.label frame.classes k frame.certificate.labels frame.certificate.outside tight.1 odd i w t in
          elim f.3 [
            | inl q ↦ (f.0, second_end g f.0, we, inl (own (first_end g f.0) ci (sym (pulls.first_ends f.0 we) ∙ q.0), refl), outer_of (second_end g f.0) (ap outer (sym (pulls.second_ends f.0 we) ∙ q.1) ∙ f.4))
            | inr q ↦ (f.0, first_end g f.0, we, inr (refl, own (second_end g f.0) ci (sym (pulls.second_ends f.0 we) ∙ q.1)), outer_of (first_end g f.0) (ap outer (sym (pulls.first_ends f.0 we) ∙ q.0) ∙ f.4))
          ]
        where
          own : (a : ℕ) → c i ≡ false → shrunk_vertex c z a ≡ i → a ≡ i
          own a ci = grind arith

          outer_of : (a : ℕ) → outer (shrunk_vertex c z a) ≡ true → union outer c a ≡ true
          outer_of a = grind arith
