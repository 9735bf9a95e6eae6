-- The two-ear theorem for edges: if adding some edges keeps a covered graph covered, so does adding
-- one or two of them. Take a perfect matching that contains one of them.
use Rattle.graph_core.proofs.from_counting.Common.{◌≡◌, ℕ, suc, zero, ◌+◌, ◌*◌, ◌≤◌, ◌≢◌, Bool, true, false, cond, ◌==◌, refl, sym, ap, ◌∙◌, arith, ◌&&◌, ◌||◌, not, eqb-true, ◌⊎◌, inl, inr, nat_lt, lt-ltb, le-ltb, subst, [], ◌∷◌, List, length, cases_eq, cases_Bool, cases_lt, and_from, true≢false, not-false, or_right, or_parts, but_not, Within, bit, Set, none, union, IsIn}
use Rattle.graph_core.proofs.Common.{joined_walk, walk_joined, degree_congr, IsCovered, Graph, IsGraph, degree, first_end, second_end, size, with_ends, Allowed, IsPerfect, Joined}
use Rattle.two_ears.proofs.AddedEdges.{degree-added, degree-with_pairs, second_end-new, second_end-old, keeps-with_pairs, first_end-new, first_end-old, with_pairs-longer, size-added, with_new}
use Rattle.two_ears.proofs.JoinedClasses.{keeps-itself, joined_more}
use Rattle.two_ears.proofs.TwoEars.{ends_of_one, two_ears}
use Rattle.two_ears.specs.AddedEdges.{with_pairs}
use Rattle.two_ears.specs.VertexPairs.{AreDisjoint, pairs_at, set_of_pair}

ends-with_pairs : (g : Graph) (ps : List (ℕ × ℕ)) (e : ℕ) → Within (size g) e → (first_end (with_ends g (with_pairs g.ends ps)) e ≡ first_end g e) × (second_end (with_ends g (with_pairs g.ends ps)) e ≡ second_end g e)
ends-with_pairs g [] e w = (refl, refl)
ends-with_pairs g (p ∷ ps) e w =
    let l = with_pairs-longer g.ends ps in
    let v : Within (length (with_pairs g.ends ps)) e = omega arith in
    let r = ends-with_pairs g ps e w in
    (first_end-old g (with_pairs g.ends ps) p e v ∙ r.0, second_end-old g (with_pairs g.ends ps) p e v ∙ r.1)

abbrev without_new : Graph → Set → Set
without_new g m e = m e && not (nat_lt (size g) e)

degree_without : (g : Graph) (m : Set) (ps : List (ℕ × ℕ)) (v : ℕ) → degree (with_ends g (with_pairs g.ends ps)) (without_new g m) v ≡ degree g m v
degree_without g m [] v = degree_congr g (without_new g m) m v (λ e w. grind arith)
degree_without g m (p ∷ ps) v =
    let d = degree-added g (with_pairs g.ends ps) p (without_new g m) v in
    let i = degree_without g m ps v in
    let n : bit (without_new g m (suc (length (with_pairs g.ends ps)))) ≡ 0 = ap bit (but_not (m (suc (length (with_pairs g.ends ps)))) (nat_lt (size g) (suc (length (with_pairs g.ends ps)))) (lt-ltb (size g) (suc (length (with_pairs g.ends ps))) (let a = with_pairs-longer g.ends ps in omega arith))) in
    let q = ap (λ k. k * (bit (p.0 == v) + bit (p.1 == v))) n in omega arith

-- further edges that complete some set to a perfect matching keep a covered graph covered
pub covered-with_pairs : (g : Graph) → IsGraph g → IsCovered g → (ps : List (ℕ × ℕ)) → ((p : ℕ × ℕ) → IsIn p ps → Within g.order p.0 × Within g.order p.1) →
    (q : Set) → ((v : ℕ) → Within g.order v → degree g q v + pairs_at ps v ≡ 1) → IsCovered (with_ends g (with_pairs g.ends ps))
unfolding Joined
covered-with_pairs g is cov ps w q one = record {
  two = cov.two;
  connected = λ u v wu wv. let h = keeps-with_pairs g (keeps-itself g is) ps w in
      joined_walk (with_ends g (with_pairs g.ends ps)) none u v (joined_more g (with_pairs g.ends ps) none none is h (λ x wx t. t) u v wu wv (walk_joined g none is u v wu (cov.connected u v wu wv)));
  allowed = λ e we d. elim (cases_lt (size g) e) [
    | inl l ↦ (with_new g q, record { once = λ v wv o. degree-with_pairs g q ps v ∙ one v wv; away = λ v wv o. absurd (true≢false (sym o)) }, or_right (q e) (nat_lt (size g) e) (lt-ltb (size g) e l))
    | inr l ↦
        let r = ends-with_pairs g ps e (omega arith) in
        let m = cov.allowed e (omega arith) (λ i. d (r.0 ∙ i ∙ sym r.1)) in
        (without_new g m.0, record { once = λ v wv o. degree_without g m.0 ps v ∙ m.1.once v wv o; away = λ v wv o. absurd (true≢false (sym o)) }, and_from (m.0 e) (not (nat_lt (size g) e)) m.2 (ap not (le-ltb (size g) e l)))
  ];
}

-- the pairs whose edges m has
pub chosen : Graph → Set → List (ℕ × ℕ) → List (ℕ × ℕ)
chosen g m [] = []
chosen g m (p ∷ ps) = cond (m (suc (length (with_pairs g.ends ps)))) (p ∷ chosen g m ps) (chosen g m ps)

chosen_in : (g : Graph) (m : Set) (ps : List (ℕ × ℕ)) (p : ℕ × ℕ) → IsIn p (chosen g m ps) → IsIn p ps
unfolding chosen
chosen_in g m [] p i = absurd i
chosen_in g m (q ∷ ps) p i = go (m (suc (length (with_pairs g.ends ps)))) i (chosen_in g m ps p)
  where
    go : (b : Bool) → IsIn p (cond b (q ∷ chosen g m ps) (chosen g m ps)) → (IsIn p (chosen g m ps) → IsIn p ps) → IsIn p (q ∷ ps)
    go true j h = elim j [ inl k ↦ inl k | inr k ↦ inr (h k) ]
    go false j h = inr (h j)

degree_chosen : (g : Graph) (m : Set) (ps : List (ℕ × ℕ)) (v : ℕ) → degree (with_ends g (with_pairs g.ends ps)) m v ≡ degree g m v + pairs_at (chosen g m ps) v
unfolding chosen
degree_chosen g m [] v = omega arith
degree_chosen g m (p ∷ ps) v = degree-added g (with_pairs g.ends ps) p m v ∙ go (m (suc (length (with_pairs g.ends ps)))) (degree_chosen g m ps v)
  where
    go : (b : Bool) → degree (with_ends g (with_pairs g.ends ps)) m v ≡ degree g m v + pairs_at (chosen g m ps) v →
        degree (with_ends g (with_pairs g.ends ps)) m v + bit b * (bit (p.0 == v) + bit (p.1 == v)) ≡ degree g m v + pairs_at (cond b (p ∷ chosen g m ps) (chosen g m ps)) v
    go true e = omega arith
    go false e = omega arith

same_or_apart : (ps : List (ℕ × ℕ)) (p q : ℕ × ℕ) (v : ℕ) → IsIn p ps → IsIn q ps → (p ≡ q) ⊎ ((bit (p.0 == v) + bit (p.1 == v)) + (bit (q.0 == v) + bit (q.1 == v)) ≤ pairs_at ps v)
same_or_apart [] p q v i j = absurd i
same_or_apart (r ∷ ps) p q v i j = elim i [
  | inl x ↦ grind (arith, ends_of_one ps q v)
  | inr x ↦ elim j [
    | inl y ↦ let a = ap (λ z. bit (z.0 == v) + bit (z.1 == v)) y in let b = ends_of_one ps p v x in inr (omega arith)
    | inr y ↦ elim (same_or_apart ps p q v x y) [ inl k ↦ inl k | inr k ↦ inr (omega arith) ]
  ]
]

same_pair : (p q : ℕ × ℕ) → (p ≡ q) ⊎ (p ≢ q)
same_pair p q = grind (arith, cases_eq)

module _ (g : Graph) (is : IsGraph g) (cov : IsCovered g) (p0 : ℕ × ℕ) (rest : List (ℕ × ℕ)) (within : (p : ℕ × ℕ) → IsIn p (p0 ∷ rest) → Within g.order p.0 × Within g.order p.1)
    (differ : (p : ℕ × ℕ) → IsIn p (p0 ∷ rest) → p.0 ≢ p.1) (more : IsCovered (with_ends g (with_pairs g.ends (p0 ∷ rest)))) where
  abbrev ps : List (ℕ × ℕ)
  ps = p0 ∷ rest

  e0 : ℕ
  e0 = suc (length (with_pairs g.ends rest))

  used : Allowed (with_ends g (with_pairs g.ends ps)) e0
  unfolding e0
  used = let l = size-added g (with_pairs g.ends rest) p0 in more.allowed (suc (length (with_pairs g.ends rest))) (omega arith) (λ i. differ p0 (inl refl) (sym (first_end-new g (with_pairs g.ends rest) p0) ∙ i ∙ second_end-new g (with_pairs g.ends rest) p0))

  m : Set
  m = used.0

  perfect : IsPerfect (with_ends g (with_pairs g.ends ps)) none m
  unfolding m
  perfect = used.1

  qs : List (ℕ × ℕ)
  qs = chosen g m ps

  some_chosen : qs ≢ []
  unfolding qs chosen m e0
  some_chosen e = grind arith

  of_qs : (p : ℕ × ℕ) → IsIn p qs → IsIn p ps
  unfolding qs
  of_qs p i = chosen_in g m ps p i

  split : (v : ℕ) → Within g.order v → degree g m v + pairs_at qs v ≡ 1
  unfolding qs
  split v w = sym (degree_chosen g m ps v) ∙ perfect.once v w refl

  zero_of : (k : ℕ) → not (k == 0) ≡ false → k ≡ 0
  zero_of k h = eqb-true k 0 (not-false (k == 0) h)

  pos : (k : ℕ) → not (k == 0) ≡ true → 1 ≤ k
  pos zero h = absurd (true≢false (sym h))
  pos (suc k) h = omega arith

  disjoint : AreDisjoint g.order qs
  disjoint = record { within = λ p i. within p (of_qs p i); once = λ v w. let a = split v w in omega arith }

  pair : (p : ℕ × ℕ) × (q : ℕ × ℕ) × IsIn p qs × IsIn q qs × ((k : Set) × IsPerfect g (union (set_of_pair p) (set_of_pair q)) k)
  pair = two_ears g is cov qs some_chosen disjoint (
    m,
    record {
      once = λ v w o. let a = split v w in let b = zero_of (pairs_at qs v) o in omega arith;
      away = λ v w o. let a = split v w in let b = pos (pairs_at qs v) o in omega arith;
    },
  )

  one_or_none : (a b : Bool) → (a || b) ≡ false → bit a + bit b ≡ 0
  one_or_none a b h = grind arith

  some_or : (a b : Bool) → (a || b) ≡ true → 1 ≤ bit a + bit b
  some_or a b h = grind arith

  pub edge_form_here : ((p : ℕ × ℕ) × IsIn p ps × IsCovered (with_ends g (with_pairs g.ends (p ∷ [])))) ⊎ ((p : ℕ × ℕ) × (q : ℕ × ℕ) × IsIn p ps × IsIn q ps × IsCovered (with_ends g (with_pairs g.ends (p ∷ q ∷ []))))
  edge_form_here = go pair.0 pair.1 pair.2 pair.3 pair.4.0 pair.4.1
    where
      go : (p q : ℕ × ℕ) → IsIn p qs → IsIn q qs → (k : Set) → IsPerfect g (union (set_of_pair p) (set_of_pair q)) k → ((p : ℕ × ℕ) × IsIn p ps × IsCovered (with_ends g (with_pairs g.ends (p ∷ [])))) ⊎ ((p : ℕ × ℕ) × (q : ℕ × ℕ) × IsIn p ps × IsIn q ps × IsCovered (with_ends g (with_pairs g.ends (p ∷ q ∷ []))))
      go p q i j k h = elim (same_pair p q) [
        | inl e ↦ inl (p, of_qs p i, covered-with_pairs g is cov (p ∷ []) (λ r x. elim x [ inl y ↦ subst (λ z. Within g.order z.0 × Within g.order z.1) (sym y) (within p (of_qs p i)) | inr y ↦ absurd y ]) k (λ v w. single v w e))
        | inr d ↦ inr (
          p,
          q,
          of_qs p i,
          of_qs q j,
          covered-with_pairs g is cov (p ∷ q ∷ []) (λ r x. elim x [
            | inl y ↦ subst (λ z. Within g.order z.0 × Within g.order z.1) (sym y) (within p (of_qs p i))
            | inr y ↦ elim y [ inl z ↦ subst (λ z. Within g.order z.0 × Within g.order z.1) (sym z) (within q (of_qs q j)) | inr z ↦ absurd z ]
          ]) k (λ v w. double v w d),
        )
      ]
        where
          single : (v : ℕ) → Within g.order v → p ≡ q → degree g k v + ((bit (p.0 == v) + bit (p.1 == v)) + 0) ≡ 1
          single v w e = elim (cases_Bool (union (set_of_pair p) (set_of_pair q) v)) [
            | inl t ↦
                let a = h.away v w t in
                let l = ends_of_one qs p v i in
                let s = split v w in
                let u = some_or (p.0 == v) (p.1 == v) (grind arith) in omega arith
            | inr t ↦ let a = h.once v w t in let u = one_or_none (p.0 == v) (p.1 == v) (or_parts (set_of_pair p v) (set_of_pair q v) t).0 in omega arith
          ]

          double : (v : ℕ) → Within g.order v → p ≢ q → degree g k v + ((bit (p.0 == v) + bit (p.1 == v)) + ((bit (q.0 == v) + bit (q.1 == v)) + 0)) ≡ 1
          double v w d = elim (same_or_apart qs p q v i j) [
            | inl e ↦ absurd (d e)
            | inr l ↦ let s = split v w in elim (cases_Bool (union (set_of_pair p) (set_of_pair q) v)) [
              | inl t ↦ grind arith
              | inr t ↦ let a = h.once v w t in let r = or_parts (set_of_pair p v) (set_of_pair q v) t in let u = one_or_none (p.0 == v) (p.1 == v) r.0 in let x = one_or_none (q.0 == v) (q.1 == v) r.1 in omega arith
            ]
          ]

-- the edge form of the two-ear theorem
pub edge_form : (g : Graph) → IsGraph g → IsCovered g → (ps : List (ℕ × ℕ)) → ps ≢ [] → ((p : ℕ × ℕ) → IsIn p ps → Within g.order p.0 × Within g.order p.1) → ((p : ℕ × ℕ) → IsIn p ps → p.0 ≢ p.1) → IsCovered (with_ends g (with_pairs g.ends ps)) →
    ((p : ℕ × ℕ) × IsIn p ps × IsCovered (with_ends g (with_pairs g.ends (p ∷ [])))) ⊎ ((p : ℕ × ℕ) × (q : ℕ × ℕ) × IsIn p ps × IsIn q ps × IsCovered (with_ends g (with_pairs g.ends (p ∷ q ∷ []))))
edge_form g is cov [] filled within differ more = absurd (filled refl)
edge_form g is cov (p ∷ ps) filled within differ more = edge_form_here g is cov p ps within differ more
