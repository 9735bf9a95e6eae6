-- Further edges at the end of the list of edges: the old ones keep their numbers and ends, and a
-- degree grows by the new edges that are used.
use Rattle.graph_core.proofs.from_counting.Common.{◌≡◌, ℕ, suc, ◌+◌, ◌*◌, ◌-◌, ◌≤◌, Bool, true, false, ◌==◌, refl, sym, ap, ap₂, ◌∙◌, arith, ◌&&◌, ◌||◌, inl, inr, nat_lt, lt-ltb, le-ltb, [], ◌∷◌, ◌++◌, List, length, slice_index_or, get_or-append-add, cases_eq, or_right, length-append, get_or_append_left, count_congr, some_true, true_some, Within, bit, count, Set, some, IsIn}
use Rattle.graph_core.proofs.Common.{degree_congr, has_ends-own, Graph, degree, first_end, has_ends, second_end, size, with_ends}
use Rattle.two_ears.specs.AddedEdges.{KeepsEdges, with_pairs}
use Rattle.two_ears.specs.VertexPairs.{pairs_at}

module _ (g : Graph) (es : List (ℕ × ℕ)) (p : ℕ × ℕ) where
  pub size-added : length (es ++ (p ∷ [])) ≡ suc (length es)
  size-added = let l : length (es ++ (p ∷ [])) ≡ length es + length (p ∷ []) = length-append es (p ∷ []) in omega arith

  read_old : (e : ℕ) → Within (length es) e → slice_index_or (es ++ (p ∷ [])) (e - 1) (0, 0) ≡ slice_index_or es (e - 1) (0, 0)
  read_old e w = get_or_append_left es (p ∷ []) (0, 0) (e - 1) (omega arith)

  read_new : slice_index_or (es ++ (p ∷ [])) (suc (length es) - 1) (0, 0) ≡ p
  read_new = let i : suc (length es) - 1 ≡ length es + 0 = omega arith in ap (λ k. slice_index_or (es ++ (p ∷ [])) k (0, 0)) i ∙ get_or-append-add es (p ∷ []) 0 (0, 0)

  pub first_end-old : (e : ℕ) → Within (length es) e → first_end (with_ends g (es ++ (p ∷ []))) e ≡ first_end (with_ends g es) e
  first_end-old e w = ap (λ q. q.0) (read_old e w)

  pub second_end-old : (e : ℕ) → Within (length es) e → second_end (with_ends g (es ++ (p ∷ []))) e ≡ second_end (with_ends g es) e
  second_end-old e w = ap (λ q. q.1) (read_old e w)

  pub first_end-new : first_end (with_ends g (es ++ (p ∷ []))) (suc (length es)) ≡ p.0
  first_end-new = ap (λ q. q.0) read_new

  pub second_end-new : second_end (with_ends g (es ++ (p ∷ []))) (suc (length es)) ≡ p.1
  second_end-new = ap (λ q. q.1) read_new

  pub degree-added : (m : Set) (v : ℕ) → degree (with_ends g (es ++ (p ∷ []))) m v ≡ degree (with_ends g es) m v + bit (m (suc (length es))) * (bit (p.0 == v) + bit (p.1 == v))
  degree-added m v =
      ap (λ k. count k (λ e. m e && (first_end (with_ends g (es ++ (p ∷ []))) e == v)) + count k (λ e. m e && (second_end (with_ends g (es ++ (p ∷ []))) e == v))) size-added
      ∙ sum (count (length es) (λ e. m e && (first_end (with_ends g (es ++ (p ∷ []))) e == v))) (count (length es) (λ e. m e && (first_end (with_ends g es) e == v)))
      (count (length es) (λ e. m e && (second_end (with_ends g (es ++ (p ∷ []))) e == v))) (count (length es) (λ e. m e && (second_end (with_ends g es) e == v)))
      (m (suc (length es))) (first_end (with_ends g (es ++ (p ∷ []))) (suc (length es)) == v) (second_end (with_ends g (es ++ (p ∷ []))) (suc (length es)) == v) (p.0 == v) (p.1 == v)
      (count_congr (length es) _ _ (λ e w. ap (λ k. m e && (k == v)) (first_end-old e w)))
      (count_congr (length es) _ _ (λ e w. ap (λ k. m e && (k == v)) (second_end-old e w)))
      (ap (λ k. k == v) first_end-new) (ap (λ k. k == v) second_end-new)
    where
      sum : (a a' b b' : ℕ) (x y z y' z' : Bool) → a ≡ a' → b ≡ b' → y ≡ y' → z ≡ z' → (a + bit (x && y)) + (b + bit (x && z)) ≡ (a' + b') + bit x * (bit y' + bit z')
      sum a a' b b' true y z y' z' e f h k = let i = ap bit h in let j = ap bit k in omega arith
      sum a a' b b' false y z y' z' e f h k = omega arith

  -- each edge is one of those before, or the new one
  pub edge_of : (P : ℕ → ℕ → Type 0) → ((e : ℕ) → Within (length es) e → P (first_end (with_ends g es) e) (second_end (with_ends g es) e)) → P p.0 p.1 → (e : ℕ) → Within (length (es ++ (p ∷ []))) e → P (first_end (with_ends g (es ++ (p ∷ []))) e) (second_end (with_ends g (es ++ (p ∷ []))) e)
  edge_of P old new e w = elim (cases_eq e (suc (length es))) [
    | inl q ↦ subst2 p.0 (first_end (with_ends g (es ++ (p ∷ []))) e) p.1 (second_end (with_ends g (es ++ (p ∷ []))) e) (sym first_end-new ∙ ap (first_end (with_ends g (es ++ (p ∷ [])))) (sym q)) (sym second_end-new ∙ ap (second_end (with_ends g (es ++ (p ∷ [])))) (sym q)) new
    | inr q ↦ grind (arith, size-added, subst2, first_end-old, second_end-old)
  ]
    where
      subst2 : (a b c d : ℕ) → a ≡ b → c ≡ d → P a c → P b d
      subst2 a b c d e f t = Rattle.std.proofs.Common.subst (λ k. P b k) f (Rattle.std.proofs.Common.subst (λ k. P k c) e t)

  -- the new edge joins its ends
  pub new-joined : some (length (es ++ (p ∷ []))) (has_ends (with_ends g (es ++ (p ∷ []))) p.0 p.1) ≡ true
  new-joined = grind (arith, size-added, has_ends-own, with_ends, true_some, has_ends, first_end-new, second_end-new)

  pub keeps-added : KeepsEdges g es → Within g.order p.0 → Within g.order p.1 → KeepsEdges g (es ++ (p ∷ []))
  keeps-added h w0 w1 = record {
    graph = edge_of (λ c d. Within g.order c × Within g.order d) h.graph (w0, w1);
    old = λ e w.
        let r = some_true (length es) (has_ends (with_ends g es) (first_end g e) (second_end g e)) (h.old e w) in
        let l = size-added in
        true_some (length (es ++ (p ∷ []))) (has_ends (with_ends g (es ++ (p ∷ []))) (first_end g e) (second_end g e)) r.0 (let a = r.1 in omega arith)
        (ap₂ (λ c d. (c == first_end g e && d == second_end g e) || (c == second_end g e && d == first_end g e)) (first_end-old r.0 r.1) (second_end-old r.0 r.1) ∙ r.2);
  }

pub keeps-with_pairs : (g : Graph) → KeepsEdges g g.ends → (ps : List (ℕ × ℕ)) → ((p : ℕ × ℕ) → IsIn p ps → Within g.order p.0 × Within g.order p.1) → KeepsEdges g (with_pairs g.ends ps)
keeps-with_pairs g h [] w = h
keeps-with_pairs g h (p ∷ ps) w = keeps-added g (with_pairs g.ends ps) p (keeps-with_pairs g h ps (λ q i. w q (inr i))) (w p (inl refl)).0 (w p (inl refl)).1

pub each-with_pairs : (g : Graph) (P : ℕ → ℕ → Type 0) (ps : List (ℕ × ℕ)) → ((e : ℕ) → Within (size g) e → P (first_end g e) (second_end g e)) → ((p : ℕ × ℕ) → IsIn p ps → P p.0 p.1) →
    (e : ℕ) → Within (length (with_pairs g.ends ps)) e → P (first_end (with_ends g (with_pairs g.ends ps)) e) (second_end (with_ends g (with_pairs g.ends ps)) e)
each-with_pairs g P [] old new e w = old e w
each-with_pairs g P (p ∷ ps) old new e w = edge_of g (with_pairs g.ends ps) p P (each-with_pairs g P ps old (λ q i. new q (inr i))) (new p (inl refl)) e w

pub with_pairs-longer : (es ps : List (ℕ × ℕ)) → length es ≤ length (with_pairs es ps)
with_pairs-longer es [] = omega arith
with_pairs-longer es (p ∷ ps) = let l : length (with_pairs es ps ++ (p ∷ [])) ≡ length (with_pairs es ps) + length (p ∷ []) = length-append (with_pairs es ps) (p ∷ []) in omega (arith, with_pairs-longer es ps)

-- m and all new edges
abbrev pub with_new : Graph → Set → Set
with_new g m e = m e || nat_lt (size g) e

pub degree-with_pairs : (g : Graph) (m : Set) (ps : List (ℕ × ℕ)) (v : ℕ) → degree (with_ends g (with_pairs g.ends ps)) (with_new g m) v ≡ degree g m v + pairs_at ps v
degree-with_pairs g m [] v = degree_congr g (with_new g m) m v (λ e w. old (m e) (nat_lt (size g) e) (le-ltb (size g) e (omega arith))) ∙ (omega arith)
  where
    old : (a b : Bool) → b ≡ false → (a || b) ≡ a
    old a b h = grind arith
degree-with_pairs g m (p ∷ ps) v =
    let d = degree-added g (with_pairs g.ends ps) p (with_new g m) v in
    let i = degree-with_pairs g m ps v in
    let n : bit (with_new g m (suc (length (with_pairs g.ends ps)))) ≡ 1 = ap bit (or_right (m (suc (length (with_pairs g.ends ps)))) (nat_lt (size g) (suc (length (with_pairs g.ends ps)))) (lt-ltb (size g) (suc (length (with_pairs g.ends ps))) (let a = with_pairs-longer g.ends ps in omega arith))) in
    let q = ap (λ k. k * (bit (p.0 == v) + bit (p.1 == v))) n in omega arith
