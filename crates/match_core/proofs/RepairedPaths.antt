-- The given matching is exchanged along a whole row: how does the repaired one differ from it? By
-- the path of the row, from one missed vertex to the other.
use Rattle.graph_core.proofs.from_counting.Common.{◌≡◌, ℕ, suc, zero, ◌+◌, ◌-◌, ◌/◌, ◌≤◌, ◌<◌, ◌≢◌, Bool, true, false, cond, not, refl, sym, ap, ap₂, ◌∙◌, arith, List, length, inl, inr, subst, nat_lt, lt-ltb, le-ltb, both_ways, cases_eq, cases_lt, odd-double, fun_ext, Within, is_odd, Set, put}
use Rattle.match_search.proofs.LongerPaths.{ends_by}
use Rattle.graph_core.proofs.Common.{Graph, HasEnds, IsGraph, size, IsMatching}
use Rattle.match_search.specs.Common.{IsAlternating, flipped, same_answer, numbers, part, DiffersByPath, IsRepairRow, Misses, difference}
use Rattle.match_search.proofs.AlternatingPaths.{put_at, put_off, path_edges, flipped_off}
use Rattle.match_search.proofs.StepTheorem.{on_path}

-- the edge at a place of the path, after the exchange
pub flipped_at : (g : Graph) (r f : Set) (k : ℕ) (v e : ℕ → ℕ) → IsAlternating g r f k v e → (i j : ℕ) → i ≤ k → j < i + i → flipped f e i (e j) ≡ not (is_odd j)
flipped_at g r f k v e is zero j le l = absurd (omega arith)
flipped_at g r f k v e is (suc i) j le l = elim (cases_eq j (suc (i + i))) [
  | inl q ↦ ap (λ (s : ℕ). flipped f e (suc i) (e s)) q ∙ put_at (put (flipped f e i) (e (i + i)) true) (e (suc (i + i))) false ∙ sym (ap (λ s. not (is_odd s)) q ∙ ap (λ s. not (not s)) (odd-double i))
  | inr n ↦ put_off (put (flipped f e i) (e (i + i)) true) (e (suc (i + i))) false (e j) (λ q. n (path_edges g r k v e is.path j (suc (i + i)) (omega arith) (omega arith) q)) ∙ elim (cases_eq j (i + i)) [
    | inl q ↦ ap (λ (s : ℕ). put (flipped f e i) (e (i + i)) true (e s)) q ∙ put_at (flipped f e i) (e (i + i)) true ∙ sym (ap (λ s. not (is_odd s)) q ∙ ap not (odd-double i))
    | inr d ↦ put_off (flipped f e i) (e (i + i)) true (e j) (λ q. d (path_edges g r k v e is.path j (i + i) (omega arith) (omega arith) q)) ∙ flipped_at g r f k v e is i j (omega arith) (omega arith)
  ]
]

-- a repaired matching differs from the given one by the path
module _ (g : Graph) (is : IsGraph g) (r m : Set) (mm : IsMatching g r m) (x : ℕ) (mx : Misses g r m x) (es : List ℕ) (row : IsRepairRow g r m x es) where
  abbrev pub k : ℕ
  k = row.pairs

  abbrev pub new : Set
  new = put (flipped m (numbers es) row.pairs) (numbers es (row.pairs + row.pairs)) true

  last_other : (i : ℕ) → i < k + k → numbers es i ≢ numbers es (k + k)
  last_other i l q = grind arith

  changed : (i : ℕ) → i < suc (k + k) → difference m new (numbers es i) ≡ true
  changed i l = elim (cases_eq i (k + k)) [
    | inl q ↦ ap (λ (j : ℕ). difference m new (numbers es j)) q ∙ ap₂ (λ s t. not (same_answer s t)) row.off (put_at (flipped m (numbers es) k) (numbers es (k + k)) true)
    | inr n ↦ ap₂ (λ s t. not (same_answer s t)) (row.path.turns i (omega arith)) (put_off (flipped m (numbers es) k) (numbers es (k + k)) true (numbers es i) (last_other i (omega arith)) ∙ flipped_at g r m k row.vertex (numbers es) row.path k i (omega arith) (omega arith)) ∙ turned (is_odd i)
  ]
    where
      turned : (b : Bool) → not (same_answer b (not b)) ≡ true
      turned b = grind arith

  kept : (e : ℕ) → ((i : ℕ) → i ≤ k + k → e ≢ numbers es i) → difference m new e ≡ false
  kept e none = grind (arith, put_off (flipped m (numbers es) k) (numbers es (k + k)) true e, flipped_off g r m mm k row.vertex (numbers es) row.path k e)

  abbrev vertex : ℕ → ℕ
  vertex j = cond (nat_lt j (suc (row.pairs + row.pairs))) (row.vertex j) row.y

  vertex_low : (j : ℕ) → j < suc (k + k) → vertex j ≡ row.vertex j
  vertex_low j l = ap (λ b. cond b (row.vertex j) row.y) (lt-ltb j (suc (k + k)) l)

  vertex_last : (j : ℕ) → suc (k + k) ≤ j → vertex j ≡ row.y
  vertex_last j l = ap (λ b. cond b (row.vertex j) row.y) (le-ltb j (suc (k + k)) l)

  pub repaired_path : DiffersByPath g r m new
  repaired_path = record {
    x = x;
    y = row.y;
    different = λ q. row.apart 0 (omega arith) (row.start ∙ q);
    first = mx;
    second = row.missed;
    path = record {
      edges = suc (k + k);
      vertex = vertex;
      edge = numbers es;
      first = vertex_low 0 (omega arith) ∙ row.start;
      last = vertex_last (suc (k + k)) (omega arith);
      apart = λ i j li lj q. apart i j li lj q;
      real = λ i l. elim (cases_eq i (k + k)) [
        | inl q ↦ subst (λ (j : ℕ). Within (size g) (numbers es j)) (sym q) row.real
        | inr n ↦ row.path.path.real i (omega arith)
      ];
      ends = λ i l. elim (cases_eq i (k + k)) [
        | inl q ↦ between i (k + k) row.y q (vertex_low i l ∙ ap row.vertex q) (vertex_last (suc i) (omega arith)) row.ends
        | inr n ↦ between i i (row.vertex (suc i)) refl (vertex_low i l) (vertex_low (suc i) (omega arith)) (row.path.path.ends i (omega arith))
      ];
      these = λ e we. ((λ t. found e t), (λ h. subst (λ (d : ℕ). difference m new d ≡ true) h.2 (changed h.0 h.1)));
    };
  }
    where
      between : (i j b : ℕ) → i ≡ j → vertex i ≡ row.vertex j → vertex (suc i) ≡ b → HasEnds g (numbers es j) (row.vertex j) b → HasEnds g (numbers es i) (vertex i) (vertex (suc i))
      between i j b q p s h = Rattle.match_search.proofs.LongerPaths.ends_by g (numbers es i) (numbers es j) (vertex i) (row.vertex j) (vertex (suc i)) b (ap (numbers es) q) p s h

      found : (e : ℕ) → difference m new e ≡ true → (i : ℕ) × (i < suc (k + k)) × (numbers es i ≡ e)
      found e t = elim (on_path (k + k) (numbers es) e) [
        | inl f ↦ (f.0, (let l = f.1 in omega arith), sym f.2)
        | inr none ↦ absurd (both_ways (difference m new e) (kept e none) t)
      ]

      apart : (i j : ℕ) → i ≤ suc (k + k) → j ≤ suc (k + k) → vertex i ≡ vertex j → i ≡ j
      apart i j li lj q = grind (arith, cases_lt i (suc (k + k)), cases_lt j (suc (k + k)), vertex_low i, vertex_low j, vertex_last j, vertex_last i)

-- the marks that the code makes along the row
pub flipped_row : (g : Graph) (r m : Set) (x : ℕ) (es : List ℕ) (row : IsRepairRow g r m x es) → put (flipped m (part es 0) ((length es - 1) / 2)) (numbers es (length es - 1)) true ≡ put (flipped m (numbers es) row.pairs) (numbers es (row.pairs + row.pairs)) true
flipped_row g r m x es row =
    let long = row.long in
    let half : (length es - 1) / 2 ≡ row.pairs = omega arith in
    let last : length es - 1 ≡ row.pairs + row.pairs = omega arith in
    ap (λ (p : ℕ → ℕ). put (flipped m p ((length es - 1) / 2)) (numbers es (length es - 1)) true) (fun_ext (λ j. ap (numbers es) (zero_plus j)))
    ∙ ap₂ (λ (k j : ℕ). put (flipped m (numbers es) k) (numbers es j) true) half last
  where
    zero_plus : (j : ℕ) → 0 + j ≡ j
    zero_plus j = omega arith

-- what is said about the returned edges only
pub differs_alike : (g : Graph) (r m n n' : Set) → ((e : ℕ) → Within (size g) e → n' e ≡ n e) → DiffersByPath g r m n → DiffersByPath g r m n'
differs_alike g r m n n' same d = record {
  x = d.x;
  y = d.y;
  different = d.different;
  first = d.first;
  second = d.second;
  path = record {
    edges = d.path.edges;
    vertex = d.path.vertex;
    edge = d.path.edge;
    first = d.path.first;
    last = d.path.last;
    apart = d.path.apart;
    real = d.path.real;
    ends = d.path.ends;
    these = λ e w. let q = ap (λ t. not (same_answer (m e) t)) (same e w) in ((λ t. (d.path.these e w).0 (sym q ∙ t)), (λ h. q ∙ (d.path.these e w).1 h));
  };
}
