-- The mates by the edges of a matching of the graph that are on a stage are mates in the graph of
-- the stage, where these edges stand by rank.
use Rattle.graph_core.proofs.from_counting.Common.{◌≡◌, ◌≢◌, ◌-◌, ℕ, suc, zero, ◌+◌, ◌≤◌, Bool, true, false, cond, ◌==◌, ◌∙◌, refl, sym, ap, arith, eq-eqb, inl, inr, subst, not, List, [], ◌∷◌, ◌++◌, length, map, slice_index_or, slice_get, Some, get_or-append-add, and_parts, cases_eq, get_or_append_left, not-true, or_left, or_right, true≢false, bit, Within, count, mem, none, Set}
use Rattle.graph_core.proofs.Common.{degree_congr, Graph, HasEnds, degree, first_end, second_end, size, with_ends, IsMatching, IsPerfect}
use Rattle.two_ears.specs.from_match_core.declared.matching.MatchRow.{MatchRow}
use Rattle.two_ears.specs.from_match_search.Common.{HasMates, numbers}
use Rattle.ear_core.proofs.EngineGraphs.{listed_degree, listed_size, rank_of, same_rank}
use Rattle.ear_core.proofs.RankedStages.{rank-within}
use Rattle.ear_core.proofs.TraceEdges.{degree_le, unmet}
use Rattle.ear_core.specs.Common.{NamesMatching, by_rank, is_met, listed}

-- an edge of the stage stands at its rank
listed-at : (g : Graph) (f : Set) (k e : ℕ) → Within k e → f e ≡ true → slice_index_or (listed g f k) (count e f - 1) (0, 0) ≡ (first_end g e, second_end g e)
listed-at g f zero e w on = absurd (omega arith)
listed-at g f (suc k) e w on = go (f (suc k)) refl (λ d. listed-at g f k e (let x : e ≢ suc k = d in omega arith) on)
  where
    ends : ℕ × ℕ
    ends = (first_end g (suc k), second_end g (suc k))

    before : e ≢ suc k → Within k e
    before d = omega arith

    rank : e ≢ suc k → Within (length (listed g f k)) (count e f)
    rank d = subst (λ n. Within n (count e f)) (sym (listed_size g f k)) (rank-within k f e (before d) on)

    go : (b : Bool) → f (suc k) ≡ b → (e ≢ suc k → slice_index_or (listed g f k) (count e f - 1) (0, 0) ≡ (first_end g e, second_end g e)) → slice_index_or (cond b (listed g f k ++ ends ∷ []) (listed g f k)) (count e f - 1) (0, 0) ≡ (first_end g e, second_end g e)
    go true q earlier = elim (cases_eq e (suc k)) [
      | inr d ↦ get_or_append_left (listed g f k) (ends ∷ []) (0, 0) (count e f - 1) (let r = rank d in omega arith) ∙ earlier d
      | inl i ↦
          let place : count e f - 1 ≡ length (listed g f k) + 0 = (let l = listed_size g f k in let c = ap (λ n. count n f) i in let b = ap bit q in omega arith) in
          ap (λ n. slice_index_or (listed g f k ++ ends ∷ []) n (0, 0)) place ∙ get_or-append-add (listed g f k) (ends ∷ []) 0 (0, 0) ∙ ap (λ n. (first_end g n, second_end g n)) (sym i)
    ]
    go false q earlier = elim (cases_eq e (suc k)) [
      | inr d ↦ earlier d
      | inl i ↦ absurd (true≢false (sym (sym q ∙ ap f (sym i) ∙ on)))
    ]

module _ (g : Graph) (f m : Set) (part : (e : ℕ) → Within (size g) e → m e ≡ true → f e ≡ true) where
  abbrev kf : Graph
  kf = with_ends g (listed g f (size g))

  same-degree : (v : ℕ) → degree kf (rank_of g f none m) v ≡ degree g m v
  same-degree v = listed_degree g f (rank_of g f none m) v (size g) ∙ degree_congr g (by_rank f (rank_of g f none m)) m v (same_rank g f none m part)

  -- the mates are those by rank
  pub listed-mates : (r : Set) (mate : ℕ → ℕ) → ((v : ℕ) → Within g.order v → r v ≡ not (is_met g f v)) → HasMates g none m mate → HasMates kf r (rank_of g f none m) mate
  listed-mates r mate outside mates = record {
    matching = record {
      once = λ v w. subst (λ n. n ≤ 1) (sym (same-degree v)) (mates.matching.once v w);
      away = λ v w o. same-degree v ∙ (let a = unmet g f v (not-true (is_met g f v) (sym (outside v w) ∙ o)) in let b = degree_le g m f v part in omega arith);
    };
    exposed = λ v w z. same-degree v ∙ mates.exposed v w z;
    paired = λ v w d. let p = mates.paired v w d in (count p.0 f, within p.0 p.1 p.2, ranked p.0 p.1 p.2, ends p.0 p.1 p.2 v (mate v) p.3);
  }
    where
      within : (e : ℕ) → Within (size g) e → m e ≡ true → Within (size kf) (count e f)
      within e w on = subst (λ n. Within n (count e f)) (sym (listed_size g f (size g))) (rank-within (size g) f e w (part e w on))

      ranked : (e : ℕ) → Within (size g) e → m e ≡ true → rank_of g f none m (count e f) ≡ true
      ranked e w on = (and_parts (f e) (rank_of g f none m (count e f)) (same_rank g f none m part e w ∙ on)).1

      ends : (e : ℕ) → Within (size g) e → m e ≡ true → (a b : ℕ) → HasEnds g e a b → HasEnds kf (count e f) a b
      ends e w on a b h =
          let at = listed-at g f (size g) e w (part e w on) in
          elim h [
            | inl i ↦ inl (ap (λ (q : ℕ × ℕ). q.0) at ∙ i.0, ap (λ (q : ℕ × ℕ). q.1) at ∙ i.1)
            | inr i ↦ inr (ap (λ (q : ℕ × ℕ). q.0) at ∙ i.0, ap (λ (q : ℕ × ℕ). q.1) at ∙ i.1)
          ]

-- so the engine gets the mates of a matching
pub names-listed : (g : Graph) (f m : Set) → ((e : ℕ) → Within (size g) e → m e ≡ true → f e ≡ true) → (stage : Graph) → stage ≡ with_ends g (listed g f (size g)) → (r : Set) → ((v : ℕ) → Within g.order v → r v ≡ not (is_met g f v)) → (mate : List ℕ) → length mate ≡ g.order + 1 → HasMates g none m (numbers mate) →
    NamesMatching stage r mate
names-listed g f m part stage is r outside mate long mates = subst (λ (h : Graph). NamesMatching h r mate) (sym is) (record {
  long = long;
  m = rank_of g f none m;
  mates = listed-mates g f m part r (numbers mate) outside mates;
})

-- the edge of a row is one of the rows
pub row-among : (rows : List MatchRow) (i : ℕ) (row : MatchRow) → slice_get rows i ≡ Some row → mem (map (λ (r : MatchRow). r.edge) rows) row.edge ≡ true
row-among [] i row is = cc
row-among (r ∷ rows) zero row is = let same : r ≡ row = cc in or_left (r.edge == row.edge) _ (eq-eqb r.edge row.edge (ap (λ (x : MatchRow). x.edge) same))
row-among (r ∷ rows) (suc i) row is = or_right (r.edge == row.edge) _ (row-among rows i row is)

-- a part of a perfect matching is a matching
pub part-matching : (g : Graph) (m x : Set) → IsPerfect g none m → ((e : ℕ) → Within (size g) e → x e ≡ true → m e ≡ true) → IsMatching g none x
part-matching g m x perfect part = record {
  once = λ v w. let a = perfect.once v w refl in let b = degree_le g x m v part in omega arith;
  away = λ v w o. absurd (true≢false (sym o));
}
