-- A search along rows: what is not left is found. Between two steps, the arcs from a found vertex
-- that is not open lead to found vertices, and a set that no arc from an inner vertex leaves
-- contains what is found. So when no vertex is open, or nothing is left, what is found is the least
-- closed set.
use Rattle.counting.proofs.Common.{◌≡◌, ◌∙◌, ◌+◌, ◌≤◌, ℕ, List, true, false, ◌==◌, ◌&&◌, ◌||◌, ◌⊎◌, not, refl, sym, arith, eq-eqb, inl, inr, ne_eqb, and_parts, cases_Bool, cases_eq, count, count_more, or_cases, Set, Within}
use Rattle.vset_core.specs.Floods.{IsFlood, leads}

-- the state between two steps: rest is what of `within` is not found
pub record IsFlooding (rows : List (List ℕ)) (within roots inner rest open_set : Set) : Type 0 where
  pub inside : (v : ℕ) → rest v ≡ true → within v ≡ true
  pub among : (v : ℕ) → open_set v ≡ true → (within v ≡ true) × (rest v ≡ false)
  pub start : (v : ℕ) → roots v ≡ true → (within v ≡ true) × (rest v ≡ false)
  pub done : (u v : ℕ) → within u ≡ true → rest u ≡ false → open_set u ≡ false → leads rows u v ≡ true → within v ≡ true → rest v ≡ false
  pub least : (x : Set) → ((v : ℕ) → roots v ≡ true → x v ≡ true) → ((u v : ℕ) → within u ≡ true → inner u ≡ true → x u ≡ true → leads rows u v ≡ true → within v ≡ true → x v ≡ true) →
      (v : ℕ) → within v ≡ true → rest v ≡ false → x v ≡ true

module _ (rows : List (List ℕ)) (within roots : Set) where
  -- the new vertices are those of the row of an open vertex v that are left
  module _ (inner rest open_set inner' rest' open' row new : Set) (v : ℕ) (flood : IsFlooding rows within roots inner rest open_set) (v_open : open_set v ≡ true) (row_is : (w : ℕ) → row w ≡ leads rows v w)
      (new_is : (w : ℕ) → new w ≡ (row w && rest w)) (rest_is : (w : ℕ) → rest' w ≡ (rest w && not (new w))) (open_is : (w : ℕ) → open' w ≡ ((open_set w && not (v == w)) || new w))
      (kept : (w : ℕ) → inner w ≡ true → inner' w ≡ true) (own : (w : ℕ) → new w ≡ true → inner' v ≡ true) where
    here : (within v ≡ true) × (rest v ≡ false)
    here = flood.among v v_open

    less : (w : ℕ) → rest w ≡ false → rest' w ≡ false
    less w r = grind arith

    pub flooding_step : IsFlooding rows within roots inner' rest' open'
    flooding_step = record {
      inside = λ w r. flood.inside w (and_parts (rest w) (not (new w)) (sym (rest_is w) ∙ r)).0;
      among = λ w o. elim (or_cases (open_set w && not (v == w)) (new w) (sym (open_is w) ∙ o)) [
        | inl q ↦ let a = flood.among w (and_parts (open_set w) (not (v == w)) q).0 in (a.0, less w a.1)
        | inr q ↦ (flood.inside w (and_parts (row w) (rest w) (sym (new_is w) ∙ q)).1, grind arith)
      ];
      start = λ w o. let s = flood.start w o in (s.0, less w s.1);
      done = done;
      least = least;
    }
      where
        done : (u w : ℕ) → within u ≡ true → rest' u ≡ false → open' u ≡ false → leads rows u w ≡ true → within w ≡ true → rest' w ≡ false
        done u w i r o a j = elim (cases_eq v u) [
          | inl q ↦ let b : row w ≡ true = grind arith in grind arith
          | inr d ↦
              let e = ne_eqb v u d in
              let n : new u ≡ false = grind arith in
              less w (flood.done u w i (grind arith) (grind arith) a j)
        ]

        least : (x : Set) → ((w : ℕ) → roots w ≡ true → x w ≡ true) → ((u w : ℕ) → within u ≡ true → inner' u ≡ true → x u ≡ true → leads rows u w ≡ true → within w ≡ true → x w ≡ true) →
            (w : ℕ) → within w ≡ true → rest' w ≡ false → x w ≡ true
        least x has closed w i r =
            let before = flood.least x has (λ u t m n. closed u t m (kept u n)) in
            elim (cases_Bool (rest w)) [
              | inl q ↦
                  let n : new w ≡ true = grind arith in
                  closed v w here.0 (own w n) (before v here.0 here.1) (sym (row_is w) ∙ (and_parts (row w) (rest w) (sym (new_is w) ∙ n)).0) i
              | inr q ↦ before w i q
            ]

    -- one vertex less is left or open
    pub flooding_less : (n : ℕ) → Within n v → count n (λ w. rest' w || open' w) + 1 ≤ count n (λ w. rest w || open_set w)
    flooding_less n w = grind (arith, count_more n (λ w. rest' w || open' w) (λ w. rest w || open_set w), eq-eqb v v refl)

  -- when no vertex is open, or nothing is left
  pub flooding_end : (inner rest open_set found : Set) → IsFlooding rows within roots inner rest open_set → ((v : ℕ) → open_set v ≡ false) ⊎ ((v : ℕ) → rest v ≡ false) → ((v : ℕ) → found v ≡ (within v && not (rest v))) →
      IsFlood rows within roots inner found
  flooding_end inner rest open_set found flood ended found_is = record {
    start = λ v r. let s = flood.start v r in grind arith;
    inside = λ v f. (and_parts (within v) (not (rest v)) (sym (found_is v) ∙ f)).0;
    closed = λ u v f a i. elim ended [ inl none ↦ (let d = flood.done u v in grind arith) | inr all ↦ (grind arith) ];
    least = λ x has closed v f. let l = flood.least x has closed v in grind arith;
  }
