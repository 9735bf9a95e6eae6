-- Numbers of matchings at edges: two edges have a number in common if some matching holds both.
-- A new number is in no set, so it makes two sets meet only where it is put into both.
use Rattle.graph_core.proofs.from_counting.Common.{◌≡◌, ℕ, suc, zero, ◌+◌, ◌<◌, Bool, true, false, ◌&&◌, ◌||◌, ◌==◌, List, [], ◌∷◌, length, get_or, set, map, take, refl, Some, slice_get, slice_set, get_or-set_same, get_or-set_other, ne_eqb, sym, ap, ◌∙◌, arith, rules, inl, inr, eq-eqb, list_any, cases_Bool, cases_eq, same_tests, both_ways, and_from, and_parts, or_cases, or_left, or_right, mem}
use Rattle.match_core.proofs.MatchingEdges.{edge_of}
use Rattle.match_core.specs.declared.matching.MatchRow.{MatchRow}
use Rattle.allowed_edges.specs.EdgeTables.{meets}
use Rattle.allowed_edges.proofs.Marking.{edges-more}

-- a common member is a member of both
pub meets_says : (xs ys : List ℕ) → meets xs ys ≡ true → (v : ℕ) × (mem xs v ≡ true) × (mem ys v ≡ true)
meets_says [] ys h = absurd cc
meets_says (x ∷ xs) ys h = elim (or_cases (mem ys x) (meets xs ys) h) [
  | inl t ↦ (x, or_left (x == x) (mem xs x) (eq-eqb x x refl), t)
  | inr t ↦ let r = meets_says xs ys t in (r.0, or_right (x == r.0) (mem xs r.0) r.1, r.2)
]

-- and a member of both is common
pub meets_from : (xs ys : List ℕ) (v : ℕ) → mem xs v ≡ true → mem ys v ≡ true → meets xs ys ≡ true
meets_from [] ys v hx hy = absurd cc
meets_from (x ∷ xs) ys v hx hy = elim (cases_eq x v) [
  | inl q ↦ or_left (mem ys x) (meets xs ys) (ap (mem ys) q ∙ hy)
  | inr d ↦ or_right (mem ys x) (meets xs ys) (meets_from xs ys v (grind arith) hy)
]

-- the numbers in both sets as a list: it is empty unless the sets meet
pub meets_listed : (xs ys both : List ℕ) → ((v : ℕ) → mem both v ≡ (mem xs v && mem ys v)) → (r : Bool) → ((r ≡ false) → length both ≡ 0) → ((length both ≡ 0) → r ≡ false) → r ≡ meets xs ys
meets_listed xs ys both h r none some = same_tests r (meets xs ys) (λ t. to both h (λ q. both_ways r (some q) t)) (λ t. elim (cases_Bool r) [
  | inl q ↦ q
  | inr q ↦ let s = meets_says xs ys t in absurd (from both (none q) s.0 (h s.0 ∙ and_from (mem xs s.0) (mem ys s.0) s.1 s.2))
])
  where
    to : (zs : List ℕ) → ((v : ℕ) → mem zs v ≡ (mem xs v && mem ys v)) → (length zs ≡ 0 → ⊥) → meets xs ys ≡ true
    to [] g n = absurd (n refl)
    to (z ∷ zs) g n = let p = and_parts (mem xs z) (mem ys z) (sym (g z) ∙ or_left (z == z) (mem zs z) (eq-eqb z z refl)) in meets_from xs ys z p.0 p.1

    from : (zs : List ℕ) → length zs ≡ 0 → (v : ℕ) → mem zs v ≡ true → ⊥
    from [] q v t = cc
    from (z ∷ zs) q v t = omega arith

-- a new number at some edges
pub meets_more : (xs ys xn yn : List ℕ) (a b : Bool) (n : ℕ) → ((mem xs n ≡ true) → ⊥) → ((mem ys n ≡ true) → ⊥) →
    ((v : ℕ) → mem xn v ≡ (mem xs v || (a && n == v))) → ((v : ℕ) → mem yn v ≡ (mem ys v || (b && n == v))) → meets xn yn ≡ (meets xs ys || (a && b))
meets_more xs ys xn yn a b n fx fy hx hy = same_tests (meets xn yn) (meets xs ys || (a && b)) there back
  where
    there : meets xn yn ≡ true → (meets xs ys || (a && b)) ≡ true
    there t =
        let s = meets_says xn yn t in
        elim (or_cases (mem xs s.0) (a && n == s.0) (sym (hx s.0) ∙ s.1)) [
          | inl mx ↦ elim (or_cases (mem ys s.0) (b && n == s.0) (sym (hy s.0) ∙ s.2)) [
            | inl my ↦ or_left (meets xs ys) (a && b) (meets_from xs ys s.0 mx my)
            | inr nb ↦ grind (arith, and_parts)
          ]
          | inr na ↦ elim (or_cases (mem ys s.0) (b && n == s.0) (sym (hy s.0) ∙ s.2)) [
            | inl my ↦ grind (arith, and_parts)
            | inr nb ↦ or_right (meets xs ys) (a && b) (and_from a b (and_parts a (n == s.0) na).0 (and_parts b (n == s.0) nb).0)
          ]
        ]

    back : (meets xs ys || (a && b)) ≡ true → meets xn yn ≡ true
    back t = elim (or_cases (meets xs ys) (a && b) t) [
      | inl m ↦ let s = meets_says xs ys m in meets_from xn yn s.0 (hx s.0 ∙ or_left (mem xs s.0) (a && n == s.0) s.1) (hy s.0 ∙ or_left (mem ys s.0) (b && n == s.0) s.2)
      | inr m ↦
          let p = and_parts a b m in
          let q = eq-eqb n n refl in
          meets_from xn yn n (hx n ∙ or_right (mem xs n) (a && n == n) (and_from a (n == n) p.0 q)) (hy n ∙ or_right (mem ys n) (b && n == n) (and_from b (n == n) p.1 q))
    ]

-- one item of a list is written anew, and its test is true also if c is
pub any_written : {A : Type 0} (p : A → Bool) (xs : List A) (i : ℕ) (x y : A) (c : Bool) → i < length xs → get_or xs i x ≡ x → p y ≡ (p x || c) → list_any p (set xs i y) ≡ (list_any p xs || c)
any_written p [] i x y c l q h = absurd (omega arith)
any_written p (z ∷ zs) zero x y c l q h = ap (λ b. b || list_any p zs) h ∙ ap (λ w. (p w || c) || list_any p zs) (sym q) ∙ turn (p z) c (list_any p zs)
  where
    turn : (r s t : Bool) → ((r || s) || t) ≡ ((r || t) || s)
    turn r s t = grind arith
any_written p (z ∷ zs) (suc i) x y c l q h = ap (λ b. p z || b) (any_written p zs i x y c (omega arith) q h) ∙ assoc (p z) (list_any p zs) c
  where
    assoc : (r s t : Bool) → (r || (s || t)) ≡ ((r || s) || t)
    assoc r s t = grind arith

-- as many items as before
pub length_written : {A : Type 0} (xs : List A) (i : ℕ) (x : A) → length (slice_set xs i x) ≡ length xs
length_written xs i x = search rules

-- an item that is read within the list does not depend on what is read past it
pub read_within : {A : Type 0} (xs : List A) (i : ℕ) (x none : A) → i < length xs → x ≡ get_or xs i x → get_or xs i none ≡ x
read_within [] i x none l q = absurd (omega arith)
read_within (z ∷ zs) zero x none l q = sym q
read_within (z ∷ zs) (suc i) x none l q = read_within zs i x none (omega arith) q

-- the number is put at the edge of one more row
pub numbers_more : (old now : List (List ℕ)) (rows : List MatchRow) (i : ℕ) (row : MatchRow) (n : ℕ) (x new : List ℕ) → slice_get rows i ≡ Some row → row.edge < length now → x ≡ get_or now row.edge x →
    ((w : ℕ) → mem new w ≡ (mem x w || n == w)) →
    ((e v : ℕ) → mem (get_or now e []) v ≡ (mem (get_or old e []) v || (mem (map edge_of (take i rows)) e && n == v))) →
    (e v : ℕ) → mem (get_or (slice_set now row.edge new) e []) v ≡ (mem (get_or old e []) v || (mem (map edge_of (take (i + 1) rows)) e && n == v))
numbers_more old now rows i row n x new read l at more before e v =
    let next : suc i ≡ i + 1 = omega arith in
    let longer : mem (map edge_of (take (i + 1) rows)) e ≡ (mem (map edge_of (take i rows)) e || row.edge == e) = ap (λ j. mem (map edge_of (take j rows)) e) (sym next) ∙ edges-more rows i row e read in
    elim (cases_eq row.edge e) [
      | inl q ↦
          ap (λ (j : ℕ). mem (get_or (slice_set now row.edge new) j []) v) (sym q) ∙ ap (λ (s : List ℕ). mem s v) (get_or-set_same now row.edge new [] l) ∙ more v
          ∙ ap (λ (s : List ℕ). mem s v || n == v) (sym (read_within now row.edge x [] l at)) ∙ ap (λ (j : ℕ). mem (get_or now j []) v || n == v) q ∙ ap (λ b. b || n == v) (before e v)
          ∙ with_it (mem (get_or old e []) v) (mem (map edge_of (take i rows)) e) (n == v)
          ∙ ap (λ b. mem (get_or old e []) v || (b && n == v)) (ap (λ b. mem (map edge_of (take i rows)) e || b) (sym (eq-eqb row.edge e q)) ∙ sym longer)
      | inr d ↦
          ap (λ (s : List ℕ). mem s v) (get_or-set_other now row.edge e new [] (λ q. d (sym q))) ∙ before e v
          ∙ ap (λ b. mem (get_or old e []) v || (b && n == v)) (without (mem (map edge_of (take i rows)) e) ∙ ap (λ b. mem (map edge_of (take i rows)) e || b) (sym (ne_eqb row.edge e d)) ∙ sym longer)
    ]
  where
    with_it : (a t b : Bool) → ((a || (t && b)) || b) ≡ (a || ((t || true) && b))
    with_it a t b = grind arith

    without : (a : Bool) → a ≡ (a || false)
    without a = grind arith
