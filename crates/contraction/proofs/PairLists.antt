-- Lists of pairs in which no pair occurs twice: rows of increasing lists, one after another, and
-- what a filter keeps of them. A pair that is in the list has one place, so a map keyed by the
-- pairs gets a new key at each step.
use Rattle.graph_core.proofs.from_counting.Common.{◌≡◌, ℕ, ◌+◌, ◌<◌, Bool, true, ◌==◌, if◌then◌else◌, List, [], ◌∷◌, ◌++◌, length, refl, sym, ap, ap₂, ◌∙◌, arith, inl, inr, map, get_or, take, subst, suc, zero, ◌&&◌, eqb-true, map_push, take-map, false_from_ne_true, and_parts, get_or-map, length-map, take_more, HasPair, at_pair, pair_at}
use Rattle.indexmap.specs.IndexMap.{insert_entry}
use Rattle.graph_core.proofs.Common.{pair_of}
use Rattle.graph_core.specs.declared.ends.Ends.{Ends}
use Rattle.contraction.specs.Pairs.{EachOnce}

-- a key that is in no entry goes last
pub insert-fresh : {V : Type 0} (eq : ℕ × ℕ → ℕ × ℕ → Bool) (same : (x y : ℕ × ℕ) → eq x y ≡ true → (x.0 ≡ y.0) × (x.1 ≡ y.1)) (es : List ((ℕ × ℕ) × V)) (k : ℕ × ℕ) (v : V) → (HasPair (map (λ e. e.0) es) k.0 k.1 → ⊥) → insert_entry eq es k v ≡ es ++ (k, v) ∷ []
insert-fresh eq same [] k v fresh = refl
insert-fresh eq same (e ∷ es) k v fresh =
    ap (λ b. if b then (e.0, v) ∷ es else e ∷ insert_entry eq es k v) (false_from_ne_true (eq k e.0) (λ t. let s = same k e.0 t in fresh (inl (sym s.0, sym s.1))))
    ∙ ap (λ l. e ∷ l) (insert-fresh eq same es k v (λ h. fresh (inr h)))

-- no pair occurs before its place
pub once-before : (ks : List (ℕ × ℕ)) (i : ℕ) → EachOnce ks → i < length ks → HasPair (take i ks) (get_or ks i (0, 0)).0 (get_or ks i (0, 0)).1 → ⊥
once-before ks i once l h =
    let r = pair_at (take i ks) (get_or ks i (0, 0)).0 (get_or ks i (0, 0)).1 h in
    let j : r.0 < i = short ks i r.0 r.1 in
    once r.0 i j l (sym (early ks i r.0 j) ∙ (λ t. (r.2 t, r.3 t)))
  where
    short : (xs : List (ℕ × ℕ)) (i j : ℕ) → j < length (take i xs) → j < i
    short xs zero j l = absurd (omega arith)
    short [] (suc i) j l = absurd (omega arith)
    short (x ∷ xs) (suc i) zero l = omega arith
    short (x ∷ xs) (suc i) (suc j) l = let s = short xs i j (omega arith) in omega arith

    early : (xs : List (ℕ × ℕ)) (i j : ℕ) → j < i → get_or (take i xs) j (0, 0) ≡ get_or xs j (0, 0)
    early xs zero j l = absurd (omega arith)
    early [] (suc i) j l = refl
    early (x ∷ xs) (suc i) zero l = refl
    early (x ∷ xs) (suc i) (suc j) l = early xs i j (omega arith)

-- the same, along the list: no pair comes again
abbrev pub Once : List (ℕ × ℕ) → Type 0
Once [] = Unit {0}
Once (k ∷ ks) = (HasPair ks k.0 k.1 → ⊥) × Once ks

pub each-once : (ks : List (ℕ × ℕ)) → Once ks → EachOnce ks
each-once [] o i j l h e = absurd (omega arith)
each-once (k ∷ ks) o i zero l h e = absurd (omega arith)
each-once (k ∷ ks) o zero (suc j) l h e = o.0 (subst (λ (p : ℕ × ℕ). HasPair ks p.0 p.1) (sym e) (at_pair ks j (omega arith)))
each-once (k ∷ ks) o (suc i) (suc j) l h e = each-once ks o.1 i j (omega arith) (omega arith) e

-- one more pair with its value
pub kept-more : {V : Type 0} (items : V → List ℕ) (f : ℕ × ℕ → List ℕ) (pairs : List Ends) (i : ℕ) (d : Ends) (es new : List ((ℕ × ℕ) × V)) (v : V) →
    EachOnce (map pair_of pairs) → i < length pairs → map (λ e. e.0) es ≡ map pair_of (take i pairs) → map (λ e. items e.1) es ≡ map f (map pair_of (take i pairs)) →
    new ≡ insert_entry (λ x y. (x.0 == y.0) && (x.1 == y.1)) es (pair_of (get_or pairs i d)) v → items v ≡ f (pair_of (get_or pairs i d)) →
    (map (λ e. e.0) new ≡ map pair_of (take (i + 1) pairs)) × (map (λ e. items e.1) new ≡ map f (map pair_of (take (i + 1) pairs)))
kept-more items f pairs i d es new v once l keys values is own = (
  ap (map (λ e. e.0)) all ∙ map_push (λ e. e.0) es (k, v) ∙ ap (λ xs. xs ++ k ∷ []) keys ∙ sym step,
  ap (map (λ e. items e.1)) all ∙ map_push (λ e. items e.1) es (k, v) ∙ ap₂ (λ xs x. xs ++ x ∷ []) values own ∙ sym (ap (map f) step ∙ map_push f (map pair_of (take i pairs)) k),
)
  where
    k : ℕ × ℕ
    k = pair_of (get_or pairs i d)

    step : map pair_of (take (i + 1) pairs) ≡ map pair_of (take i pairs) ++ k ∷ []
    step = ap (map pair_of) (take_more pairs i d l) ∙ map_push pair_of (take i pairs) (get_or pairs i d)

    at : get_or (map pair_of pairs) i (0, 0) ≡ k
    at = get_or-map pair_of pairs i d (0, 0) l

    fresh : HasPair (map (λ e. e.0) es) k.0 k.1 → ⊥
    fresh h =
        let n : i < length (map pair_of pairs) = let m = length-map pairs pair_of in omega arith in
        once-before (map pair_of pairs) i once n
        (subst (λ (p : ℕ × ℕ). HasPair (take i (map pair_of pairs)) p.0 p.1) (sym at) (subst (λ xs. HasPair xs k.0 k.1) (keys ∙ sym (take-map pair_of i pairs)) h))

    same : (x y : ℕ × ℕ) → ((x.0 == y.0) && (x.1 == y.1)) ≡ true → (x.0 ≡ y.0) × (x.1 ≡ y.1)
    same x y h = let p = and_parts (x.0 == y.0) (x.1 == y.1) h in (eqb-true x.0 y.0 p.0, eqb-true x.1 y.1 p.1)

    all : new ≡ es ++ (k, v) ∷ []
    all = is ∙ insert-fresh (λ x y. (x.0 == y.0) && (x.1 == y.1)) same es k v fresh
