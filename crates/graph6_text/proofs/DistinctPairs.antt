-- Lists of pairs of which no two are the same two numbers. Idea: among such pairs the bits that
-- choose some can be read off the chosen ones, and each edge of a graph is chosen at most once.
use Rattle.graph_core.proofs.from_counting.Common.{◌≡◌, ℕ, suc, zero, ◌+◌, ◌<◌, ◌≤◌, ◌&&◌, ◌||◌, Bool, true, false, cond, List, [], ◌∷◌, ◌++◌, length, map, take, get_or, refl, ap, ap₂, ◌∙◌, arith, or_from, or_left, both_ways, cases_order, list_any}
use Rattle.graph_core.proofs.Common.{Graph, IsSimple, joins}
use Rattle.graph6_text.specs.Common.{chosen}

-- what is true of each pair of the list
abbrev pub Each : (ℕ × ℕ → Type 0) → List (ℕ × ℕ) → Type 0
Each P [] = Unit {0}
Each P (p ∷ ps) = P p × Each P ps

-- no pair of the list is the same two numbers as p
abbrev pub Apart : ℕ × ℕ → List (ℕ × ℕ) → Type 0
Apart p ps = Each (λ q. joins p.0 p.1 q ≡ false) ps

abbrev pub AreDistinct : List (ℕ × ℕ) → Type 0
AreDistinct [] = Unit {0}
AreDistinct (p ∷ ps) = Apart p ps × AreDistinct ps

pub each-append : (P : ℕ × ℕ → Type 0) (xs ys : List (ℕ × ℕ)) → Each P xs → Each P ys → Each P (xs ++ ys)
each-append P [] ys h k = k
each-append P (x ∷ xs) ys h k = (h.0, each-append P xs ys h.1 k)

pub each_weaker : (P Q : ℕ × ℕ → Type 0) (xs : List (ℕ × ℕ)) → ((p : ℕ × ℕ) → P p → Q p) → Each P xs → Each Q xs
each_weaker P Q [] f h = tt
each_weaker P Q (x ∷ xs) f h = (f x h.0, each_weaker P Q xs f h.1)

pub distinct-append : (xs ys : List (ℕ × ℕ)) → AreDistinct xs → AreDistinct ys → Each (λ p. Apart p ys) xs → AreDistinct (xs ++ ys)
distinct-append [] ys h k a = k
distinct-append (x ∷ xs) ys h k a = (each-append (λ q. joins x.0 x.1 q ≡ false) xs ys h.0 a.0, distinct-append xs ys h.1 k a.1)

pub joins-own : (p : ℕ × ℕ) → joins p.0 p.1 p ≡ true
joins-own p = grind arith

pub joins-turned : (u v : ℕ) → joins u v (v, u) ≡ true
joins-turned u v = grind arith

pub joins-back : (p q : ℕ × ℕ) → joins p.0 p.1 q ≡ false → joins q.0 q.1 p ≡ false
joins-back p q h = grind arith

-- two pairs that are the same two numbers as a third
pub joins-third : (p q r : ℕ × ℕ) → joins p.0 p.1 r ≡ true → joins p.0 p.1 q ≡ false → joins q.0 q.1 r ≡ false
joins-third p q r h k = grind arith

-- what is chosen of pairs that are not p, is not p
apart_chosen : (p : ℕ × ℕ) (ps : List (ℕ × ℕ)) (bits : List Bool) → Apart p ps → Apart p (chosen ps bits)
apart_chosen p [] bits h = tt
apart_chosen p (q ∷ ps) [] h = tt
apart_chosen p (q ∷ ps) (true ∷ bits) h = (h.0, apart_chosen p ps bits h.1)
apart_chosen p (q ∷ ps) (false ∷ bits) h = apart_chosen p ps bits h.1

pub distinct_chosen : (ps : List (ℕ × ℕ)) (bits : List Bool) → AreDistinct ps → AreDistinct (chosen ps bits)
distinct_chosen [] bits h = tt
distinct_chosen (p ∷ ps) [] h = tt
distinct_chosen (p ∷ ps) (true ∷ bits) h = (apart_chosen p ps bits h.0, distinct_chosen ps bits h.1)
distinct_chosen (p ∷ ps) (false ∷ bits) h = distinct_chosen ps bits h.1

any_apart : (p : ℕ × ℕ) (ps : List (ℕ × ℕ)) → Apart p ps → list_any (joins p.0 p.1) ps ≡ false
any_apart p [] h = refl
any_apart p (q ∷ ps) h = or_from (joins p.0 p.1 q) (list_any (joins p.0 p.1) ps) h.0 (any_apart p ps h.1)

-- which of the pairs are among these
abbrev pub present : List (ℕ × ℕ) → List (ℕ × ℕ) → List Bool
present among ps = map (λ p. list_any (joins p.0 p.1) among) ps

present_skip : (p : ℕ × ℕ) (ps rest : List (ℕ × ℕ)) → Apart p ps → present (p ∷ rest) ps ≡ present rest ps
present_skip p [] rest h = refl
present_skip p (q ∷ ps) rest h = ap₂ ◌∷◌ (ap (λ (b : Bool). b || list_any (joins q.0 q.1) rest) (joins-back p q h.0)) (present_skip p ps rest h.1)

-- the bits can be read off the pairs that they choose
pub present_chosen : (ps : List (ℕ × ℕ)) (bits : List Bool) → AreDistinct ps → length ps ≤ length bits → present (chosen ps bits) ps ≡ take (length ps) bits
present_chosen [] bits h l = refl
present_chosen (p ∷ ps) [] h l = absurd (omega arith)
present_chosen (p ∷ ps) (true ∷ bits) h l = ap₂ ◌∷◌ (or_left (joins p.0 p.1 p) (list_any (joins p.0 p.1) (chosen ps bits)) (joins-own p))
    (present_skip p ps (chosen ps bits) h.0 ∙ present_chosen ps bits h.1 (omega arith))
present_chosen (p ∷ ps) (false ∷ bits) h l = ap₂ ◌∷◌ (any_apart p (chosen ps bits) (apart_chosen p ps bits h.0)) (present_chosen ps bits h.1 (omega arith))

-- distinct pairs are the edges of a simple graph
distinct_at : (ps : List (ℕ × ℕ)) (i j : ℕ) → AreDistinct ps → i < j → j < length ps → joins (get_or ps i (0, 0)).0 (get_or ps i (0, 0)).1 (get_or ps j (0, 0)) ≡ false
distinct_at [] i j h l m = absurd (omega arith)
distinct_at (p ∷ ps) i zero h l m = absurd (omega arith)
distinct_at (p ∷ ps) zero (suc j) h l m = apart_at p ps j h.0 (omega arith)
  where
    apart_at : (p : ℕ × ℕ) (ps : List (ℕ × ℕ)) (j : ℕ) → Apart p ps → j < length ps → joins p.0 p.1 (get_or ps j (0, 0)) ≡ false
    apart_at p [] j h m = absurd (omega arith)
    apart_at p (q ∷ ps) zero h m = h.0
    apart_at p (q ∷ ps) (suc j) h m = apart_at p ps j h.1 (omega arith)
distinct_at (p ∷ ps) (suc i) (suc j) h l m = distinct_at ps i j h.1 (omega arith) (omega arith)

pub simple_from_distinct : (g : Graph) → AreDistinct g.ends → IsSimple g
simple_from_distinct g h e f we wf same = grind (arith, cases_order, both_ways, distinct_at, joins-back)

-- a test of pairs, as the bits that choose those that pass
pub any_chosen : (test wanted : ℕ × ℕ → Bool) (ps : List (ℕ × ℕ)) → list_any wanted (chosen ps (map test ps)) ≡ list_any (λ p. test p && wanted p) ps
any_chosen test wanted [] = refl
any_chosen test wanted (p ∷ ps) = go (test p) (any_chosen test wanted ps)
  where
    go : (b : Bool) → list_any wanted (chosen ps (map test ps)) ≡ list_any (λ p. test p && wanted p) ps →
        list_any wanted (cond b (p ∷ chosen ps (map test ps)) (chosen ps (map test ps))) ≡ ((b && wanted p) || list_any (λ p. test p && wanted p) ps)
    go b ih = grind arith

pub any_none : (test : ℕ × ℕ → Bool) (ps : List (ℕ × ℕ)) → ((p : ℕ × ℕ) → test p ≡ false) → list_any test ps ≡ false
any_none test [] h = refl
any_none test (p ∷ ps) h = or_from (test p) (list_any test ps) (h p) (any_none test ps h)

-- an edge is the same two numbers as one of the distinct pairs at most, so that not more pairs
-- than edges are present
none_else : (p e : ℕ × ℕ) (ps : List (ℕ × ℕ)) → Apart p ps → joins p.0 p.1 e ≡ true → length (chosen ps (map (λ q. joins q.0 q.1 e) ps)) ≡ 0
none_else p e [] h s = refl
none_else p e (q ∷ ps) h s = rw (joins-third p q e s h.0) (none_else p e ps h.1 s)

one_at_most : (e : ℕ × ℕ) (ps : List (ℕ × ℕ)) → AreDistinct ps → length (chosen ps (map (λ q. joins q.0 q.1 e) ps)) ≤ 1
one_at_most e [] h = omega arith
one_at_most e (p ∷ ps) h = go (joins p.0 p.1 e) refl (one_at_most e ps h.1)
  where
    go : (b : Bool) → joins p.0 p.1 e ≡ b → length (chosen ps (map (λ q. joins q.0 q.1 e) ps)) ≤ 1 → length (cond b (p ∷ chosen ps (map (λ q. joins q.0 q.1 e) ps)) (chosen ps (map (λ q. joins q.0 q.1 e) ps))) ≤ 1
    go b s ih = grind (arith, none_else)

either_at_most : (f g : ℕ × ℕ → Bool) (ps : List (ℕ × ℕ)) → length (chosen ps (map (λ p. f p || g p) ps)) ≤ length (chosen ps (map f ps)) + length (chosen ps (map g ps))
either_at_most f g [] = omega arith
either_at_most f g (p ∷ ps) = go (f p) (g p) (either_at_most f g ps)
  where
    go : (a b : Bool) → length (chosen ps (map (λ p. f p || g p) ps)) ≤ length (chosen ps (map f ps)) + length (chosen ps (map g ps)) →
        length (cond (a || b) (p ∷ chosen ps (map (λ p. f p || g p) ps)) (chosen ps (map (λ p. f p || g p) ps))) ≤
        length (cond a (p ∷ chosen ps (map f ps)) (chosen ps (map f ps))) + length (cond b (p ∷ chosen ps (map g ps)) (chosen ps (map g ps)))
    go a b ih = grind arith

pub present_at_most : (es ps : List (ℕ × ℕ)) → AreDistinct ps → length (chosen ps (present es ps)) ≤ length es
present_at_most [] ps h = let n = nothing ps in omega arith
  where
    nothing : (ps : List (ℕ × ℕ)) → length (chosen ps (map (λ p. false) ps)) ≡ 0
    nothing [] = refl
    nothing (p ∷ ps) = nothing ps
present_at_most (e ∷ es) ps h =
    let a = either_at_most (λ p. joins p.0 p.1 e) (λ p. list_any (joins p.0 p.1) es) ps in
    let b = one_at_most e ps h in
    let c = present_at_most es ps h in
    omega arith

pub each_at : (P : ℕ × ℕ → Type 0) (ps : List (ℕ × ℕ)) (i : ℕ) → Each P ps → i < length ps → P (get_or ps i (0, 0))
each_at P [] i h l = absurd (omega arith)
each_at P (p ∷ ps) zero h l = h.0
each_at P (p ∷ ps) (suc i) h l = each_at P ps i h.1 (omega arith)
