-- A graph that grows by the edges of another one which pass a test, each with new ends: after the
-- first k edges it has those of them that pass, in order. Distinct pairs make it a simple graph.
use Rattle.allowed_edges.proofs.from_counting.Common.{◌≡◌, ℕ, zero, suc, ◌+◌, ◌≤◌, ◌<◌, Bool, true, false, cond, List, [], ◌∷◌, ◌++◌, length, map, refl, ap, ap₂, ◌∙◌, arith, subst, sym, if◌then◌else◌, Within, append-nil, count_le, length-map, length-rising_list, map-append, rising_list, Set}
use Rattle.graph_core.proofs.Common.{Graph, joins, size, with_edge}
use Rattle.graph6_text.proofs.DistinctPairs.{Apart, AreDistinct, Each, distinct-append, each-append}

-- the ends of the first k edges that pass the test
abbrev pub taken : (ℕ → ℕ × ℕ) → Set → ℕ → List (ℕ × ℕ)
taken f test k = map f (rising_list k test)

pub taken-next : (f : ℕ → ℕ × ℕ) (test : Set) (k : ℕ) → taken f test (suc k) ≡ taken f test k ++ cond (test (suc k)) (f (suc k) ∷ []) []
taken-next f test k = map-append f (rising_list k test) (cond (test (suc k)) (suc k ∷ []) []) ∙ ap (λ (ps : List (ℕ × ℕ)). taken f test k ++ ps) (last (test (suc k)))
  where
    last : (b : Bool) → map f (cond b (suc k ∷ []) []) ≡ cond b (f (suc k) ∷ []) []
    last true = refl
    last false = refl

-- h has n vertices and takes those of the first k edges that pass
pub record Takes (n : ℕ) (f : ℕ → ℕ × ℕ) (test : Set) (k : ℕ) (h : Graph) : Type 0 where
  pub order : h.order ≡ n
  pub few : size h ≤ k
  pub ends : h.ends ≡ taken f test k

pub takes_none : (n k : ℕ) (f : ℕ → ℕ × ℕ) (test : Set) (h : Graph) → k ≡ n → h ≡ record { order = k; ends = [] } → Takes n f test 0 h
takes_none n k f test h same is = subst (λ (q : Graph). Takes n f test 0 q) (sym is) (record { order = same; few = omega arith; ends = refl })

few_taken : (f : ℕ → ℕ × ℕ) (test : Set) (k : ℕ) → length (taken f test k) ≤ k
few_taken f test k =
    let a = length-map (rising_list k test) f in
    let b = length-rising_list k test in
    let c = count_le k test in omega arith

-- the graph with the next edge, if that passes
pub takes_next : (n : ℕ) (f : ℕ → ℕ × ℕ) (test : Set) (k : ℕ) (h more : Graph) → Takes n f test k h →
    more ≡ (if test (k + 1) then with_edge h (f (k + 1)).0 (f (k + 1)).1 else h) → Takes n f test (k + 1) more
takes_next n f test k h more takes is =
    let next : k + 1 ≡ suc k = omega arith in
    subst (λ (i : ℕ). Takes n f test i more) (sym next)
    (step (test (suc k)) refl (is ∙ ap (λ (i : ℕ). if test i then with_edge h (f i).0 (f i).1 else h) next))
  where
    made : (b : Bool) → test (suc k) ≡ b → more.order ≡ n → more.ends ≡ h.ends ++ cond b (f (suc k) ∷ []) [] → Takes n f test (suc k) more
    made b t order ends =
        let all : more.ends ≡ taken f test (suc k) =
        ends ∙ ap₂ (λ (ps : List (ℕ × ℕ)) (c : Bool). ps ++ cond c (f (suc k) ∷ []) []) takes.ends (sym t) ∙ sym (taken-next f test k) in
        record { order = order; few = (let a = few_taken f test (suc k) in let b = ap length all in omega arith); ends = all }

    step : (b : Bool) → test (suc k) ≡ b → more ≡ (if test (suc k) then with_edge h (f (suc k)).0 (f (suc k)).1 else h) → Takes n f test (suc k) more
    step true t same =
        let added : more ≡ with_edge h (f (suc k)).0 (f (suc k)).1 = same ∙ ap (λ (b : Bool). if b then with_edge h (f (suc k)).0 (f (suc k)).1 else h) t in
        made true t (ap (λ (q : Graph). q.order) added ∙ takes.order) (ap (λ (q : Graph). q.ends) added)
    step false t same =
        let kept : more ≡ h = same ∙ ap (λ (b : Bool). if b then with_edge h (f (suc k)).0 (f (suc k)).1 else h) t in
        made false t (ap (λ (q : Graph). q.order) kept ∙ takes.order) (ap (λ (q : Graph). q.ends) kept ∙ sym (append-nil h.ends))

-- after all edges
pub takes_all : (n : ℕ) (f : ℕ → ℕ × ℕ) (test : Set) (k m : ℕ) (h : Graph) → k ≡ m → Takes n f test k h → h ≡ record { order = n; ends = map f (rising_list m test) }
takes_all n f test k m h all takes =
    let graph : ℕ → List (ℕ × ℕ) → Graph = λ order ends. record { order = order; ends = ends } in
    ap₂ graph takes.order (takes.ends ∙ ap (λ (i : ℕ). map f (rising_list i test)) all)

-- what holds of each edge that passes, holds of each end pair
pub each_taken : (P : ℕ × ℕ → Type 0) (f : ℕ → ℕ × ℕ) (test : Set) (k : ℕ) → ((e : ℕ) → Within k e → test e ≡ true → P (f e)) → Each P (taken f test k)
each_taken P f test zero h = tt
each_taken P f test (suc k) h =
    subst (Each P) (sym (taken-next f test k))
    (each-append P (taken f test k) (cond (test (suc k)) (f (suc k) ∷ []) []) (each_taken P f test k (λ e w t. h e (omega arith) t)) (last (test (suc k)) refl))
  where
    last : (b : Bool) → test (suc k) ≡ b → Each P (cond b (f (suc k) ∷ []) [])
    last true t = (h (suc k) (omega arith) t, tt)
    last false t = tt

-- two edges that pass have different ends
pub distinct_taken : (f : ℕ → ℕ × ℕ) (test : Set) (k : ℕ) →
    ((d e : ℕ) → Within k d → Within k e → d < e → test d ≡ true → test e ≡ true → joins (f d).0 (f d).1 (f e) ≡ false) → AreDistinct (taken f test k)
distinct_taken f test zero h = tt
distinct_taken f test (suc k) h =
    subst AreDistinct (sym (taken-next f test k))
    (last (distinct_taken f test k (λ d e wd we l. h d e (omega arith) (omega arith) l)) (test (suc k)) refl)
  where
    last : AreDistinct (taken f test k) → (b : Bool) → test (suc k) ≡ b → AreDistinct (taken f test k ++ cond b (f (suc k) ∷ []) [])
    last before true t =
        distinct-append (taken f test k) (f (suc k) ∷ []) before (tt, tt)
        (each_taken (λ p. Apart p (f (suc k) ∷ [])) f test k (λ e w te. (h e (suc k) (omega arith) (omega arith) (omega arith) te t, tt)))
    last before false t = subst AreDistinct (sym (append-nil (taken f test k))) before
