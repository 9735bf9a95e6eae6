-- The search for ears that serve: what is found or not among the ears after the first one and
-- what of that one make what is found or not among all. After the search one ear serves or two
-- do.
use Rattle.graph_core.proofs.from_counting.Common.{◌≡◌, ℕ, ◌+◌, ◌≤◌, true, ◌==◌, ◌||◌, ◌⊎◌, ◌↔◌, inl, inr, refl, sym, ap, ◌∙◌, arith, subst, eq-eqb, List, [], ◌∷◌, Option, Some, None, Result, IfOk, IfSome, IfNone, All, get_or, AllByRecursion, mem-item, or_comm, bit, Within, mem, IsIn, Set, union}
use Rattle.graph_core.proofs.Common.{Graph, size, IsGraph, HasPerfect}
use Rattle.two_ears.specs.VertexPairs.{pairs_at}
use Rattle.ear_core.specs.Common.{AreCandidates, Serves, ends_of_ear, ends_of_ears, IsChosen, IsAsked, IsBefore, AreEars, FindsAlone, FindsBeside, FindsTwo, NoneServes, NoneServesBeside, NoTwoServe, PlainEar, PlainStep, one, two, FitsEar, IsStep, next_stage, last_vertex, trail, IsEar, IsStage}
use Rattle.ear_core.specs.declared.asking.Asked.{Asked}
use Rattle.ear_core.proofs.EngineGraphs.{asked-perfect}
use Rattle.ear_core.proofs.TraceEdges.{edges-within}
use Rattle.ear_core.proofs.NextStages.{met-within}
use Rattle.ear_core.proofs.ServingEars.{off-same}
use Rattle.ear_core.proofs.ServingPairs.{apart-pair, serving-one, serving-two, some-serve, serve-twice}

-- what the engine answers
pub asked-serves : (g : Graph) (f : Set) (asked : Asked) → IsAsked g f asked → (ends removed : List ℕ) → ((v : ℕ) → mem removed v ≡ (mem asked.outside v || mem ends v)) → HasPerfect asked.stage (mem removed) ↔ Serves g f (mem ends)
asked-serves g f asked is ends removed joined = asked-perfect g f asked is (mem removed) (mem ends) (λ v w. joined v)

-- sets that agree serve alike
pub serves-same : (g : Graph) (f x y : Set) → ((v : ℕ) → x v ≡ y v) → Serves g f x → Serves g f y
serves-same g f x y same q = (q.0, off-same g f x y q.0 same q.1)

-- answers carried over
pub some-carried : {A Fault : Type 0} (result : Result (Option A) Fault) (P Q : A → Type 0) → ((a : A) → P a → Q a) → IfOk result (λ o. IfSome o P) → IfOk result (λ o. IfSome o Q)
some-carried result P Q h p = grind arith

pub none-carried : {A Fault : Type 0} (result : Result (Option A) Fault) (P Q : Type 0) → (P → Q) → IfOk result (λ o. IfNone o P) → IfOk result (λ o. IfNone o Q)
none-carried result P Q h p = grind arith

module _ (g : Graph) (f : Set) (a : PlainEar) (ears others : List PlainEar) (begins : ears ≡ a ∷ others) where
  pub beside-here : (x : Set) (b : PlainEar) → b ≡ a → Serves g f (union x (ends_of_ear g a)) → FindsBeside g f x ears b
  beside-here x b is q = (subst (IsIn b) (sym begins) (inl is), subst (λ (c : PlainEar). Serves g f (union x (ends_of_ear g c))) (sym is) q)

  pub beside-later : (x : Set) (b : PlainEar) → FindsBeside g f x others b → FindsBeside g f x ears b
  beside-later x b found = (subst (IsIn b) (sym begins) (inr found.0), found.1)

  pub none-beside-later : (x : Set) → (Serves g f (union x (ends_of_ear g a)) → ⊥) → NoneServesBeside g f x others → NoneServesBeside g f x ears
  none-beside-later x here later b i q = grind arith

  -- the same of an ear that serves alone
  pub alone-here : (b : PlainEar) → b ≡ a → Serves g f (ends_of_ear g a) → FindsAlone g f ears b
  alone-here b is q = (subst (IsIn b) (sym begins) (inl is), subst (λ (c : PlainEar). Serves g f (ends_of_ear g c)) (sym is) q)

  pub alone-later : (b : PlainEar) → FindsAlone g f others b → FindsAlone g f ears b
  alone-later b found = (subst (IsIn b) (sym begins) (inr found.0), found.1)

  pub none-alone-later : (Serves g f (ends_of_ear g a) → ⊥) → NoneServes g f others → NoneServes g f ears
  none-alone-later here later b i q = grind arith

  pub ears-behind : AreEars g f ears → AreEars g f others
  ears-behind each b i = each b (subst (IsIn b) (sym begins) (inr i))

  pub ear-first : AreEars g f ears → IsEar g f a.begin a.edges
  ear-first each = each a (subst (IsIn a) (sym begins) (inl refl))

  pub two-here : (b : PlainEar) (s : PlainStep) → s ≡ two a b → FindsBeside g f (ends_of_ear g a) others b → FindsTwo g f ears s
  two-here b s is found = (a, b, subst (IsBefore a b) (sym begins) (inl (refl, found.0)), is, found.1)

  pub two-later : (s : PlainStep) → FindsTwo g f others s → FindsTwo g f ears s
  two-later s found = (found.0, found.1, subst (IsBefore found.0 found.1) (sym begins) (inr found.2), found.3, found.4)

  pub no-two-later : NoneServesBeside g f (ends_of_ear g a) others → NoTwoServe g f others → NoTwoServe g f ears
  no-two-later here later b c i q = grind arith

-- two ears of a list are one, or one stands before the other
ordered : (a b : PlainEar) (ears : List PlainEar) → IsIn a ears → IsIn b ears → (a ≡ b) ⊎ (IsBefore a b ears ⊎ IsBefore b a ears)
ordered a b [] i j = absurd i
ordered a b (c ∷ ears) i j = elim i [
  | inl x ↦ elim j [ inl y ↦ inl (x ∙ sym y) | inr y ↦ inr (inl (inl (x, y))) ]
  | inr x ↦ elim j [
    | inl y ↦ inr (inr (inl (y, x)))
    | inr y ↦ elim (ordered a b ears x y) [ inl e ↦ inl e | inr o ↦ elim o [ inl k ↦ inr (inl (inr k)) | inr k ↦ inr (inr (inr k)) ] ]
  ]
]

pub before-among : (a b : PlainEar) (ears : List PlainEar) → IsBefore a b ears → IsIn a ears × IsIn b ears
before-among a b [] i = absurd i
before-among a b (c ∷ ears) i = elim i [ inl p ↦ (inl p.0, inr p.1) | inr j ↦ let r = before-among a b ears j in (inr r.0, inr r.1) ]

-- the ends of an ear of the list are counted
pub ends-among : (g : Graph) (a : PlainEar) (ears : List PlainEar) (w : ℕ) → IsIn a ears → bit (a.begin == w) + bit (last_vertex g a.begin a.edges == w) ≤ pairs_at (ends_of_ears g ears) w
ends-among g a [] w i = absurd i
ends-among g a (c ∷ ears) w i = elim i [
  | inl e ↦ let x = ap (λ (b : PlainEar). bit (b.begin == w) + bit (last_vertex g b.begin b.edges == w)) e in omega arith
  | inr j ↦ let x = ends-among g a ears w j in omega arith
]

ends-before : (g : Graph) (a b : PlainEar) (ears : List PlainEar) (w : ℕ) → IsBefore a b ears →
    (bit (a.begin == w) + bit (last_vertex g a.begin a.edges == w)) + (bit (b.begin == w) + bit (last_vertex g b.begin b.edges == w)) ≤ pairs_at (ends_of_ears g ears) w
ends-before g a b [] w i = absurd i
ends-before g a b (c ∷ ears) w i = elim i [
  | inl p ↦ let x = ap (λ (d : PlainEar). bit (d.begin == w) + bit (last_vertex g d.begin d.edges == w)) p.0 in let y = ends-among g b ears w p.1 in omega arith
  | inr j ↦ let x = ends-before g a b ears w j in omega arith
]

module _ (g : Graph) (is : IsGraph g) (f : Set) (stage : IsStage g f) (ears : List PlainEar) (c : AreCandidates g f ears) where
  -- what a step that is found is
  pub found-one : (a : PlainEar) → FindsAlone g f ears a → IsChosen ears (one a) × IsStep g f (one a) × IsStage g (next_stage f (one a))
  found-one a found = (found.0, c.each a found.0, serving-one g is f stage a (c.each a found.0) found.1)

  apart-before : (a b : PlainEar) → IsBefore a b ears → (w : ℕ) → mem (trail g a.begin a.edges) w ≡ true → mem (trail g b.begin b.edges) w ≡ true → ⊥
  apart-before a b i = grind (arith, before-among a b ears i, ends-before g a b ears a.begin i, eq-eqb a.begin a.begin refl, eq-eqb b.begin a.begin)

  pub found-two : (s : PlainStep) → FindsTwo g f ears s → IsChosen ears s × IsStep g f s × IsStage g (next_stage f s)
  found-two s found =
      let a = found.0 in
      let b = found.1 in
      let r = before-among a b ears found.2 in
      let ea = c.each a r.0 in
      let eb = c.each b r.1 in
      let d = apart-before a b found.2 in
      grind (arith, apart-pair g is f stage a b ea eb d, serving-two g is f stage a b ea eb d found.4)

  turned : (a b : PlainEar) → Serves g f (union (ends_of_ear g a) (ends_of_ear g b)) → Serves g f (union (ends_of_ear g b) (ends_of_ear g a))
  turned a b q = serves-same g f (union (ends_of_ear g a) (ends_of_ear g b)) (union (ends_of_ear g b) (ends_of_ear g a)) (λ v. or_comm (ends_of_ear g a v) (ends_of_ear g b v)) q

  -- one serves, or two do
  pub never-none : NoneServes g f ears → NoTwoServe g f ears → ⊥
  never-none no_one no_two =
      let x = some-serve g is f stage ears c in
      elim (ordered x.0 x.1 ears x.2 x.3) [
        | inl e ↦ no_one x.0 x.2 (serve-twice g is f stage x.0 (subst (λ (b : PlainEar). Serves g f (union (ends_of_ear g x.0) (ends_of_ear g b))) (sym e) x.4))
        | inr o ↦ elim o [ inl i ↦ no_two x.0 x.1 i x.4 | inr i ↦ no_two x.1 x.0 i (turned x.0 x.1 x.4) ]
      ]

-- the numbers of an ear are in range
pub all-edges : (m : ℕ) (es : List ℕ) → ((e : ℕ) → mem es e ≡ true → Within m e) → All (Within m) es
all-edges m es h k d less = h (get_or es k d) (mem-item es k d less)

pub ear-fits : (g : Graph) → IsGraph g → (f : Set) (a : PlainEar) → IsEar g f a.begin a.edges → FitsEar g.order (size g) a
ear-fits g is f a ear = (met-within g is f a.begin ear.start, all-edges (size g) a.edges (λ e i. edges-within g a.begin a.edges ear.follow e i))

pub ears-fit : (g : Graph) → IsGraph g → (f : Set) (ears : List PlainEar) → ((a : PlainEar) → IsIn a ears → IsEar g f a.begin a.edges) → AllByRecursion (FitsEar g.order (size g)) ears
ears-fit g is f [] each = tt
ears-fit g is f (a ∷ ears) each = (ear-fits g is f a (each a (inl refl)), ears-fit g is f ears (λ b i. each b (inr i)))

-- what holds where nothing is found
pub at-none : {A : Type 0} (o : Option A) (P : Type 0) → o ≡ None → IfNone o P → P
at-none {A} o P is p = subst (λ (x : Option A). IfNone x P) is p

pub at-some : {A : Type 0} (o : Option A) (a : A) (P : A → Type 0) → o ≡ Some a → IfSome o P → P a
at-some {A} o a P is p = subst (λ (x : Option A). IfSome x P) is p
