-- The classes of a stage: two of its vertices that are no partners have the same partners. Idea:
-- the stage as a graph of its own is matching covered, and there to be equal or no partners is an
-- equivalence.
use Rattle.graph_core.proofs.from_counting.Common.{◌≡◌, ◌⊎◌, ◌↔◌, ℕ, Bool, true, false, ◌||◌, ◌&&◌, ◌==◌, arith, eqb-true, ne_eqb, not, ap, ap₂, sym, ◌∙◌, inl, inr, subst, List, [], ◌∷◌, length, and_from, both_ways, cases_Bool, cases_eq, not-false, or_cases, rank_once, same_tests, Within, count, item, mem, Set, pair_set}
use Rattle.two_ears.proofs.from_barrier_kit.Common.{equivalent_back, equivalent_on, perfect_or_not}
use Rattle.graph_core.proofs.Common.{Graph, IsGraph, HasPerfect}
use Rattle.two_ears.specs.from_match_core.Common.{are_partners}
use Rattle.ear_core.proofs.NextStages.{met-within}
use Rattle.ear_core.proofs.RankedStages.{off-ranked, rank-test, rank-within, ranked-covered, ranked-graph, ranked-off, stage_graph}
use Rattle.ear_core.proofs.StagePartners.{asked-says, says-asked}
use Rattle.ear_core.specs.Common.{ArePartnersOn, HasClasses, HaveRow, IsAsked, IsStage, IsStageOf, NamesMatching, Serves, is_met}
use Rattle.ear_core.specs.declared.asking.Asked.{Asked}

module _ (g : Graph) (is : IsGraph g) (f : Set) (stage : IsStage g f) where
  abbrev t : Set
  t = is_met g f

  abbrev k : Graph
  k = stage_graph g f

  abbrev pair : ℕ → ℕ → Set
  pair a b = pair_set (count a t) (count b t)

  -- the same vertex, or no partners, by rank
  abbrev same_class : ℕ → ℕ → Type 0
  same_class a b = (count a t ≡ count b t) ⊎ (HasPerfect k (pair a b) → ⊥)

  same-pair : (a b : ℕ) → t a ≡ true → t b ≡ true → (w : ℕ) → t w ≡ true → pair a b (count w t) ≡ pair_set a b w
  same-pair a b ta tb w tw = ap₂ ◌||◌ (rank-test t a w ta tw) (rank-test t b w tb tw)

  ranked-serves : (a b : ℕ) → t a ≡ true → t b ≡ true → HasPerfect k (pair a b) → Serves g f (pair_set a b)
  ranked-serves a b ta tb p = (p.0, ranked-off g is f (pair_set a b) (pair a b) (λ w ww tw. same-pair a b ta tb w tw) (ranked-graph g is f stage) p.0 p.1)

  serves-ranked : (a b : ℕ) → t a ≡ true → t b ≡ true → Serves g f (pair_set a b) → HasPerfect k (pair a b)
  serves-ranked a b ta tb q = (q.0, off-ranked g is f (pair_set a b) (pair a b) (λ w ww tw. same-pair a b ta tb w tw) q.0 q.1)

  -- no partners are equivalent, and equivalent vertices are none
  alike : (a b : ℕ) → t a ≡ true → t b ≡ true → (ArePartnersOn g f a b → ⊥) → same_class a b
  alike a b ta tb never = elim (cases_eq a b) [ inl i ↦ inl (ap (λ v. count v t) i) | inr d ↦ inr (λ p. never (d, ta, tb, ranked-serves a b ta tb p)) ]

  not-partners : (a b : ℕ) → t a ≡ true → t b ≡ true → same_class a b → ArePartnersOn g f a b → ⊥
  not-partners a b ta tb e p = elim e [ inl i ↦ p.0 (rank_once t a b ta tb i) | inr never ↦ never (serves-ranked a b ta tb p.3) ]

  partners-or : (a b : ℕ) → t a ≡ true → t b ≡ true → (ArePartnersOn g f a b) ⊎ (ArePartnersOn g f a b → ⊥)
  partners-or a b ta tb = elim (cases_eq a b) [
    | inl i ↦ inr (λ p. p.0 i)
    | inr d ↦ elim (perfect_or_not k (pair a b)) [ inl p ↦ inl (d, ta, tb, ranked-serves a b ta tb p) | inr never ↦ inr (λ p. let q = serves-ranked a b ta tb p.3 in never q.0 q.1) ]
  ]

  carried : (u v w : ℕ) → t u ≡ true → t v ≡ true → same_class u v → ArePartnersOn g f u w → ArePartnersOn g f v w
  carried u v w tu tv same p =
      let tw = p.2 in
      let at = λ (a : ℕ) (ta : t a ≡ true). rank-within g.order t a (met-within g is f a ta) ta in
      elim (partners-or v w tv tw) [
        | inl q ↦ q
        | inr never ↦ absurd (not-partners u w tu tw (equivalent_on k (count u t) (count v t) (count w t) (ranked-graph g is f stage) (ranked-covered g is f stage) (at u tu) (at v tv) (at w tw) same (alike v w tv tw never)) p)
      ]

  -- two vertices that are no partners have the same partners
  pub class-partners : (u v w : ℕ) → t u ≡ true → t v ≡ true → (ArePartnersOn g f u v → ⊥) → ArePartnersOn g f u w ↔ ArePartnersOn g f v w
  class-partners u v w tu tv never =
      let same = alike u v tu tv never in
      (carried u v w tu tv same, carried v u w tv tu (equivalent_back k (count u t) (count v t) same))

-- the graph of a stage that the engine is asked about has these classes
pub asked-classes : (g : Graph) → IsGraph g → (f : Set) → IsStage g f → (asked : Asked) → IsAsked g f asked → HasClasses asked.stage (mem asked.outside)
asked-classes g is f stage asked asks u v w su sv sw left_u left_v never =
    let classes = class-partners g is f stage u v w (on u su left_u) (on v sv left_v) (λ p. both_ways (are_partners asked.stage (mem asked.outside) u v) never (says-asked g is f asked asks u su v p)) in
    same_tests (are_partners asked.stage (mem asked.outside) v w) (are_partners asked.stage (mem asked.outside) u w)
    (λ h. says-asked g is f asked asks u su w (classes.1 (asked-says g is f asked asks v sv w sw h)))
    (λ h. says-asked g is f asked asks v sv w (classes.0 (asked-says g is f asked asks u su w sw h)))
  where
    on : (a : ℕ) → Within asked.stage.order a → mem asked.outside a ≡ false → is_met g f a ≡ true
    on a sa left = not-false (is_met g f a) (sym (asks.outside a (subst (λ n. Within n a) asks.order sa)) ∙ left)

-- a partner of u in a set is one of its vertices that are on the stage and not u
pub left-other : (g : Graph) → IsGraph g → (f : Set) (asked : Asked) → IsAsked g f asked → (u v : ℕ) (set beside others : List ℕ) → ((w : ℕ) → mem beside w ≡ (mem asked.outside w || u == w)) → ((w : ℕ) → mem others w ≡ (mem set w && not (mem beside w))) →
    ArePartnersOn g f u v → mem set v ≡ true → mem others v ≡ true
left-other g is f asked asks u v set beside others joined left p on = grind (arith, and_from, mem, met-within, ne_eqb)

-- at first no row is known
pub rows-first : (asked : Asked) (mate : List ℕ) (covered : Bool) (known : List ℕ) (rows : List (List ℕ)) → NamesMatching asked.stage (mem asked.outside) mate → (covered ≡ true → HasClasses asked.stage (mem asked.outside)) →
    ((v : ℕ) → mem known v ≡ false) → length rows ≡ asked.stage.order → IsStageOf asked mate covered known rows
rows-first asked mate covered known rows matched classes empty long = grind (arith, both_ways, mem)

module _ (asked : Asked) (row : List ℕ) (u : ℕ) (su : Within asked.stage.order u) (is_row : (v : ℕ) → Within asked.stage.order v → mem row v ≡ are_partners asked.stage (mem asked.outside) u v) where
  -- a vertex has its own row
  pub one-has : HaveRow asked (mem (u ∷ [])) row
  one-has v i = subst (λ k. Within asked.stage.order k × ((w : ℕ) → Within asked.stage.order w → mem row w ≡ are_partners asked.stage (mem asked.outside) k w)) (eqb-true u v (only (u == v) i)) (su, is_row)
    where
      only : (b : Bool) → (b || false) ≡ true → b ≡ true
      only b i = grind arith

  -- and its class has it
  pub class-has : HasClasses asked.stage (mem asked.outside) → mem asked.outside u ≡ false → (class : List ℕ) →
      ((v : ℕ) → (mem class v ≡ true) ↔ (Within asked.stage.order v × (mem asked.outside v ≡ false) × (mem row v ≡ false))) → HaveRow asked (mem class) row
  class-has classes left class is_class v i = let c = (is_class v).0 i in (c.0, λ w sw. is_row w sw ∙ sym (classes u v w su c.0 sw left c.1 (sym (is_row v c.0) ∙ c.2)))

-- a row is kept for vertices that have it
pub rows-kept : (asked : Asked) (mate : List ℕ) (covered : Bool) (known after row class : List ℕ) (rows new : List (List ℕ)) → IsStageOf asked mate covered known rows →
    ((v : ℕ) → mem row v ≡ true → Within asked.stage.order v) → HaveRow asked (mem class) row →
    length new ≡ length rows → ((v : ℕ) → mem class v ≡ true → item new v ≡ row) → ((v : ℕ) → Within (length rows) v → mem class v ≡ false → item new v ≡ item rows v) →
    ((v : ℕ) → mem after v ≡ (mem known v || mem class v)) → IsStageOf asked mate covered after new
rows-kept asked mate covered known after row class rows new stage within have long own others joined = record {
  matched = stage.matched;
  classes = stage.classes;
  one_each = long ∙ stage.one_each;
  within = λ v w sv k h. elim (cases_Bool (mem class v)) [
    | inl i ↦ within w (sym (ap (λ (xs : List ℕ). mem xs w) (own v i)) ∙ h)
    | inr o ↦ stage.within v w sv (before v o k) (sym (ap (λ (xs : List ℕ). mem xs w) (others v (at v sv) o)) ∙ h)
  ];
  row_is = λ v w sv sw k. elim (cases_Bool (mem class v)) [
    | inl i ↦ ap (λ (xs : List ℕ). mem xs w) (own v i) ∙ (have v i).1 w sw
    | inr o ↦ ap (λ (xs : List ℕ). mem xs w) (others v (at v sv) o) ∙ stage.row_is v w sv sw (before v o k)
  ];
}
  where
    at : (v : ℕ) → Within asked.stage.order v → Within (length rows) v
    at v = subst (λ n. Within n v) (sym stage.one_each)

    before : (v : ℕ) → mem class v ≡ false → mem after v ≡ true → mem known v ≡ true
    before v o k = elim (or_cases (mem known v) (mem class v) (sym (joined v) ∙ k)) [ inl i ↦ i | inr i ↦ absurd (both_ways (mem class v) o i) ]
