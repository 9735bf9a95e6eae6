-- What the builder has made goes on by a step, and by the edges between partners.
-- Idea: each fact on the old stage goes over to the next one by the fact on the step; an edge
-- between partners is an ear of its own.
use Rattle.graph_core.proofs.from_counting.Common.{◌≡◌, ℕ, ◌+◌, ◌≤◌, ◌==◌, eq-eqb, true, Result, OnOk, ◌++◌, ◌∷◌, [], List, arith, ap, map, sym, subst, refl, false, ◌∙◌, fun_ext, or_left, or_right, count_complement, count_more, Within, complement, count, mem, Set}
use Rattle.graph_core.proofs.Common.{Graph, IsGraph, first_end, second_end, size}
use Rattle.two_ears.specs.from_match_search.Common.{marks}
use Rattle.ear_core.proofs.NeededPairs.{each-go_on}
use Rattle.ear_core.proofs.Searching.{all-edges}
use Rattle.ear_core.proofs.StagePartners.{edge-ear, edge-goes, edge-met, step-partners}
use Rattle.ear_core.proofs.Stepping.{all-single, mates-there, stage-there, steps-go_on}
use Rattle.ear_core.specs.Common.{ArePartnersOn, FitsStep, GoesOn, IsBuilt, IsFilled, IsForced, IsMarked, IsNeeded, LeadTo, PlainStep, is_met, next_stage, one, step_of}
use Rattle.ear_core.specs.declared.built.Built.{Built}

-- one step more leads to the next stage
leads-on : (g : Graph) (n : ℕ → ℕ) (first f new : Set) (before after : List PlainStep) (s : PlainStep) → LeadTo g first f before → GoesOn g n f s → ((i : ℕ) → new i ≡ next_stage f s i) → after ≡ before ++ s ∷ [] → LeadTo g first new after
leads-on g n first f new before after s leads goes same pushed = subst (LeadTo g first new) (sym pushed) (record {
  steps = λ others are. steps-go_on g first f new before s goes.step goes.stage same leads.steps others are;
  needed = λ others are. each-go_on (IsNeeded g) first f new before s goes.needed same leads.needed others are;
  forced = λ others are. each-go_on (IsForced g) first f new before s goes.forced same leads.forced others are;
  single = λ sides. all-single before s (leads.single sides) (goes.single sides);
})

pub built-on : (g : Graph) (n : ℕ → ℕ) (first : Set) (old new : Built) (s : PlainStep) → IsBuilt g n first old → GoesOn g n (marks old.marked.mark.items) s → IsMarked g new.marked → ((i : ℕ) → marks new.marked.mark.items i ≡ next_stage (marks old.marked.mark.items) s i) →
    map step_of new.steps ≡ map step_of old.steps ++ s ∷ [] → IsBuilt g n first new
built-on g n first old new s built goes marked same pushed = record {
  marked = marked;
  stage = stage-there g (marks old.marked.mark.items) (marks new.marked.mark.items) s same goes.stage;
  mates = mates-there g (marks old.marked.mark.items) (marks new.marked.mark.items) s same n goes.mates;
  leads = leads-on g n first (marks old.marked.mark.items) (marks new.marked.mark.items) (map step_of old.steps) (map step_of new.steps) s built.leads goes same pushed;
}

-- an edge between two partners on the stage f is added
module _ (g : Graph) (is : IsGraph g) (old new : Built) (e : ℕ) (we : Within (size g) e) (s : PlainStep) (edge : s ≡ one (record { begin = first_end g e; edges = e ∷ [] })) (same : (i : ℕ) → marks new.marked.mark.items i ≡ next_stage (marks old.marked.mark.items) s i) where
  added : (i : ℕ) → marks new.marked.mark.items i ≡ next_stage (marks old.marked.mark.items) (one (record { begin = first_end g e; edges = e ∷ [] })) i
  added = subst (λ (t : PlainStep). (i : ℕ) → marks new.marked.mark.items i ≡ next_stage (marks old.marked.mark.items) t i) edge same

  pub filled-on : ((n : ℕ → ℕ) (first : Set) → IsBuilt g n first old → GoesOn g n (marks old.marked.mark.items) s → IsBuilt g n first new) →
      (n : ℕ → ℕ) (first f : Set) → IsFilled g n first f old → marks old.marked.mark.items e ≡ false → ArePartnersOn g f (first_end g e) (second_end g e) → IsFilled g n first f new
  filled-on add n first f filled off joins =
      let carried : (u v : ℕ) → ArePartnersOn g f u v → ArePartnersOn g (marks old.marked.mark.items) u v = λ u v p. (p.0, filled.met u ∙ p.1, filled.met v ∙ p.2, filled.partners u v p) in
      let here = carried (first_end g e) (second_end g e) joins in
      let ear = edge-ear g is (marks old.marked.mark.items) e we off here in
      record {
        built = add n first filled.built (subst (GoesOn g n (marks old.marked.mark.items)) (sym edge) (edge-goes g is (marks old.marked.mark.items) e we off here n filled.built.stage filled.built.mates));
        met = λ v. ap (λ (k : Set). is_met g k v) (fun_ext added) ∙ edge-met g is (marks old.marked.mark.items) e we off here v ∙ filled.met v;
        partners = λ u v p. (subst (λ (k : Set). ArePartnersOn g k u v) (sym (fun_ext added)) (step-partners g (marks old.marked.mark.items) (one (record { begin = first_end g e; edges = e ∷ [] })) ear u v (carried u v p))).3;
      }

  -- and one edge less is left
  pub fewer-left : marks old.marked.mark.items e ≡ false → count (size g) (complement (marks new.marked.mark.items)) + 1 ≤ count (size g) (complement (marks old.marked.mark.items))
  fewer-left off =
      let own = or_right (marks old.marked.mark.items e) (mem (e ∷ []) e) (or_left (e == e) false (eq-eqb e e refl)) in
      let a = count_more (size g) (marks old.marked.mark.items) (marks new.marked.mark.items) (λ v t. added v ∙ or_left (marks old.marked.mark.items v) (mem (e ∷ []) v) t) e we off (added e ∙ own) in
      let b = count_complement (size g) (marks old.marked.mark.items) in
      let c = count_complement (size g) (marks new.marked.mark.items) in omega arith

-- at first nothing is added
pub filled-first : (g : Graph) (n : ℕ → ℕ) (first : Set) (b : Built) → IsBuilt g n first b → IsFilled g n first (marks b.marked.mark.items) b
filled-first g n first b built = record { built = built; met = λ v. refl; partners = λ u v p. p.3 }

-- the numbers of the step are in range
pub edge-fits : (g : Graph) → IsGraph g → (e : ℕ) → Within (size g) e → FitsStep g.order (size g) (one (record { begin = first_end g e; edges = e ∷ [] }))
edge-fits g is e we = ((is e we).0, all-edges (size g) (e ∷ []) (λ d t. alone d t))
  where
    alone : (d : ℕ) → mem (e ∷ []) d ≡ true → Within (size g) d
    alone d t = grind (arith, we)

-- what follows of one fact or two, where there is a result
pub on-ok : {A Fault : Type 0} (result : Result A Fault) (P Q : Type 0) → (P → Q) → OnOk result P → OnOk result Q
on-ok result P Q h p = grind arith

pub on-both : {A Fault : Type 0} (result : Result A Fault) (P Q R : Type 0) → (P → Q → R) → OnOk result P → OnOk result Q → OnOk result R
on-both result P Q R h p q = grind arith
