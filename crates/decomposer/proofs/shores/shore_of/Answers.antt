use Rattle.graph_core.proofs.from_counting.Common.{List, Option, [], ℕ, ap, refl, sym, subst, ◌∙◌, unwrap_or, arith, option_map, none-some}
use Rattle.tight_cuts.specs.Common.{candidates_at, candidate_of}
use Rattle.tree_core.proofs.Common.{IsCutAt}
use Rattle.tight_cuts.proofs.FirstCandidates.{first-place}
use Rattle.decomposer.proofs.Picking.{cut-from_candidate}
use Rattle.decomposer.proofs.shores.shore_of.Goals as goal

pub returns-in-Some : goal.returns-in-Some
returns-in-Some c = λ g p k is_first. record {
  none = λ is. absurd (none-some _ (sym is));
  leaf = λ is. absurd (none-some _ (sym is));
  picked = λ s is. (
    0,
    candidate_of c.in-Some.candidate,
    refl,
    first-place (candidates_at g p) ∙ sym is_first.first ∙ ap (option_map candidate_of) c.in-Some.is,
    ap (λ (o : Option (List ℕ)). unwrap_or o []) is,
  );
  cut = λ s is. subst (IsCutAt g p) (ap (λ (o : Option (List ℕ)). unwrap_or o []) is)
      (cut-from_candidate g p (candidate_of c.in-Some.candidate) (is_first.some c.in-Some.candidate c.in-Some.is));
}

pub returns-in-None : goal.returns-in-None
returns-in-None c = grind arith
