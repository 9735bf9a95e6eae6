use Rattle.graph_core.proofs.from_counting.Common.{ℕ, All, List, [], ap, sym, subst, ◌∙◌, slice_get, unwrap_or, Option, eqb-true, arith, nil_from_length, none-some, rules}
use Rattle.tight_cuts.specs.Common.{Candidate, IsCandidateAt, candidate_of}
use Rattle.tree_core.proofs.Common.{IsCutAt}
use Rattle.decomposer.proofs.ChoicesAt.{choice-at}
use Rattle.decomposer.proofs.Picking.{picked-shore, some-stored, stored-length}
use Rattle.decomposer.proofs.shores.listed_shore.Goals as goal

pub returns-then-is_empty : goal.returns-then-is_empty
returns-then-is_empty g c = grind (arith, nil_from_length, eqb-true, none-some)

pub pick-place-requires : goal.pick-place-requires
pick-place-requires g c =
    let some = some-stored c.as_slice.result.now c.args.list.now c.as_slice.ensures (sym c.is_empty.ensures ∙ c.if-is_empty.false) in
    c.requires.asked c.as_slice.result.now c.args.before
    (choice-at c.args.place.now.graph c.args.place.now.blocks c.as_slice.result.now c.args.list.now c.args.before (search rules) c.as_slice.ensures c.requires.candidates.each some (omega arith) (omega arith))

pub get-picked-requires : goal.get-picked-requires
get-picked-requires g c = stored-length c.as_slice.result.now c.args.list.now c.pick-place.result c.as_slice.ensures c.pick-place.ensures.in_range

pub returns : goal.returns
returns g c =
    let graph = c.args.place.now.graph in
    let blocks = c.args.place.now.blocks in
    let at = c.requires.candidates in
    record {
      none = λ is. absurd (none-some _ (sym is));
      leaf = λ is. absurd (none-some _ (sym is));
      picked = λ s is. (
        c.pick-place.result,
        candidate_of c.get-picked.result,
        subst (λ (list : List Candidate). g.P.Picker.picks c.args.order.now list c.args.before c.pick-place.result) (c.as_slice.ensures ∙ at.all) c.pick-place.ensures.picks,
        ap (λ (list : List Candidate). slice_get list c.pick-place.result) (sym at.all) ∙ c.get-picked.ensures,
        ap (λ (o : Option (List ℕ)). unwrap_or o []) is,
      );
      cut = λ s is. subst (IsCutAt graph blocks) (ap (λ (o : Option (List ℕ)). unwrap_or o []) is)
          (picked-shore graph blocks c.as_slice.result.now c.pick-place.result c.get-picked.result
          (subst (All (IsCandidateAt graph blocks)) (sym c.as_slice.ensures) at.each)
          (ap (λ (list : List Candidate). slice_get list c.pick-place.result) c.as_slice.ensures ∙ c.get-picked.ensures));
    }
