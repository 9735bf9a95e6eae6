use Rattle.allowed_edges.proofs.from_counting.Common.{◌≡◌, ℕ, ◌<◌, ◌+◌, ◌++◌, ◌∷◌, [], List, length, map, take, get_or, ap, ap₂, sym, ◌∙◌, arith, subst, append_assoc, map_more, get_or_append_left, get_or_from_slice_get, IsRisingIn}
use Rattle.plain_graph.proofs.Subsets.{with_next-is}
use Rattle.plain_graph.proofs.edge_sets.add_with_next.Goals as goal

pub loop-i-preserved : goal.loop-i-preserved
loop-i-preserved c =
    let all = c.args.sets.now in
    let next : List ℕ → List ℕ = λ xs. xs ++ (c.args.before + 1) ∷ [] in
    let done = all ++ map next (take c.loop-i.i all) in
    let l : c.loop-i.i < length all = omega (arith, c.len-i-end.ensures) in
    let got : get_or all c.loop-i.i [] ≡ c.get.result = sym (get_or_append_left all (map next (take c.loop-i.i all)) [] c.loop-i.i l) ∙ ap (λ xss. get_or xss c.loop-i.i []) (sym c.loop-i.invariant)
    ∙ get_or_from_slice_get c.loop-i.sets c.loop-i.i c.get.result [] c.get.ensures in
    let below = subst (IsRisingIn c.args.before) got (c.requires.below c.loop-i.i [] l) in
    let more = with_next-is c.args.before 128 c.get.result c.with-more.result (omega arith) below c.rises.ensures c.with-more.ensures in
    c.in_ok-push.ensures.ok
    ∙ ap₂ (λ xss xs. xss ++ xs ∷ []) c.loop-i.invariant (more ∙ ap next (sym got))
    ∙ append_assoc all (map next (take c.loop-i.i all)) (next (get_or all c.loop-i.i []) ∷ [])
    ∙ ap (λ xss. all ++ xss) (sym (map_more next all c.loop-i.i [] l))
