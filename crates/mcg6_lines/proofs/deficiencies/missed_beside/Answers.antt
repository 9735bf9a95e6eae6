use Rattle.allowed_edges.proofs.from_counting.Common.{◌≤◌, ◌-◌, ℕ, List, length, count_by, ap, sym, ◌∙◌, arith, count_mem_length, is_odd, mem, none}
use Rattle.graph_core.proofs.Common.{berge_bound}
use Rattle.definition_laws.proofs.from_barrier_kit.CutLists.{odd_parts-counted}
use Rattle.mcg6_lines.proofs.MissedVertices.{excess, odd_parts}
use Rattle.mcg6_lines.proofs.deficiencies.missed_beside.Goals as goal

within : (c : goal.After-len) → (c.len.result ≤ c.count_odd.result) × (c.count_odd.result - c.len.result ≤ c.args.g.now.order)
within c =
    let is = c.keeps_limits.ensures.multigraph.ends in
    let odd = c.count_odd.ensures ∙ odd_parts c.as_slice.result.now ∙ ap (λ (parts : List (List ℕ)). count_by (λ part. is_odd (length part)) parts) (c.as_slice.ensures ∙ c.in_ok-parts.ensures) ∙ odd_parts-counted c.args.g.now (mem c.args.berge) in
    let long = count_mem_length c.args.g.now.order c.args.berge c.requires.3 ∙ sym c.len.ensures in
    let all = excess c.args.g.now (mem c.args.berge) c.count_odd.result c.len.result _ is odd long (λ n mn. berge_bound c.args.g.now none (mem c.args.berge) n is mn) c.requires.4.0 c.requires.4.1 c.requires.4.2 in
    (all.0, all.1)

pub overflow_sub-missed : goal.overflow_sub-missed
overflow_sub-missed c = (within c).0

pub overflow_cast-result : goal.overflow_cast-result
overflow_cast-result c = let few = (within c).1 in let most = c.keeps_limits.ensures.vertices in omega arith

pub returns : goal.returns
returns c =
    let is = c.keeps_limits.ensures.multigraph.ends in
    let odd = c.count_odd.ensures ∙ odd_parts c.as_slice.result.now ∙ ap (λ (parts : List (List ℕ)). count_by (λ part. is_odd (length part)) parts) (c.as_slice.ensures ∙ c.in_ok-parts.ensures) ∙ odd_parts-counted c.args.g.now (mem c.args.berge) in
    let long = count_mem_length c.args.g.now.order c.args.berge c.requires.3 ∙ sym c.len.ensures in
    (excess c.args.g.now (mem c.args.berge) c.count_odd.result c.len.result _ is odd long (λ n mn. berge_bound c.args.g.now none (mem c.args.berge) n is mn) c.requires.4.0 c.requires.4.1 c.requires.4.2).2
