use Rattle.graph_core.proofs.from_counting.Common.{List, ℕ, arith, sym, ap, ◌∙◌, none-some, count_complement, mem}
use Rattle.graph_core.proofs.Common.{block_count}
use Rattle.tree_check.proofs.CutRules.{breaks-some, even-count, is-cut, nontrivial-shown, odd-count, union-at}
use Rattle.tree_check.specs.declared.judgement.Why.TheVariants.{Even}
use Rattle.tree_check.proofs.rules.cut_fault.Goals.{then-inside-lt3-via-then-inside-lt3, then-inside-lt3-via-else-inside-lt3+then-len-inside}
use Rattle.tree_check.proofs.rules.cut_fault.Goals as goal

pub returns-then-not-is_union-clause-some : goal.returns-then-not-is_union-clause-some
returns-then-not-is_union-clause-some c why is = grind arith

pub returns-then-inside-eq0-clause-some : goal.returns-then-inside-eq0-clause-some
returns-then-inside-eq0-clause-some c why is = grind (arith, breaks-some c.args.p.now.graph c.args.p.now.blocks (mem c.args.shore) Even why is, union-at c.args.p.now.graph, even-count)

pub returns-then-inside-lt3-clause-some : goal.returns-then-inside-lt3-clause-some
returns-then-inside-lt3-clause-some c why is =
    let blocks = c.partition-blocks in
    let counted = c.blocks_in-inside.ensures ∙ ap (λ (bs : List (List ℕ)). block_count bs (mem c.args.shore)) blocks.ensures.blocks in
    grind (arith, breaks-some, union-at, odd-count, count_complement, then-inside-lt3-via-then-inside-lt3, then-inside-lt3-via-else-inside-lt3+then-len-inside)

pub crossing_at-requires-clause-union : goal.crossing_at-requires-clause-union
crossing_at-requires-clause-union c = grind arith

pub crossing_at-requires-clause-odd : goal.crossing_at-requires-clause-odd
crossing_at-requires-clause-odd c = odd-count _ _ (c.blocks_in-inside.ensures ∙ ap (λ (bs : List (List ℕ)). block_count bs (mem c.args.shore)) c.partition-blocks.ensures.blocks) c.if-inside-eq0.false

pub returns-in-Some-clause-some : goal.returns-in-Some-clause-some
returns-in-Some-clause-some c why is = grind (arith, breaks-some, union-at, odd-count, nontrivial-shown)

pub returns-in-None-clause-none : goal.returns-in-None-clause-none
returns-in-None-clause-none c none = grind (arith, is-cut, nontrivial-shown)

pub returns-in-Some-clause-none : goal.returns-in-Some-clause-none
returns-in-Some-clause-none c none = absurd (none-some _ (sym none))
