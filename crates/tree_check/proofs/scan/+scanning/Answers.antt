use Rattle.std.proofs.Common.{ℕ, rules, arith, ◌+◌, ◌*◌, ◌≤◌, ◌≡◌, ◌∙◌, length, sym, subst}
use Rattle.graph_core.proofs.Common.{Graph}
use Rattle.tree_core.proofs.Common.{Fits, IsCutAt, cut, kept_at, merged_at, shape_of}
use Rattle.tree_core.specs.declared.tallies.Tally.{Tally}
use Rattle.tree_check.specs.Common.{IsScannedAt}
use Rattle.tree_check.specs.declared.judgement.Scanned.{Scanned}
use Rattle.tree_check.specs.declared.judgement.Scanned.TheVariants as scanned
use Rattle.tree_check.proofs.Scanning.{few-beside, few-kept, few-merged, passed-both, refused-kept, refused-merged}
use Rattle.tree_check.proofs.scan.+scanning.Goals as goal
use Rattle.tree_check.proofs.scan.+scanning.Goals.{scan_cut-In_ok-node, scan_cut-In_ok-node-2}

-- the shore passed the rules of a cut
is_cut : (t : ℕ) (c : scan_cut-In_ok-node t) → IsCutAt c.args.p.now.graph c.args.p.now.blocks c.args.shore
is_cut t c = c.in_ok-why.ensures.none c.in_default.is

-- what is found of the tree of the side that is kept
kept : (t : ℕ) (c : scan_cut-In_ok-node t) (found : Scanned) → c.in_ok-node.field-0 ≡ found → IsScannedAt c.args.p.now.graph (kept_at c.args.p.now.graph.order c.args.p.now.blocks c.args.shore) (shape_of c.args.kept.now) (c.args.node + 1) found
kept t c found is = grind arith

-- it has few leaves
few : (t : ℕ) (c : scan_cut-In_ok-node t) (tally : Tally) → c.in_ok-node.field-0 ≡ scanned.Passed tally → 2 * tally.leaves + 2 ≤ length c.args.p.now.blocks
few t c tally is =
    few-kept c.args.p.now.graph c.args.p.now.blocks c.args.shore c.keeps_place.ensures.limits.multigraph.ends c.keeps_place.ensures.partition (is_cut t c) (shape_of c.args.kept.now) (c.args.node + 1) tally
    (kept t c (scanned.Passed tally) is)

-- what is found of the tree of the side that is merged
merged : (t : ℕ) (c : scan_cut-In_ok-node-2 t) (found : Scanned) → c.in_ok-node-2.field-0 ≡ found → IsScannedAt c.args.p.now.graph (merged_at c.args.p.now.graph.order c.args.p.now.blocks c.args.shore) (shape_of c.args.merged.now) (c.args.node + 2 * c.in-Passed.tally.leaves) found
merged t c found is = grind arith

pub scan_cut-returns-in-Refused-clause-scanned : goal.scan_cut-returns-in-Refused-clause-scanned
scan_cut-returns-in-Refused-clause-scanned t c = grind (arith, refused-kept, is_cut)

pub scan_cut-overflow_mul-next : goal.scan_cut-overflow_mul-next
scan_cut-overflow_mul-next t c =
    let few = few t (goal.at.scan_cut-overflow_mul-next t c).In_ok-node c.in-Passed.tally c.in-Passed.is in
    let bound = c.requires.few in
    omega arith

pub scan_cut-overflow_add-next : goal.scan_cut-overflow_add-next
scan_cut-overflow_add-next t c =
    let few = few t (goal.at.scan_cut-overflow_add-next t c).In_ok-node c.in-Passed.tally c.in-Passed.is in
    let bound = c.requires.few in
    omega arith

pub scan_cut-scan_at-requires-2 : goal.scan_cut-scan_at-requires-2
scan_cut-scan_at-requires-2 t c =
    let at = (goal.at.scan_cut-scan_at-requires-2 t c).In_ok-node in
    let few = few-beside c.args.p.now.graph c.args.p.now.blocks c.args.shore c.keeps_place.ensures.limits.multigraph.ends c.keeps_place.ensures.partition (is_cut t at) (shape_of c.args.kept.now) (c.args.node + 1) c.in-Passed.tally (kept t at (scanned.Passed c.in-Passed.tally) c.in-Passed.is) (length c.in_ok-beside.beside.blocks) c.in_ok-beside.ensures.length in
    let bound = c.requires.few in
    let falls = c.decreases in
    (first_of (omega arith, search rules), (c.in_ok-beside.ensures.graph ∙ c.requires.graph ∙ sym (c.in_ok-node.ensures.same ∙ at.in_ok-why.ensures.same), (subst (λ (h : Graph). Fits h.order (shape_of c.args.merged.now)) (sym c.in_ok-beside.ensures.graph) c.requires.fits.2, omega arith)))

pub scan_cut-together-requires-clause-few : goal.scan_cut-together-requires-clause-few
scan_cut-together-requires-clause-few t c =
    let at = (goal.at.scan_cut-together-requires-clause-few t c).In_ok-node in
    let inside = few t at c.in-Passed.tally c.in-Passed.is in
    let outside = few-merged c.args.p.now.graph c.args.p.now.blocks c.args.shore c.keeps_place.ensures.limits.multigraph.ends c.keeps_place.ensures.partition (is_cut t at) (shape_of c.args.merged.now) (c.args.node + 2 * c.in-Passed.tally.leaves) c.in-Passed-2.tally (merged t (goal.at.scan_cut-together-requires-clause-few t c).In_ok-node-2 (scanned.Passed c.in-Passed-2.tally) c.in-Passed-2.is) in
    let bound = c.requires.few in
    omega arith

pub scan_cut-returns-in-Refused-2-clause-scanned : goal.scan_cut-returns-in-Refused-2-clause-scanned
scan_cut-returns-in-Refused-2-clause-scanned t c =
    let at = (goal.at.scan_cut-returns-in-Refused-2-clause-scanned t c).In_ok-node in
    refused-merged c.args.p.now.graph c.args.p.now.blocks c.args.shore (shape_of c.args.kept.now) (shape_of c.args.merged.now) c.args.node (is_cut t at) c.in-Passed.tally
    (kept t at (scanned.Passed c.in-Passed.tally) c.in-Passed.is) c.in-Refused-2.node c.in-Refused-2.why
    (merged t (goal.at.scan_cut-returns-in-Refused-2-clause-scanned t c).In_ok-node-2 (scanned.Refused c.in-Refused-2.node c.in-Refused-2.why) c.in-Refused-2.is)

pub scan_cut-returns-in-Passed-2-clause-scanned : goal.scan_cut-returns-in-Passed-2-clause-scanned
scan_cut-returns-in-Passed-2-clause-scanned t c =
    let at = (goal.at.scan_cut-returns-in-Passed-2-clause-scanned t c).In_ok-node in
    subst (λ (s : Tally). IsScannedAt c.args.p.now.graph c.args.p.now.blocks (cut c.args.shore (shape_of c.args.kept.now) (shape_of c.args.merged.now)) c.args.node (scanned.Passed s)) (sym c.together.ensures)
    (passed-both c.args.p.now.graph c.args.p.now.blocks c.args.shore (shape_of c.args.kept.now) (shape_of c.args.merged.now) c.args.node (is_cut t at) c.in-Passed.tally
    (kept t at (scanned.Passed c.in-Passed.tally) c.in-Passed.is) c.in-Passed-2.tally
    (merged t (goal.at.scan_cut-returns-in-Passed-2-clause-scanned t c).In_ok-node-2 (scanned.Passed c.in-Passed-2.tally) c.in-Passed-2.is))
