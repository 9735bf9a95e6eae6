use Rattle.vset_core.proofs.from_counting.Common.{◌≡◌, ◌&&◌, ℕ, Bool, [], ◌∷◌, true, length, not, ap, sym, ◌∙◌, subst, arith, not_from_false, and_false, and_from, and_parts, count_more, not-true, set-narrower, mem}
use Rattle.graph_core.proofs.FloodedComponents.{flood-joined}
use Rattle.graph_core.proofs.FoundComponents.{AreFirst, parts_start, parts_step, parts_end}
use Rattle.graph_core.proofs.search.parts_without.Goals.{After-minus-left-in-Some}
use Rattle.graph_core.proofs.search.parts_without.Goals as goal

pub flooding-init : goal.flooding-init
flooding-init c = λ g is are.
    subst (λ parts. AreFirst g (mem c.args.removed) (mem c.minus-left.result) parts) (sym c.in_ok-parts.ensures.items)
    (parts_start g (mem c.args.removed) is (mem c.minus-left.result)
    (λ v l. let p = and_parts (mem c.full.result v) (not (mem c.args.removed v)) (sym (c.minus-left.ensures v) ∙ l) in
    let w = (c.full.ensures.members v).0 p.0 in let e = are.one_each in ((omega arith, omega arith), not-true (mem c.args.removed v) p.1))
    (λ v w out. let e = are.one_each in c.minus-left.ensures v ∙ and_from (mem c.full.result v) (not (mem c.args.removed v)) ((c.full.ensures.members v).1 (omega arith)) (not_from_false (mem c.args.removed v) out)))

-- what is left afterwards was left before
smaller : (c : After-minus-left-in-Some) → (v : ℕ) → mem c.minus-left-in-Some.result v ≡ true → mem c.flooding.left v ≡ true
smaller c v l = (and_parts (mem c.flooding.left v) (not (mem c.flooded-part.result.found v)) (sym (c.minus-left-in-Some.ensures v) ∙ l)).0

-- the part is what is no longer left
gone : (c : After-minus-left-in-Some) → (v : ℕ) → (mem c.flooding.left v && not (mem c.minus-left-in-Some.result v)) ≡ mem c.flooded-part.result.found v
gone c v = taken (mem c.flooding.left v) (mem c.flooded-part.result.found v) (mem c.minus-left-in-Some.result v) (c.minus-left-in-Some.ensures v) (c.flooded-part.ensures.inside v)
  where
    taken : (left part rest : Bool) → rest ≡ (left && not part) → (part ≡ true → left ≡ true) → (left && not rest) ≡ part
    taken left part rest e h = grind arith

-- the first vertex that is left goes, so that fewer are left
pub flooding-smaller : goal.flooding-smaller
flooding-smaller c =
    let at = (goal.at.flooding-smaller c).After-minus-left-in-Some in
    let q = c.requires.graph in
    let l = c.in-Some.ensures.some.member in
    let root = c.in-Some.least in
    let here = ((c.flooding.invariant q.0 q.1 q.2).vertices root l).0 in
    let found = c.flooded-part.ensures.start root (ap (λ xs. mem xs root) c.one.ensures ∙ own root) in
    let off = c.minus-left-in-Some.ensures root ∙ ap (λ b. mem c.flooding.left root && not b) found ∙ and_false (mem c.flooding.left root) in
    let e = q.2.one_each in
    let less = count_more (length c.args.rows.now) (mem c.minus-left-in-Some.result) (mem c.flooding.left) (smaller at) root (omega arith) off l in
    omega arith
  where
    own : (v : ℕ) → mem (v ∷ []) v ≡ true
    own v = grind arith

pub flooding-preserved : goal.flooding-preserved
flooding-preserved c = λ g is are.
    let at = (goal.at.flooding-preserved c).After-minus-left-in-Some in
    let old = c.flooding.invariant g is are in
    let part = c.flooded-part.result.found in
    let root = c.in-Some.least in
    subst (λ parts. AreFirst g (mem c.args.removed) (mem c.minus-left-in-Some.result) parts) (sym c.in_ok-push.ensures.items)
    (parts_step g (mem c.args.removed) is (mem c.flooding.left) (mem c.minus-left-in-Some.result) c.flooding.parts.items root old c.in-Some.ensures.some.member c.in-Some.ensures.some.before (smaller at)
    (λ v w. gone at v ∙ flood-joined g is (mem c.flooding.left) (mem c.flooded-part.result.inner) (mem part) root c.args.rows.now c.one.result are (λ v l. (old.vertices v l).0) c.in-Some.ensures.some.member c.one.ensures c.flooded-part.ensures v)
    part (set-narrower _ g.order part c.rises.ensures (λ v m. (old.vertices v (c.flooded-part.ensures.inside v m)).0.1))
    (λ v w. sym (gone at v)))

pub returns : goal.returns
returns c = grind (arith, parts_end, mem)
