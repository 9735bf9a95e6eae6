use Rattle.allowed_edges.proofs.from_counting.Common.{◌≤◌, Bool, true, false, arith, refl, sym, ◌↔◌, IsTrue, true≢false, IfOk-weaker, Within, none}
use Rattle.graph_core.proofs.Common.{Graph, HasPerfect, IsBicritical, IsMultigraph, size}
use Rattle.mcg6_lines.specs.Selecting.{Decides}
use Rattle.mcg6_lines.specs.declared.query.Property.TheVariants.{Bicritical}
use Rattle.mcg6_lines.proofs.bicritical.is_bicritical.Goals as goal

-- a graph with an edge and a perfect matching
decided : (g : Graph) (holds : Bool) → IsMultigraph g → 1 ≤ size g → HasPerfect g none → (IsTrue holds ↔ IsBicritical g) → Decides g Bicritical holds
decided g true is some matched critical =
    let within : Within (size g) 1 = (omega arith, some) in
    let ends = is.ends 1 within in
    let different = is.no_loop 1 within in
    record { two = grind (arith, different); matched = matched; critical = critical.0 refl }
decided g false is some matched critical = λ has. absurd (true≢false (sym (critical.1 has.critical)))

pub returns-in_ok-rows-in-Some : goal.returns-in_ok-rows-in-Some
returns-in_ok-rows-in-Some c =
    let perfect = rw c.empty.ensures at (c.in_ok-matching.ensures.perfect c.in-Some.matching c.in-Some.is) in
    let some : 1 ≤ size c.args.g.now = grind (arith, c.if-size-eq0.false, c.size.ensures.is) in
    IfOk-weaker c.is_critical.result _ _ (λ holds is. decided c.args.g.now holds c.keeps_limits.ensures.multigraph some (_, perfect) is) c.is_critical.ensures
