-- The three answers to a tree exclude one another: a graph with a reason is not matching covered,
-- and a refused tree is not a derivation.
use Rattle.std.proofs.Common.{◌≡◌, ◌↔◌, refl, arith}
use Rattle.graph_core.proofs.Common.{covered_perfect, Graph, IsMultigraph, reason_of}
use Rattle.graph_core.specs.Covered
use Rattle.graph_core.specs.declared.verdict.Reason.{Reason}
use Rattle.tree_core.proofs.Common.{IsDerivation, Shape}
use Rattle.tree_check.proofs.FirstRefusals.{refused-not_derived}
use Rattle.tree_check.specs.Common.{IsJudgement, why_of}
use Rattle.tree_check.specs.declared.judgement.Judgement.{Judgement}
use Rattle.tree_check.specs.declared.judgement.Judgement.TheVariants.{Accepted, NotCovered, Refused}

-- a graph with a reason is not covered
reason-not_covered : (g : Graph) (r : Covered.Reason) → IsMultigraph g → Covered.IsReason g r → Covered.IsCovered g → ⊥
reason-not_covered g Covered.Small is reason covered = let two = covered.two in absurd (omega arith)
reason-not_covered g (Covered.Parted a b) is reason covered = grind arith
reason-not_covered g (Covered.Unmatched s) is reason covered = reason.2 (covered_perfect g is.ends covered)
reason-not_covered g (Covered.Unallowed e) is reason covered =
    let least = reason.3 in
    least.without (covered.allowed e least.within (is.no_loop e least.within))

pub accepted-exactly : (g : Graph) (t : Shape) (answer : Judgement) → IsMultigraph g → IsJudgement g t answer → (answer ≡ Accepted) ↔ IsDerivation g t
accepted-exactly g t Accepted is right = (λ e. right, λ d. refl)
accepted-exactly g t (NotCovered reason) is right = (λ e. absurd (grind (arith, e)), λ d. absurd (reason-not_covered g (reason_of reason) is right d.covered))
accepted-exactly g t (Refused node why) is right = (λ e. absurd (grind (arith, e)), λ d. absurd (refused-not_derived g is.ends t node (why_of why) d right))

pub not_covered-exactly : (g : Graph) (t : Shape) (answer : Judgement) → IsMultigraph g → IsJudgement g t answer → ((reason : Reason) × (answer ≡ NotCovered reason)) ↔ (Covered.IsCovered g → ⊥)
not_covered-exactly g t Accepted is right = (λ r covered. absurd (grind (arith, r.1)), λ none. absurd (none right.covered))
not_covered-exactly g t (NotCovered reason) is right = (λ r. reason-not_covered g (reason_of reason) is right, λ none. (reason, refl))
not_covered-exactly g t (Refused node why) is right = (λ r covered. absurd (grind (arith, r.1)), λ none. absurd (none right.covered))
