-- Two reasons why a graph is not covered have the same line, but for the Berge set.
-- Idea: the reasons are one but for the set, so only the numbers after `berge` can differ.
use Rattle.std.proofs.Common.{◌≡◌, ℕ, List, ◌++◌, inl, refl, codes, arith}
use Rattle.graph_core.proofs.Common.{IsReason, Graph, reason_of}
use Rattle.graph_core.specs.declared.verdict.Reason.{Reason}
use Rattle.graph_core.specs.declared.verdict.Reason.TheVariants.{Small, Parted, Unmatched, Unallowed}
use Rattle.graph_core.specs.declared.verdict.Verdict.TheVariants.{NotCovered}
use Rattle.mcg6_lines.proofs.from_definition_laws.Reasons.{reason-one}
use Rattle.mcg6_lines.specs.from_definition_laws.Words.{without_berge}
use Rattle.mcg6_lines.specs.from_report_text.Common.{numbers_text, verdict_text}
use Rattle.bench_top.specs.Fixed.{DifferAtMostIn}
use Rattle.bench_reports.specs.from_bench_outcomes.Common.{MayBeBerge, Uncovered}
use Rattle.bench_reports.specs.from_bench_outcomes.declared.status.Status.{Status}
use Rattle.bench_top.proofs.AlikeTexts.{alike-along, alike-before, alike-behind, alike-lists}

-- for reasons that are one but for the Berge set
told-alike : (fact : List ℕ → Type 0) (q r : Reason) → without_berge (reason_of q) ≡ without_berge (reason_of r) →
    ((s : List ℕ) → q ≡ Unmatched s → fact s) → ((s : List ℕ) → r ≡ Unmatched s → fact s) → DifferAtMostIn fact (verdict_text (NotCovered q)) (verdict_text (NotCovered r))
unfolding verdict_text
told-alike fact (Unmatched s) (Unmatched t) same first second =
    alike-before fact (codes "\n") (codes "covered no" ++ (codes " berge" ++ numbers_text s)) (codes "covered no" ++ (codes " berge" ++ numbers_text t))
    (alike-behind fact (codes "covered no") (codes " berge" ++ numbers_text s) (codes " berge" ++ numbers_text t)
    (alike-behind fact (codes " berge") (numbers_text s) (numbers_text t) (alike-lists fact s t (first s refl) (second t refl))))
told-alike fact Small Small same first second = inl refl
told-alike fact (Parted a b) (Parted c d) same first second = grind arith
told-alike fact (Unallowed e) (Unallowed f) same first second = grind arith
told-alike fact q r same first second = absurd (cc same)

pub reason-alike : (g : Graph) (q r : Reason) → IsReason g (reason_of q) → IsReason g (reason_of r) → DifferAtMostIn (MayBeBerge g) (verdict_text (NotCovered q)) (verdict_text (NotCovered r))
reason-alike g q r one two = grind (arith, told-alike (MayBeBerge g) q r (reason-one g (reason_of q) (reason_of r) one two), reason-one g (reason_of q) (reason_of r) one two)

-- the same of what is reported on a graph that is not covered
pub uncovered-alike : (g : Graph) (first second : Status) (output other : List ℕ) → Uncovered g first output → Uncovered g second other → DifferAtMostIn (MayBeBerge g) output other
uncovered-alike g first second output other one two = grind (arith, alike-along, reason-alike)
