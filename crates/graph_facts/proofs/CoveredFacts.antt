-- What the search for a covered graph finds, by the definitions. Idea: a perfect matching has the
-- most edges possible, so if there is one, each maximum matching is perfect.
use Rattle.allowed_edges.proofs.from_counting.Common.{◌≡◌, subst, Result, Err, Set, none}
use Rattle.graph_core.proofs.Common.{Graph, HasPerfect, IsGraph, IsMaximum, IsPerfect, IsReason, reason_of, none_missed-perfect}
use Rattle.graph_core.specs.declared.verdict.Reason.{Reason}
use Rattle.allowed_edges.proofs.AllowedPartners.{maximum-perfect}

-- where there is a perfect matching, a maximum one is perfect
pub maximum_is_perfect : (g : Graph) (m : Set) → IsGraph g → IsMaximum g none m → HasPerfect g none → IsPerfect g none m
maximum_is_perfect g m is maximum perfect = none_missed-perfect g none m maximum.is ((maximum-perfect g m is maximum).1 perfect)

-- the reason that is returned is the one that was found
pub told_reason : {A : Type 0} (g : Graph) (r why : Reason) → ◌≡◌ {A = Result A Reason} (Err r) (Err why) → IsReason g (reason_of r) → IsReason g (reason_of why)
told_reason g r why same is = let e : r ≡ why = cc in subst (λ (w : Reason). IsReason g (reason_of w)) e is
