use Rattle.std.proofs.Common.{List, ℕ, ◌++◌, ap₂, ◌∙◌}
use Rattle.report_text.proofs.commenting.commented.Goals as goal

pub returns : goal.returns
returns c = c.in_ok-extend_from_slice.ensures.items ∙ ap₂ (λ (a b : List ℕ). a ++ b) c.in_ok-report.ensures.items c.as_bytes.ensures.value
