use Rattle.std.proofs.Common.{append_assoc, ap, ◌∙◌, Vec, ℕ, Global}
use Rattle.report_text.specs.Common.{stuck_text}
use Rattle.report_text.proofs.scripts.replay_stuck.Goals as goal

pub returns : goal.returns
unfolding stuck_text
returns c = ap (λ (v : Vec ℕ Global). v.items) c.into_bytes.ensures.value ∙ (c.in_ok-text.ensures.ok ∙ simp append_assoc)
