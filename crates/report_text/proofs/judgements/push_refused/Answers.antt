use Rattle.std.proofs.Common.{◌≡◌, ℕ, List, ◌++◌, append_assoc, arith}
use Rattle.report_text.proofs.judgements.push_refused.Goals as goal

-- five pieces appended one after the other
pieces : (t a b c d e p q r s u : List ℕ) → p ≡ t ++ a → q ≡ p ++ b → r ≡ q ++ c → s ≡ r ++ d → u ≡ s ++ e → u ≡ t ++ ((((a ++ b) ++ c) ++ d) ++ e)
pieces t a b c d e p q r s u first second third fourth fifth = grind (arith, append_assoc)

pub returns : goal.returns
returns c = pieces _ _ _ _ _ _ _ _ _ _ _ c.in_ok-push_numbered.ensures c.in_ok-push_numbered-2.ensures c.in_ok-push_numbered-3.ensures c.in_ok-push_shown.ensures c.in_ok-write.ensures.bytes
