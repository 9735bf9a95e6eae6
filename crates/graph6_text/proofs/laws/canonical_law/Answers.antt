use Rattle.graph6_text.proofs.Canonical.{canonical}
use Rattle.graph6_text.proofs.laws.canonical_law.Goals as goal

pub returns : goal.returns
returns c = canonical
