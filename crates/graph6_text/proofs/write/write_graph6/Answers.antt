use Rattle.std.proofs.Common.{sym, subst, List, ℕ, arith}
use Rattle.graph6_text.specs.Common.{ReadsBack}
use Rattle.graph6_text.proofs.ReadBack.{reads_back}
use Rattle.graph6_text.proofs.write.write_graph6.Goals as goal

pub returns-clause-text : goal.returns-clause-text
returns-clause-text c = grind arith

pub returns-clause-reads_back : goal.returns-clause-reads_back
returns-clause-reads_back c =
    subst (λ (text : List ℕ). ReadsBack text c.args.g.now) (sym (returns-clause-text c)) (reads_back c.args.g.now c.keeps_limits.ensures)
