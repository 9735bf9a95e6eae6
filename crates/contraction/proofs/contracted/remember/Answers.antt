use Rattle.graph_core.proofs.from_counting.Common.{ℕ, length, Vec, Global, rising_list}
use Rattle.graph_core.proofs.Common.{has_ends, graph_of}
use Rattle.contraction.proofs.QuotientPairs.{ends_differ}
use Rattle.contraction.proofs.PairLists.{kept-more}
use Rattle.contraction.proofs.contracted.remember.Goals as goal

pub edges_with-requires-clause-apart : goal.edges_with-requires-clause-apart
edges_with-requires-clause-apart c = ends_differ 0 c.args.pairs.now c.loop-pair.pair-index (record { a = 0; b = 0 }) c.requires.apart c.loop-pair-test.true

pub loop-pair-preserved : goal.loop-pair-preserved
loop-pair-preserved c =
    let more = kept-more (λ (v : Vec ℕ Global). v.items) (λ (k : ℕ × ℕ). rising_list (length c.args.ends.now) (has_ends (graph_of 0 c.args.ends.now) k.0 k.1)) c.args.pairs.now c.loop-pair.pair-index (record { a = 0; b = 0 }) c.loop-pair.kept.entries c.insert.new.self.entries c.in_ok-edges.edges c.requires.once c.loop-pair-test.true c.loop-pair.invariant.keys c.loop-pair.invariant.edges c.in_ok-insert.ensures.entries c.in_ok-edges.ensures in
    record { keys = more.0; edges = more.1 }
