use Rattle.graph_core.proofs.from_counting.Common.{◌==◌, ◌&&◌, length, count, mem, Set}
use Rattle.graph_core.proofs.Common.{Graph}
use Rattle.match_search.specs.Common.{HoldsMatching, IsSized, MayBeExposed, numbers, AreAlike}
use Rattle.match_search.proofs.best.last_frame.Given as goal

abbrev pub invariant-augmenting : goal.invariant-augmenting
invariant-augmenting l = record {
  held : (g : Graph) (r f : Set) → HoldsMatching g r f l.initial.instance l.initial.mate → (m : Set) × HoldsMatching g r m l.instance l.mate;
  sized : IsSized (length l.initial.instance.rows.items) l.forest;
  alike : AreAlike l.initial.instance l.instance;
  exposed : MayBeExposed l.instance.left l.mate l.exposed;
}

-- each augmentation leaves two exposed vertices less
abbrev pub decreases-augmenting : goal.decreases-augmenting
decreases-augmenting l = count (length l.initial.instance.rows.items) (λ v. mem l.initial.instance.left v && (numbers l.mate v == 0))
