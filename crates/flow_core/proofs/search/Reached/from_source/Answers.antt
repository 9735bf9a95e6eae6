use Rattle.vset_core.proofs.from_counting.Common.{◌==◌, ◌||◌, ap, ◌∙◌, mem}
use Rattle.flow_core.proofs.SearchTrees.{IsSetOfVisited-root}
use Rattle.flow_core.proofs.search.Reached.from_source.Goals as goal

pub returns-clause-seen : goal.returns-clause-seen
returns-clause-seen c =
    rw (c.in_ok-push.ensures.items, c.new-visits.ensures.items)
    (IsSetOfVisited-root c.args.net.now _ c.with.result c.requires.source (λ v. c.with.ensures v ∙ ap (λ set. (mem set v || c.args.source == v)) c.empty.ensures))
