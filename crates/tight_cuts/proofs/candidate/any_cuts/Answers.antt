use Rattle.graph_core.proofs.from_counting.Common.{sym, ap, ◌∙◌, list_any, mem}
use Rattle.graph_core.proofs.Common.{in_cut}
use Rattle.tight_cuts.specs.Common.{cuts}
use Rattle.tight_cuts.specs.declared.candidate.Candidate.{Candidate}
use Rattle.tight_cuts.proofs.CandidateLists.{cuts-items}
use Rattle.tight_cuts.proofs.candidate.any_cuts.Goals as goal

pub returns : goal.returns
returns c =
    c.any_in_cut.ensures ∙ ap (list_any (λ (item : Candidate). in_cut c.args.g.now (mem item.shore) c.args.e)) c.deref.ensures.value
    ∙ sym (cuts-items c.args.g.now c.args.e c.list.inside.items.items) ∙ ap (list_any (cuts c.args.g.now c.args.e)) c.list.view_is
