use Rattle.std.proofs.Common.{List, sym, subst, ap, ◌∙◌, ℤ, pos, replicate}
use Rattle.flow_core.specs.Common.{IsFlow}
use Rattle.flow_core.proofs.Pushing.{IsFlow-zeros}
use Rattle.flow_core.proofs.flow.Flow.zero.Goals as goal

pub returns-clause-flow : goal.returns-clause-flow
returns-clause-flow c = λ source sink.
    subst (λ (amounts : List ℤ). IsFlow c.args.net.now source sink amounts 0)
    (sym (c.in_ok-zeros.ensures ∙ ap (λ n. replicate n (pos 0)) c.size.ensures)) (IsFlow-zeros c.args.net.now source sink)
