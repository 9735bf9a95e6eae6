use Rattle.allowed_edges.proofs.from_counting.Common.{◌≡◌, ℕ, All, List, arith, IfOk-weaker, IsRisingIn, mem}
use Rattle.graph_core.proofs.Common.{components}
use Rattle.mcg6_lines.specs.Elementary.{elementary_parts}
use Rattle.mcg6_lines.proofs.Components.{parts_rise}
use Rattle.mcg6_lines.proofs.elementary_lines.parts_of.Goals as goal

pub returns-clause-is : goal.returns-clause-is
unfolding elementary_parts
returns-clause-is c = grind arith

pub returns-clause-rising : goal.returns-clause-rising
returns-clause-rising c =
    IfOk-weaker c.components_without.result (λ (parts : List (List ℕ)). parts ≡ components c.in_ok-allowed.allowed (mem c.empty.result)) (λ (parts : List (List ℕ)). All (IsRisingIn c.args.g.now.order) parts)
    (λ parts is. parts_rise c.args.g.now c.in_ok-allowed.allowed (mem c.empty.result) parts c.in_ok-allowed.ensures is) c.components_without.ensures
