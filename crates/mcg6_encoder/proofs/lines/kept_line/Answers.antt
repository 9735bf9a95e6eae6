use Rattle.std.proofs.Common.{◌≡◌, ◌∙◌, [], refl, ap, sym, slice_index_or}
use Rattle.graph_core.specs.from_line_text.Common.{lines_of}
use Rattle.graph_core.proofs.from_line_text.LineCuts.{lines_of-nil}
use Rattle.mcg6_encoder.proofs.lines.kept_line.Goals as goal

pub returns : goal.returns
returns c =
    let none : lines_of c.passing.rest.now ≡ [] = ap lines_of (c.in_default.ensures.none.0 refl) ∙ lines_of-nil in
    sym (c.passing.invariant ∙ ap (λ ls. slice_index_or ls c.passing.before []) none)
