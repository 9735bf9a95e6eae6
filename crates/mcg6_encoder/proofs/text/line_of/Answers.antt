use Rattle.std.proofs.Common.{◌∙◌, ◌∷◌, ◌++◌, [], List, ℕ, ap}
use Rattle.mcg6_encoder.proofs.Beneath.{graph6_beneath}
use Rattle.mcg6_encoder.proofs.text.line_of.Goals as goal

pub returns : goal.returns
returns c =
    c.in_ok-push.ensures.items
    ∙ ap (λ (text : List ℕ). text ++ 10 ∷ []) (c.in_ok-line.ensures.text ∙ graph6_beneath _ _ c.in_ok-simple.ensures)
