use Rattle.std.proofs.Common.{◌≡◌, ℕ, List, [], ◌∷◌, ◌++◌, append-nil, codes, refl, rules, decimal}
use Rattle.outside.specs.declared.sink.SinkFailed.{SinkFailed}
use Rattle.front_words.specs.NodePlaces.{spaced_numbers}
use Rattle.front_words.proofs.Sayings.{says_passed, says_step}
use Rattle.front_words.proofs.node_places.+say_numbers.Goals as goal

-- the first number, as the pieces of a message have it, and the others
numbers-first : (numbers others : List ℕ) (number : ℕ) → numbers ≡ number ∷ others → spaced_numbers numbers ≡ (codes " " ++ (decimal number ++ [])) ++ spaced_numbers others
numbers-first numbers others number is = rw (is, append-nil (decimal number)) refl

pub returns : goal.returns
returns g t c =
    says_step {F = SinkFailed} g.K.Sink.written g.K.Sink.writes g.K.Sink.faults _ _ _ _ _ _ _ (grind (rules, numbers-first, c.in-Some.ensures.some)) c.in_ok-say.ensures c.say_numbers.ensures

pub returns-in_err-say : goal.returns-in_err-say
returns-in_err-say g t c =
    says_passed {F = SinkFailed} g.K.Sink.written g.K.Sink.writes g.K.Sink.faults _ _ _ _ _ _ _ (numbers-first _ _ _ c.in-Some.ensures.some)
    c.from_residual.ensures.1 c.in_err-say.ensures
