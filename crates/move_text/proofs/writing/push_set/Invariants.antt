use Rattle.std.proofs.Common.{◌≡◌, ◌++◌, length, string_bytes}
use Rattle.move_text.specs.Common.{behind_commas, set_word}
use Rattle.move_text.proofs.writing.push_set.Given as goal

-- what is written and the vertices left, each after a comma, make the whole word
abbrev pub invariant-vertices : goal.invariant-vertices
invariant-vertices l = string_bytes l.fn.text ++ set_word l.fn.set ≡ string_bytes l.text ++ behind_commas l.rest

abbrev pub decreases-vertices : goal.decreases-vertices
decreases-vertices l = length l.rest
