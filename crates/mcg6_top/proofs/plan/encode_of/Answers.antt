use Rattle.std.proofs.Common.{◌≡◌, ◌≤◌, ℕ, List, length, string_bytes, arith, None}
use Rattle.std.proofs.lemmas.List.{length-map}
use Rattle.mcg6_top.specs.Common.{encode_of}
use Rattle.mcg6_top.proofs.plan.encode_of.Goals as goal

-- three words and more do not match the row
too_many : (words : List (List ℕ)) → 3 ≤ length words → encode_of words ≡ None
too_many words many = grind arith

pub returns-in_default : goal.returns-in_default
returns-in_default c = grind (arith, string_bytes, length-map, too_many)
