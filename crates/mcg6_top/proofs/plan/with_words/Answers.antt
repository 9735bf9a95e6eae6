use Rattle.std.proofs.Common.{◌≡◌, ◌≤◌, ℕ, List, length, string_bytes, arith, None}
use Rattle.std.proofs.lemmas.List.{length-map}
use Rattle.mcg6_lines.specs.declared.query.Query.{Query}
use Rattle.mcg6_top.specs.Common.{command_with}
use Rattle.mcg6_top.proofs.plan.with_words.Goals as goal

-- three words and more after a query match no row
too_many : (query : Query) (words : List (List ℕ)) → 3 ≤ length words → command_with query words ≡ None
too_many query words many = grind arith

pub returns-in_default : goal.returns-in_default
returns-in_default c = grind (arith, string_bytes, length-map, too_many)
