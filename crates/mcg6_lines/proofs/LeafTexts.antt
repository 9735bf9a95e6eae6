-- The lines of the leaves from a place on are the line of the leaf there and those after it.
-- Idea: each list from a place on is its item there, with the list from the next place on after it.
use Rattle.std.proofs.Common.{List, [], ◌++◌, append_assoc, ap₂, arith, get_or, length, map, drop, ℕ, ◌+◌, ◌<◌, ◌≡◌}
use Rattle.std.proofs.lemmas.List.{drop_more}
use Rattle.graph_core.proofs.Common.{Graph}
use Rattle.tree_core.proofs.Common.{PlaceValue, place-at, place_of}
use Rattle.tree_core.specs.declared.tallies.LeafKind.{LeafKind}
use Rattle.tree_core.specs.declared.tallies.LeafKind.TheVariants.{Brick}
use Rattle.mcg6_lines.specs.LeafLines.{leaf_line, leaf_lines}

pub lines_next : (front : List ℕ) (g : Graph) (ps : List (List (List ℕ))) (kinds : List LeafKind) (i : ℕ) → i < length ps → i < length kinds →
    leaf_lines front g (drop i ps) (drop i kinds) ≡ leaf_line front g (get_or ps i []) (get_or kinds i Brick) ++ leaf_lines front g (drop (i + 1) ps) (drop (i + 1) kinds)
lines_next front g ps kinds i listed told = ap₂ (leaf_lines front g) (drop_more ps i [] listed) (drop_more kinds i Brick told)

-- what is written, with the line of the leaf at the next place, and the lines of the leaves after
-- it
pub lines_further : (front : List ℕ) (g : Graph) (ps : List (List (List ℕ))) (places : List PlaceValue) (kinds : List LeafKind) (i : ℕ) (place : PlaceValue) (kind : LeafKind) (now next : List ℕ) →
    i < length places → place ≡ get_or places i place → places ≡ map (place_of g) ps → i < length kinds → kind ≡ get_or kinds i Brick → next ≡ now ++ leaf_line front place.graph place.blocks kind →
    now ++ leaf_lines front g (drop i ps) (drop i kinds) ≡ leaf_lines front g ps kinds → next ++ leaf_lines front g (drop (i + 1) ps) (drop (i + 1) kinds) ≡ leaf_lines front g ps kinds
lines_further front g ps places kinds i place kind now next less is are told kind_is written before =
    let at = place-at g ps places i place less is are in
    grind (arith, append_assoc, lines_next front g ps kinds i at.0 told)
