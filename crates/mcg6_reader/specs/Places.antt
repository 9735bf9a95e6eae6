-- The places of the lines of a list.
-- Stated by: mcg6_reader. Used by: mcg6_top.
use Rattle.std.specs.Prelude.{ℕ, ◌+◌, if◌then◌else◌, List, [], ◌∷◌}
use Rattle.mcg6_reader.specs.declared.place.LinePlace.{LinePlace}
use Rattle.mcg6_reader.specs.Headers.{is_header}

-- the place of the first line
abbrev pub first_place : LinePlace
first_place = record { number = 1; graphs = 0 }

-- the place after a line: one more graph comes before it, unless the line is just the header
unfoldable pub place_after : LinePlace → List ℕ → LinePlace
place_after place line = record {
  number = place.number + 1;
  graphs = if is_header place.number line then place.graphs else place.graphs + 1;
}

-- the place after lines, where the first is at this place
abbrev pub place_behind : LinePlace → List (List ℕ) → LinePlace
place_behind place [] = place
place_behind place (line ∷ lines) = place_behind (place_after place line) lines
