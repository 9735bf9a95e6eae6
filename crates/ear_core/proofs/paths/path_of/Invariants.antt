use Rattle.graph_core.proofs.from_counting.Common.{◌≡◌, ◌||◌, ℕ, All, length, Within, mem, none}
use Rattle.graph_core.proofs.Common.{size}
use Rattle.ear_core.specs.Common.{last_vertex, is_path, inner_vertices, astray}
use Rattle.ear_core.proofs.Walking.{goes_on}
use Rattle.ear_core.proofs.paths.path_of.Given as goal

-- what is left to walk decides, beside the inner vertices so far
abbrev pub invariant-edges : goal.invariant-edges
invariant-edges l = record {
  path : is_path l.fn.g l.fn.ear.«from» l.fn.ear.edges ≡ goes_on l.fn.g l.fn.ear.«from» (mem l.inner) l.at l.rest;
  astray : astray l.fn.g l.fn.ear.«from» none l.fn.ear.«from» l.fn.ear.edges ≡ astray l.fn.g l.fn.ear.«from» (mem l.inner) l.at l.rest;
  last : last_vertex l.fn.g l.fn.ear.«from» l.fn.ear.edges ≡ last_vertex l.fn.g l.at l.rest;
  inner : (w : ℕ) → mem (inner_vertices l.fn.g l.fn.ear.«from» l.fn.ear.edges) w ≡ (mem l.inner w || mem (inner_vertices l.fn.g l.at l.rest) w);
  at : Within l.fn.g.order l.at;
  edges : All (Within (size l.fn.g)) l.rest;
}

abbrev pub decreases-edges : goal.decreases-edges
decreases-edges l = length l.rest
