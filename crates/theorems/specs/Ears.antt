-- Ear decompositions: how many ears one has, conformal subgraphs, and double ears without a common
-- vertex (Lovász and Plummer, "Matching Theory", chapter 5).
-- Idea: a step adds one ear or two.
-- Stated by: theorems.
use Rattle.std.specs.Prelude.{◌≡◌, ℕ, ◌+◌, List, [], ◌∷◌, true}
use Rattle.tree_check.specs.from_counting.Common.{Set, mem}
use Rattle.ear_text.specs.from_ear_core.Common.{PlainStep, is_met, one, trail, two}
use Rattle.graph_core.specs.Common.{Graph, HasPerfect}

-- how many ears the steps add
abbrev pub ear_count : List PlainStep → ℕ
ear_count [] = 0
ear_count (one a ∷ steps) = 1 + ear_count steps
ear_count (two a b ∷ steps) = 2 + ear_count steps

-- the graph H of the edges f is conformal ("nice"): G − V(H) has a perfect matching
abbrev pub IsConformal : Graph → Set → Type 0
IsConformal g f = HasPerfect g (is_met g f)

-- the two ears of a step have no vertex in common: V(a) ∩ V(b) = ∅
abbrev pub IsDisjoint : Graph → PlainStep → Type 0
IsDisjoint g (one a) = Unit {0}
IsDisjoint g (two a b) = (w : ℕ) → mem (trail g a.begin a.edges) w ≡ true → mem (trail g b.begin b.edges) w ≡ true → ⊥
