-- The orders of choice that have names, and those of lists of picks: which candidate each picks
-- at a node, of the list of candidates there, with so many cuts before the node in preorder.
-- Stated by: decomposer, bench_reports, theorems.
-- Used by: mcg6_lines, bench_tasks, bench_outcomes, bench_top, front_top, mcg6_top, mcg6_front_top.
use Rattle.std.specs.Prelude.{◌≡◌, ℕ, ◌-◌, ◌%◌, List, length, slice_index_or, codes, if◌then◌else◌, Option, Some, None, bytes_eq}
use Rattle.tight_cuts.specs.Common.{Candidate}
use Rattle.decomposer.specs.Choices.{PicksBalanced}
use Rattle.decomposer.specs.declared.orders.NamedOrder.{NamedOrder}
use Rattle.decomposer.specs.declared.orders.NamedOrder.TheVariants.{First, Last, Balanced}

-- the order of choice that a word names, if it names one
abbrev pub order_named : List ℕ → Option NamedOrder
order_named word =
    if bytes_eq word (codes "first") then Some First else
    if bytes_eq word (codes "last") then Some Last else
    if bytes_eq word (codes "balanced") then Some Balanced else None

-- a named order picks the first place, the last, or the first balanced one
abbrev pub NamedPicks : NamedOrder → List Candidate → ℕ → ℕ → Type 0
NamedPicks First list cuts place = place ≡ 0
NamedPicks Last list cuts place = place ≡ length list - 1
NamedPicks Balanced list cuts place = PicksBalanced list place

-- the number that a list of picks has for the node after so many cuts, modulo the number of
-- candidates; 0 if it has none
abbrev pub scripted_place : List ℕ → (cuts candidates : ℕ) → ℕ
scripted_place picks cuts candidates = slice_index_or picks cuts 0 % candidates

-- a list of picks picks that place
abbrev pub ScriptPicks : List ℕ → List Candidate → ℕ → ℕ → Type 0
ScriptPicks picks list cuts place = place ≡ scripted_place picks cuts (length list)
