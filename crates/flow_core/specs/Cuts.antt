-- The two results of `min_cut`.
-- Stated by: flow_core.
use Rattle.std.specs.Prelude.{ℕ, List}
use Rattle.flow_core.specs.declared.flow.Flow.{Flow}
use Rattle.flow_core.specs.declared.cut.CutAnswer.{CutAnswer}
use Rattle.flow_core.specs.declared.cut.CutAnswer.TheVariants.{Cut, Exceeds}

-- the result is a cut
abbrev pub IsCut : CutAnswer → Type 0
IsCut (Cut set value) = Unit {0}
IsCut (Exceeds flow) = ⊥

-- a property of the cut, if the result is one
abbrev pub IfCut : CutAnswer → (List ℕ → ℕ → Type 0) → Type 0
IfCut (Cut set value) P = P set value
IfCut (Exceeds flow) P = Unit {0}

-- a property of the flow, if the result is one
abbrev pub IfExceeds : CutAnswer → (Flow → Type 0) → Type 0
IfExceeds (Cut set value) P = Unit {0}
IfExceeds (Exceeds flow) P = P flow
