-- The candidates so far are such as code can hold.
use Rattle.std.proofs.Common.{All, take}
use Rattle.decomposer.specs.Common.{IsStoredIn}
use Rattle.decomposer.proofs.by_function.are_stored.Given as goal

abbrev pub invariant-loop-candidate : goal.invariant-loop-candidate
invariant-loop-candidate l = All (IsStoredIn 128) (take l.candidate-index l.list)
