-- What a stop carries of the file that stopped the load: its name, what it was read as, its bytes,
-- the sizes of the graph that it is for, and why it could not be read.
-- Stated by: bench_tasks, front_top. Used by: bench_top.
use Rattle.std.specs.Prelude.{◌≡◌, ℕ, ◌-◌, List, [], ◌∷◌, slice_get, Option, Some, None, option_map}
use Rattle.outside.specs.Common.{Answer, bytes_in}
use Rattle.outside.specs.declared.explain.FailureReason.{FailureReason}
use Rattle.bench_tasks.specs.Files.{File}
use Rattle.bench_tasks.specs.FilesSeen.{file_seen}
use Rattle.bench_tasks.specs.declared.stop.FaultyFile.{FaultyFile}
use Rattle.bench_tasks.specs.declared.stop.LoadStop.{LoadStop}
use Rattle.bench_tasks.specs.declared.stop.LoadStop.TheVariants as stop

-- the bytes that are carried, if any are
abbrev pub bytes_carried : FaultyFile → Option (List ℕ)
bytes_carried found = option_map (λ bytes. bytes.items) found.bytes

-- the stop at this file, which is for a graph of these sizes, where the shelf gave this reason
abbrev pub StopsOn : File → (sizes : Option (ℕ × ℕ)) → (reason : Option FailureReason) → LoadStop → Type 0
StopsOn file sizes reason (stop.ReadFault place unread) = (file_seen unread.file ≡ file) × (unread.reason ≡ reason)
StopsOn file sizes reason (stop.Bad place line kind found) = (file_seen found.file ≡ file) × (found.sizes ≡ sizes)
StopsOn file sizes reason stop.Memory = Unit {0}

-- the stop carries the file at its place among these, and the reason that the shelf gave, if the
-- file could not be read
abbrev pub CarriesFile : List File → (reason : Option FailureReason) → LoadStop → Type 0
CarriesFile files reason (stop.ReadFault place unread) = (slice_get files (place - 1) ≡ Some (file_seen unread.file)) × (unread.reason ≡ reason)
CarriesFile files reason (stop.Bad place line kind found) = slice_get files (place - 1) ≡ Some (file_seen found.file)
CarriesFile files reason stop.Memory = Unit {0}

-- the bytes that the last of these reads returned, if it returned any
abbrev pub last_bytes : List Answer → Option (List ℕ)
last_bytes [] = None
last_bytes (answer ∷ []) = bytes_in answer
last_bytes (answer ∷ next ∷ answers) = last_bytes (next ∷ answers)

-- a bad file is carried with the bytes that the last of these reads returned
abbrev pub CarriesBytes : List Answer → LoadStop → Type 0
CarriesBytes answers (stop.ReadFault place unread) = Unit {0}
CarriesBytes answers (stop.Bad place line kind found) = bytes_carried found ≡ last_bytes answers
CarriesBytes answers stop.Memory = Unit {0}
