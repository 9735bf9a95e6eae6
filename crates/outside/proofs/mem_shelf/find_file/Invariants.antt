use Rattle.std.proofs.Common.{◌≡◌, length}
use Rattle.outside.specs.Common.{file_named, named_files}
use Rattle.outside.proofs.mem_shelf.find_file.Given as goal

abbrev pub invariant-looking : goal.invariant-looking
invariant-looking l = file_named l.fn.name (named_files l.fn.files) ≡ file_named l.fn.name (named_files l.rest)

abbrev pub decreases-looking : goal.decreases-looking
decreases-looking l = length l.rest
