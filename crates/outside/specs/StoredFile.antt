-- The files that a shelf in memory keeps.
-- Stated by: outside.
use Rattle.std.specs.Prelude.{List, map, string_bytes}
use Rattle.outside.specs.declared.mem_shelf.StoredFile.{StoredFile}
use Rattle.outside.specs.Shelf.{NamedFile}

-- each file as its name and its bytes
abbrev pub named_files : List StoredFile → List NamedFile
named_files files = map (λ file. (string_bytes file.name, file.bytes.items)) files
