-- How the code's file of a command is seen.
-- Stated by: bench_tasks.
use Rattle.bench_tasks.specs.Files.{File}
use Rattle.bench_tasks.specs.declared.files.CommandFile.{CommandFile}

-- the file with its name's bytes
abbrev pub file_seen : CommandFile → File
file_seen file = (file.name.now, file.kind)
