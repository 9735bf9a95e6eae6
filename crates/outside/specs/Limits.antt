-- The limits on what is read.
-- Stated by: mcg6_reader, bench_top.
-- Used by: mcg6_encoder, front_words, bench_tasks, mcg6_top, theorems.
use Rattle.std.specs.Prelude.{ℕ}

-- the most bytes that a file may have
abbrev pub most_bytes : ℕ
most_bytes = 1048576

-- the most bytes that a line of a list may have
abbrev pub most_line : ℕ
most_line = 65536
