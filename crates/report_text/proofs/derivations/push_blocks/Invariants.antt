use Rattle.std.proofs.Common.{◌≡◌, ◌++◌, string_bytes}
use Rattle.report_text.specs.Common.{block_lines}
use Rattle.report_text.proofs.derivations.push_blocks.Given as goal

-- the lines of the first blocks are written
abbrev pub invariant-loop-i : goal.invariant-loop-i
invariant-loop-i l = string_bytes l.text ≡ string_bytes l.fn.text ++ block_lines l.p.blocks l.i
