use Rattle.std.proofs.Common.{◌≡◌, ◌++◌, ◌∷◌, ◌∙◌, List, ℕ, map, refl}
use Rattle.outside.specs.declared.sink.SinkFailed.{SinkFailed}
use Rattle.command_table.specs.Pages.{command_line, command_lines}
use Rattle.command_table.specs.RowsSeen.{row_seen}
use Rattle.command_table.specs.declared.rows.Row.{Row}
use Rattle.front_words.proofs.Sayings.{says_break, says_step}
use Rattle.front_words.proofs.unmatched.+say_lines.Goals as goal

-- the line of the first row, and those of the others
lines-first : (command line : List ℕ) (rows rest : List Row) (row : Row) → rows ≡ row ∷ rest → line ≡ command_line command (row_seen row) →
    command_lines command (map row_seen rows) ≡ line ++ command_lines command (map row_seen rest)
lines-first command line rows rest row is this = rw (is, this) refl

pub returns-in-Ok : goal.returns-in-Ok
returns-in-Ok g t c =
    says_step {F = SinkFailed} g.K.Sink.written g.K.Sink.writes g.K.Sink.faults _ _ _ _ _ _ _
    (lines-first c.args.command.now c.as_bytes.result.now c.args.rows.now c.in-Some.rows.now c.in-Some.row.now c.in-Some.ensures.cases.0 (c.as_bytes.ensures.value ∙ c.command_line.ensures))
    c.in-Ok.ensures c.say_lines.ensures

pub returns-in-Err : goal.returns-in-Err
returns-in-Err g t c =
    says_break {F = SinkFailed} g.K.Sink.written g.K.Sink.writes g.K.Sink.faults _ _ _ _ _ _
    (lines-first c.args.command.now c.as_bytes.result.now c.args.rows.now c.in-Some.rows.now c.in-Some.row.now c.in-Some.ensures.cases.0 (c.as_bytes.ensures.value ∙ c.command_line.ensures))
    c.in-Err.ensures
