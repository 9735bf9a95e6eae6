-- A file that is outside its format, as far as it is known.
-- Stated by: front_words. Used by: mcg6_front_top.
use Rattle.std.specs.Prelude.{ℕ, List, option_map, Option}
use Rattle.line_text.specs.declared.faults.FaultKind.{FaultKind}
use Rattle.refusals.specs.declared.file_kind.FileKind.{FileKind}
use Rattle.front_words.specs.declared.messages.BadFile.{BadFile}

-- its name, what it is read as, the line of its first fault, which is 0 where it is too long, and
-- the kind of this fault; and, if they are known, the bytes of the file or some with which it
-- begins, the numbers of the vertices and of the edges of the graph that it is for, and the text of
-- that line
pub record BadFileSeen : Type 0 where
  pub name : List ℕ
  pub file_kind : FileKind
  pub line : ℕ
  pub kind : FaultKind
  pub beginning : Option (List ℕ)
  pub sizes : Option (ℕ × ℕ)
  pub text : Option (List ℕ)

-- what the code has of it
abbrev pub bad_seen : BadFile → BadFileSeen
bad_seen bad = record {
  name = bad.name.now;
  file_kind = bad.file_kind;
  line = bad.line;
  kind = bad.kind;
  beginning = option_map (λ text. text.now) bad.beginning;
  sizes = bad.sizes;
  text = option_map (λ text. text.now) bad.text;
}
