-- What is said of a file that could not be read.
-- Stated by: front_words. Used by: mcg6_front_top.
use Rattle.std.specs.Prelude.{ℕ, List, [], ◌++◌, codes, if◌then◌else◌, Option, bytes_eq}
use Rattle.outside.specs.declared.explain.FailureReason.{FailureReason}
use Rattle.front_words.specs.Reasons.{reason_words}
use Rattle.front_words.specs.Showing.{shown}
use Rattle.front_words.specs.declared.texts.TheConstants as texts

-- what is added where a dash is to stand for standard input
abbrev pub dash_note : (name : List ℕ) → List ℕ
dash_note name = if bytes_eq name (codes "-") then texts.DASH_FILE.now else []

-- the file of that name could not be read, for that reason, with a note
abbrev pub unread_noted_text : (program name : List ℕ) → Option FailureReason → (note : List ℕ) → List ℕ
unread_noted_text program name reason note =
    program ++ (texts.CANNOT_READ.now ++ (shown 4096 name ++ (codes ": " ++ (reason_words reason ++ (note ++ codes "\n")))))

-- the same with the note on a dash
abbrev pub unread_text : (program name : List ℕ) → Option FailureReason → List ℕ
unread_text program name reason = unread_noted_text program name reason (dash_note name)
