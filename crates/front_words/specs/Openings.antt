-- What a text is that does not begin as it should: a file of another format, by its first bytes,
-- and what reads that.
-- Stated by: front_words. Used by: mcg6_front_top.
use Rattle.std.specs.Prelude.{ℕ, ◌-◌, ◌==◌, ◌&&◌, not, List, [], ◌∷◌, length, nat_eq, nat_le, Bool, false, codes, if◌then◌else◌, Option, None, Some}
use Rattle.std.specs.List.{list_all, starts_with}
use Rattle.refusals.specs.declared.file_kind.FileKind.{FileKind}
use Rattle.refusals.specs.declared.file_kind.FileKind.TheVariants.{Graph, Graph6, Tree, Picks, Ears, Moves}
use Rattle.front_words.specs.LinesAt.{line_at}
use Rattle.front_words.specs.Showing.{byte_at}
use Rattle.front_words.specs.declared.texts.TheConstants as texts

-- the text begins with these bytes
abbrev pub opens : List ℕ → List ℕ → Bool
opens text beginning = starts_with nat_eq text beginning

-- the first note, or if there is none the second
abbrev pub note_or : (note other : List ℕ) → List ℕ
note_or [] other = other
note_or (byte ∷ note) other = byte ∷ note

-- a note on a text that is no file of lines; nothing on others
abbrev pub coding_note : List ℕ → List ℕ
coding_note text =
    if opens text (239 ∷ 187 ∷ 191 ∷ []) then texts.BEGINS_MARKED.now else
    if opens text (255 ∷ 254 ∷ []) then texts.BEGINS_UTF16.now else
    if opens text (254 ∷ 255 ∷ []) then texts.BEGINS_UTF16.now else
    if opens text (31 ∷ 139 ∷ []) then texts.BEGINS_GZIP.now else []

-- a note on a text that begins as a format of graphs that is not read here; nothing on others
abbrev pub format_note : List ℕ → List ℕ
format_note text =
    if opens text (codes ">>sparse6<<") then texts.BEGINS_SPARSE6.now else
    if opens text (codes ":") then texts.BEGINS_SPARSE6.now else
    if opens text (codes ">>digraph6<<") then texts.BEGINS_DIGRAPH6.now else
    if opens text (codes "&") then texts.BEGINS_DIGRAPH6.now else
    if opens text (codes ">>planar_code<<") then texts.BEGINS_PLANAR.now else []

-- a note on a text that begins as a graph file, where graph6 is wanted; nothing on others
abbrev pub graph_file_note : List ℕ → List ℕ
graph_file_note text =
    if opens text (codes "p mcg") then texts.BEGINS_GRAPH.now else
    if opens text (codes "c ") then texts.BEGINS_GRAPH.now else []

-- graph6 has such bytes
abbrev pub is_digit : ℕ → Bool
is_digit byte = nat_le 63 byte && nat_le byte 126

-- the line, if there is one, has only bytes of graph6, and at least as many as the first of them
-- asks for: with `n` vertices they are at least `n - 2`
abbrev pub is_like_graph6 : (line : Option (List ℕ)) → Bool
is_like_graph6 None = false
is_like_graph6 (Some line) = not (length line == 0) && (nat_le (byte_at line 0 - 65) (length line) && list_all is_digit line)

-- a note on a text that begins as graph6, by its name or by its first line, where a graph file is
-- wanted; nothing on others
abbrev pub graph6_note : List ℕ → List ℕ
graph6_note text =
    if opens text (codes ">>graph6<<") then texts.BEGINS_GRAPH6.now else
    if is_like_graph6 (line_at text 1) then texts.BEGINS_GRAPH6.now else []

-- a note on the header of a graph file where a file for one is wanted, with what makes that of it
abbrev pub beside_note : FileKind → List ℕ
beside_note Graph = []
beside_note Graph6 = []
beside_note Tree = texts.GRAPH_FOR_TREE.now
beside_note Picks = texts.GRAPH_FIRST.now
beside_note Ears = texts.GRAPH_FOR_EARS.now
beside_note Moves = texts.GRAPH_FIRST.now

-- the same for the line at fault, if it is known; nothing if it is no such header
abbrev pub misplaced_note : FileKind → (line : Option (List ℕ)) → List ℕ
misplaced_note file_kind None = []
misplaced_note file_kind (Some line) = if opens line (codes "p mcg") then beside_note file_kind else []

-- a note on a text that begins as a file of another format than graph6; nothing on others
abbrev pub opening_note : List ℕ → List ℕ
opening_note text = note_or (coding_note text) (note_or (format_note text) (graph_file_note text))

-- the same for a text that is read so
abbrev pub file_kind_note : FileKind → List ℕ → List ℕ
file_kind_note Graph text = note_or (coding_note text) (note_or (format_note text) (graph6_note text))
file_kind_note Graph6 text = opening_note text
file_kind_note Tree text = coding_note text
file_kind_note Picks text = coding_note text
file_kind_note Ears text = coding_note text
file_kind_note Moves text = coding_note text

-- the same for a file that is read so, if its beginning is known
abbrev pub beginning_note : FileKind → Option (List ℕ) → List ℕ
beginning_note file_kind None = []
beginning_note file_kind (Some text) = file_kind_note file_kind text
