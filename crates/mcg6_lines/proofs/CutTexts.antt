-- The lines of the candidates from a place on are the line of the candidate there and those after
-- it.
use Rattle.std.proofs.Common.{List, ℕ, Some, ◌++◌, ◌+◌, ◌<◌, ◌≡◌, ◌∙◌, ap, append_assoc, length, drop, get_or, slice_get, sym}
use Rattle.std.proofs.lemmas.List.{drop_more}
use Rattle.allowed_edges.proofs.from_counting.Common.{get_or_from_slice_get}
use Rattle.leaf_kinds.specs.from_tight_cuts.Common.{Candidate}
use Rattle.mcg6_lines.specs.CutLines.{cut_line, cut_lines}

cuts_next : (front : List ℕ) (list : List Candidate) (i : ℕ) (c : Candidate) → slice_get list i ≡ Some c → i < length list →
    cut_lines front (drop i list) ≡ cut_line front c ++ cut_lines front (drop (i + 1) list)
cuts_next front list i c is listed =
    ap (cut_lines front) (drop_more list i c listed) ∙ ap (λ (x : Candidate). cut_line front x ++ cut_lines front (drop (i + 1) list)) (get_or_from_slice_get list i c c is)

-- what is written, with the line of the candidate at the next place, and the lines after it
pub cuts_further : (front : List ℕ) (list : List Candidate) (i : ℕ) (c : Candidate) (now next : List ℕ) → slice_get list i ≡ Some c → i < length list →
    next ≡ now ++ cut_line front c → now ++ cut_lines front (drop i list) ≡ cut_lines front list → next ++ cut_lines front (drop (i + 1) list) ≡ cut_lines front list
cuts_further front list i c now next is listed written before =
    ap (λ (t : List ℕ). t ++ cut_lines front (drop (i + 1) list)) written ∙ append_assoc now (cut_line front c) (cut_lines front (drop (i + 1) list))
    ∙ ap (λ (t : List ℕ). now ++ t) (sym (cuts_next front list i c is listed)) ∙ before
