-- Version 1 within both versions. Where the header is not one of version 2, the two formats say
-- the same to each line, so by induction over the lines the same comes of the text. A header of
-- version 2 is none of version 1; after it names are kept, so that no graph without names comes
-- of the text.
use Rattle.graph_core.proofs.from_counting.Common.{◌≡◌, ◌↔◌, ℕ, ◌+◌, ◌==◌, ◌||◌, not, Bool, true, false, cond, codes, List, [], ◌∷◌, length, Option, Some, None, is_some, Result, Ok, Err, IfOk, inl, inr, sym, ◌∙◌, ap, subst, arith, bytes_eq, result_map_both, cases_Bool, and_parts, bytes_eq-Decides}
use Rattle.graph_core.specs.from_line_text.Common.{checked, Stands, FirstFault, lines_of, go_on, reading_from, SignificantLine, significant_lines_of, has_form, begin_with}
use Rattle.graph_core.proofs.from_line_text.ExactlyOne.{Stands-reading_of, Stands-from_reading, FirstFault-reading_of, FirstFault-from_reading}
use Rattle.graph_core.proofs.Common.{Graph}
use Rattle.graph_core.specs.from_line_text.declared.faults.FaultKind.{FaultKind}
use Rattle.graph_core.specs.from_line_text.declared.faults.FaultKind.TheVariants as kind
use Rattle.graph_text.specs.Common.{EitherSoFar, NamedGraph, is_named_header, is_plain_header, either_header, line_behind, end_behind, either_version, begin_named, is_version_two, GraphSoFar, graph_line, graph_end, version_one, header}

-- what has been read without names, and a graph without names
abbrev nameless : GraphSoFar → EitherSoFar
nameless body = record { so_far = body; names = None }

abbrev unnamed : Graph → NamedGraph
unnamed g = record { graph = g; names = None }

-- what comes of a text in version 1, as it comes of it in both versions
abbrev seen : Result Graph (ℕ × FaultKind) → Result NamedGraph (ℕ × FaultKind)
seen outcome = result_map_both unnamed (λ fault. fault) outcome

-- the end of a text of version 1, and one of its lines
seen-end : (number : ℕ) (ending : Result Graph FaultKind) → go_on number (result_map_both unnamed (λ k. k) ending) (λ v. Ok v) ≡ seen (go_on number ending (λ v. Ok v))
seen-end number ending = grind arith

seen-step : (number : ℕ) (lines : List SignificantLine) (count : ℕ) (stepped : Result GraphSoFar FaultKind) → ((body : GraphSoFar) → reading_from either_version (Some (nameless body)) lines count ≡ seen (reading_from version_one (Some body) lines count)) → go_on number (result_map_both nameless (λ k. k) stepped) (λ body. reading_from either_version (Some body) lines count) ≡ seen (go_on number stepped (λ body. reading_from version_one (Some body) lines count))
seen-step number lines count stepped rest = grind arith

-- the lines after a header of version 1
reading-nameless : (body : GraphSoFar) (lines : List SignificantLine) (count : ℕ) → reading_from either_version (Some (nameless body)) lines count ≡ seen (reading_from version_one (Some body) lines count)
reading-nameless body [] count = seen-end (count + 1) (graph_end body)
reading-nameless body (line ∷ lines) count =
    seen-step line.number lines count (graph_line body line.words) (λ next. reading-nameless next lines count)

checked-unnamed : (named plain numbers over_two over_one : Bool) (body : GraphSoFar) → named ≡ false → checked ((not (named || plain), kind.Header) ∷ (not numbers, kind.Number) ∷ (cond named over_two over_one, kind.Limit) ∷ []) (record { so_far = body; names = cond named (Some []) None }) ≡ result_map_both nameless (λ k. k) (checked ((not plain, kind.Header) ∷ (not numbers, kind.Number) ∷ (over_one, kind.Limit) ∷ []) body)
checked-unnamed named plain numbers over_two over_one body is = grind arith

header-unnamed : (words : List (List ℕ)) → is_named_header words ≡ false → either_header words ≡ result_map_both nameless (λ k. k) (header words)
header-unnamed words is = checked-unnamed (is_named_header words) (is_plain_header words) _ _ _ _ is

-- what comes of a text that is not judged by version 2
reading-unnamed : (lines : List SignificantLine) (count : ℕ) → begin_named lines ≡ false → reading_from either_version None lines count ≡ seen (reading_from version_one None lines count)
reading-unnamed lines count is = grind (arith, header-unnamed, seen-step, reading-nameless)

-- a header of version 2 is none of version 1
second-word : (word : List ℕ) → bytes_eq word (codes "mcg2") ≡ true → bytes_eq word (codes "mcg") ≡ false
second-word word is = ap (λ w. bytes_eq w (codes "mcg")) ((bytes_eq-Decides word (codes "mcg2")).0 is)

named-plain : (words : List (List ℕ)) → begin_with words (codes "p" ∷ codes "mcg2" ∷ []) ≡ true → begin_with words (codes "p" ∷ codes "mcg" ∷ []) ≡ false
named-plain words is = grind (arith, and_parts, second-word)

header-named : (words : List (List ℕ)) → is_named_header words ≡ true → is_plain_header words ≡ false
unfolding has_form
header-named words is = grind (arith, and_parts (length words == 4), named-plain words)

refused : (number : ℕ) (plain : Bool) (rest : Result GraphSoFar FaultKind) (next : GraphSoFar → Result Graph (ℕ × FaultKind)) → plain ≡ false → go_on number (cond (not plain) (Err kind.Header) rest) next ≡ Err (number, kind.Header)
refused number plain rest next is = grind arith

refused-named : (line : SignificantLine) (lines : List SignificantLine) (count : ℕ) → is_named_header line.words ≡ true → reading_from version_one None (line ∷ lines) count ≡ Err (line.number, kind.Header)
refused-named line lines count is = refused line.number (is_plain_header line.words) _ _ (header-named line.words is)

-- after it names are kept
abbrev HasNames : EitherSoFar → Type 0
HasNames either = is_some either.names ≡ true

abbrev KeepsNames : Result EitherSoFar FaultKind → Type 0
KeepsNames result = IfOk {T = EitherSoFar} result HasNames

line-keeps : (body : GraphSoFar) (names : Option (List (List ℕ))) (words : List (List ℕ)) → is_some names ≡ true → KeepsNames (line_behind body names words)
line-keeps body names words is = grind arith

header-keeps : (words : List (List ℕ)) → is_named_header words ≡ true → KeepsNames (either_header words)
header-keeps words named = grind arith

abbrev IsNamed : NamedGraph → Type 0
IsNamed named = is_some named.names ≡ true

end-keeps : (body : GraphSoFar) (names : Option (List (List ℕ))) → is_some names ≡ true → IfOk {T = NamedGraph} (end_behind body names) IsNamed
end-keeps body names is = grind arith

abbrev GivesNames : Result NamedGraph (ℕ × FaultKind) → Type 0
GivesNames outcome = IfOk {T = NamedGraph} outcome IsNamed

names-end : (number : ℕ) (ending : Result NamedGraph FaultKind) → IfOk {T = NamedGraph} ending IsNamed → GivesNames (go_on number ending (λ v. Ok v))
names-end number ending keeps = grind arith

names-step : (number : ℕ) (stepped : Result EitherSoFar FaultKind) (next : EitherSoFar → Result NamedGraph (ℕ × FaultKind)) → KeepsNames stepped → ((either : EitherSoFar) → is_some either.names ≡ true → GivesNames (next either)) → GivesNames (go_on number stepped next)
names-step number stepped next keeps rest = grind arith

reading-keeps : (either : EitherSoFar) (lines : List SignificantLine) (count : ℕ) → is_some either.names ≡ true → GivesNames (reading_from either_version (Some either) lines count)
reading-keeps either [] count is = names-end (count + 1) (end_behind either.so_far either.names) (end-keeps either.so_far either.names is)
reading-keeps either (line ∷ lines) count is =
    names-step line.number (line_behind either.so_far either.names line.words) (λ next. reading_from either_version (Some next) lines count) (line-keeps either.so_far either.names line.words is) (λ next keeps. reading-keeps next lines count keeps)

reading-named : (lines : List SignificantLine) (count : ℕ) → begin_named lines ≡ true → GivesNames (reading_from either_version None lines count)
reading-named lines count is = grind (arith, names-step, header-keeps, reading-keeps)

-- so what comes of a text in one version comes of it in the other
from-seen : (outcome : Result Graph (ℕ × FaultKind)) (g : Graph) → seen outcome ≡ Ok (unnamed g) → outcome ≡ Ok g
from-seen outcome g is = grind arith

fault-seen : (outcome : Result Graph (ℕ × FaultKind)) (fault : ℕ × FaultKind) → seen outcome ≡ Err fault → outcome ≡ Err fault
fault-seen outcome fault is = grind arith

names-none : (outcome : Result NamedGraph (ℕ × FaultKind)) (g : Graph) → GivesNames outcome → outcome ≡ Ok (unnamed g) → ⊥
names-none outcome g gives is = let named : false ≡ true = subst GivesNames is gives in cc named

one-judged : (lines : List SignificantLine) (count : ℕ) (g : Graph) → reading_from version_one None lines count ≡ Ok g → begin_named lines ≡ false
one-judged lines count g is = grind (arith, cases_Bool, refused-named)

pub Stands-either : (text : List ℕ) (g : Graph) → Stands version_one text g ↔ Stands either_version text (unnamed g)
Stands-either text g = (
  (λ stands.
      let reads = Stands-reading_of version_one text g stands in
      let judged = one-judged (significant_lines_of text) (length (lines_of text)) g reads in
      Stands-from_reading either_version text (unnamed g) (reading-unnamed _ _ judged ∙ ap seen reads)),
  (λ stands.
      let reads = Stands-reading_of either_version text (unnamed g) stands in
      elim (cases_Bool (is_version_two text)) [
        | inl named ↦ absurd (names-none _ g (reading-named (significant_lines_of text) (length (lines_of text)) named) reads)
        | inr plain ↦ Stands-from_reading version_one text g (from-seen _ g (sym (reading-unnamed _ _ plain) ∙ reads))
      ]),
)

pub FirstFault-either : (text : List ℕ) (line : ℕ) (kind : FaultKind) → is_version_two text ≡ false → FirstFault version_one text line kind ↔ FirstFault either_version text line kind
FirstFault-either text line kind judged = (
  (λ first. FirstFault-from_reading either_version text line kind (reading-unnamed _ _ judged ∙ ap seen (FirstFault-reading_of version_one text line kind first))),
  (λ first. FirstFault-from_reading version_one text line kind (fault-seen _ (line, kind) (sym (reading-unnamed _ _ judged) ∙ FirstFault-reading_of either_version text line kind first))),
)

pub FirstFault-named : (text : List ℕ) (line : SignificantLine) (lines : List SignificantLine) → significant_lines_of text ≡ line ∷ lines → is_named_header line.words ≡ true → FirstFault version_one text line.number kind.Header
FirstFault-named text line lines cut named =
    FirstFault-from_reading version_one text line.number kind.Header (ap (λ ls. reading_from version_one None ls (length (lines_of text))) cut ∙ refused-named line lines (length (lines_of text)) named)
