-- A graph file has one graph6 text, or one first error, and not both: its text stands for one graph
-- or breaks the format at one line.
use Rattle.std.proofs.Common.{◌≡◌, ◌∙◌, inl, inr, ℕ, ◌≤◌, List, [], ◌∷◌, ◌++◌, length, ap, sym, arith}
use Rattle.outside.specs.Common.{most_bytes}
use Rattle.graph_core.proofs.from_line_text.ExactlyOne.{exactly_one, StandsAlone-stands}
use Rattle.graph_core.specs.from_line_text.Common.{FirstFault}
use Rattle.graph_core.specs.from_line_text.declared.faults.FaultKind.{FaultKind}
use Rattle.graph_text.specs.Common.{NamedGraph, either_version}
use Rattle.graph6_text.specs.Common.{graph6_of}
use Rattle.mcg6_encoder.specs.Files.{IsBadFile, IsEncoded, IsOutside}
use Rattle.mcg6_reader.specs.declared.ending.BadLine.{BadLine}

pub encoded_once : (file a b : List ℕ) → IsEncoded file a → IsEncoded file b → a ≡ b
encoded_once file a b one two =
    let alone = StandsAlone-stands either_version file one.named one.stands in
    let same : one.named ≡ two.named = alone.only one.named one.stands ∙ sym (alone.only two.named two.stands) in
    one.line ∙ ap (λ (named : NamedGraph). graph6_of named.graph ++ 10 ∷ []) same ∙ sym two.line

encoded_outside : (file a : List ℕ) (found : BadLine) → IsEncoded file a → IsOutside file found → ⊥
encoded_outside file a found one bad = (StandsAlone-stands either_version file one.named one.stands).faultless found.number found.kind bad.fault

pub encoded_or_bad : (file a : List ℕ) (found : BadLine) → length file ≤ most_bytes → IsEncoded file a → IsBadFile file found → ⊥
encoded_or_bad file a found short one (inl long) = let more = long.0 in absurd (omega arith)
encoded_or_bad file a found short one (inr outside) = encoded_outside file a found one outside.1

-- a text that breaks the format does so at one line
fault_once :
    (file : List ℕ) (line another : ℕ) (kind other : FaultKind) → FirstFault either_version file line kind →
    FirstFault either_version file another other → (line ≡ another) × (kind ≡ other)
fault_once file line another kind other first second = elim (exactly_one either_version file) [
  | inl alone ↦ absurd (alone.faultless line kind first)
  | inr broken ↦
      let one = broken.only line kind first in
      let two = broken.only another other second in
      (one.0 ∙ sym two.0, one.1 ∙ sym two.1)
]

pub bad_once : (file : List ℕ) (found other : BadLine) → IsBadFile file found → IsBadFile file other → (found.number ≡ other.number) × (found.kind ≡ other.kind)
bad_once file found other (inl one) (inl two) = (one.1.number ∙ sym two.1.number, one.1.kind ∙ sym two.1.kind)
bad_once file found other (inl one) (inr two) = let long = one.0 in let short = two.0 in absurd (omega arith)
bad_once file found other (inr one) (inl two) = let short = one.0 in let long = two.0 in absurd (omega arith)
bad_once file found other (inr one) (inr two) = fault_once file found.number other.number found.kind other.kind one.1.fault two.1.fault
