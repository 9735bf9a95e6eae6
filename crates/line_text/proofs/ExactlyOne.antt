-- Reading line by line and the two relations on the whole text say the same. Each step of a good
-- beginning is forced by the line, so an induction over the significant lines, for every state,
-- leads from one to the other.
use Rattle.std.proofs.Common.{◌≡◌, ◌⊎◌, inl, inr, ℕ, ◌+◌, List, [], ◌∷◌, ◌++◌, length, map, Option, Some, None, Result, Ok, Err, IfOk, IfErr, refl, sym, ◌∙◌, ap, subst, arith, rules}
use Rattle.line_text.specs.Common.{lines_of, SignificantLine, significant_lines_of, Rules, step, finish, Begins, Stands, FirstFault, StandsAlone, BreaksAlone, go_on, reading_from, reading_of, Reads, IsFirst, ReadingTells}
use Rattle.line_text.specs.declared.format.LineFault.{LineFault}
use Rattle.line_text.specs.declared.format.LineFault.TheVariants as fault

abbrev words_of_lines : List SignificantLine → List (List (List ℕ))
words_of_lines lines = map (λ line. line.words) lines

module _ {Body Value Kind : Type 0} (rules : Rules Body Value Kind) where
  -- from a good beginning to reading
  reading_from-value : (from : Option Body) (lines : List SignificantLine) (count : ℕ) (reached : Option Body) (value : Value) → Begins rules from (words_of_lines lines) reached → finish rules reached ≡ Ok value → reading_from rules from lines count ≡ Ok value
  reading_from-value from [] count reached value begins ends = grind arith
  reading_from-value from (line ∷ lines) count reached value begins ends = grind (arith, reading_from-value (Some begins.0) lines count reached value begins.2 ends)

  reading_from-at_end : (from : Option Body) (lines : List SignificantLine) (count : ℕ) (reached : Option Body) (kind : Kind) → Begins rules from (words_of_lines lines) reached → finish rules reached ≡ Err kind → reading_from rules from lines count ≡ Err (count + 1, kind)
  reading_from-at_end from [] count reached kind begins ends = grind arith
  reading_from-at_end from (line ∷ lines) count reached kind begins ends = grind (arith, reading_from-at_end (Some begins.0) lines count reached kind begins.2 ends)

  reading_from-at_line : (from : Option Body) (before : List SignificantLine) (line : SignificantLine) (after : List SignificantLine) (count : ℕ) (reached : Option Body) (kind : Kind) → Begins rules from (words_of_lines before) reached → step rules reached line.words ≡ Err kind → reading_from rules from (before ++ line ∷ after) count ≡ Err (line.number, kind)
  reading_from-at_line from [] line after count reached kind begins breaks = grind arith
  reading_from-at_line from (first ∷ before) line after count reached kind begins breaks = grind (arith, reading_from-at_line (Some begins.0) before line after count reached kind begins.2 breaks)

  -- why reading from a state gives a value or an error
  abbrev FaultAtLine : Option Body → List SignificantLine → ℕ → Kind → Type 0
  FaultAtLine from lines number kind =
      (before : List SignificantLine) × (line : SignificantLine) × (after : List SignificantLine) × (reached : Option Body)
      × (lines ≡ before ++ line ∷ after) × (line.number ≡ number) × Begins rules from (words_of_lines before) reached × (step rules reached line.words ≡ Err kind)

  abbrev ReachesEnd : Option Body → List SignificantLine → Result Value Kind → Type 0
  ReachesEnd from lines ending = (reached : Option Body) × Begins rules from (words_of_lines lines) reached × (finish rules reached ≡ ending)

  abbrev Explains : Option Body → List SignificantLine → ℕ → Result Value (ℕ × Kind) → Type 0
  Explains from lines count (Ok value) = ReachesEnd from lines (Ok value)
  Explains from lines count (Err fault) = FaultAtLine from lines fault.0 fault.1 ⊎ ((fault.0 ≡ count + 1) × ReachesEnd from lines (Err fault.1))

  explains-nil : (from : Option Body) (count : ℕ) (ending : Result Value Kind) → finish rules from ≡ ending → Explains from [] count (go_on (count + 1) ending (λ v. Ok v))
  explains-nil from count ending ends = grind arith

  explains-more : (from : Option Body) (line : SignificantLine) (lines : List SignificantLine) (count : ℕ) (body : Body) → step rules from line.words ≡ Ok body → (outcome : Result Value (ℕ × Kind)) → Explains (Some body) lines count outcome → Explains from (line ∷ lines) count outcome
  explains-more from line lines count body steps (Ok value) known = (known.0, (body, steps, known.1), known.2)
  explains-more from line lines count body steps (Err fault) (inl known) = inl (line ∷ known.0, known.1, known.2, known.3, ap (λ ls. line ∷ ls) known.4, known.5, (body, steps, known.6), known.7)
  explains-more from line lines count body steps (Err fault) (inr known) = grind arith

  explains-cons : (from : Option Body) (line : SignificantLine) (lines : List SignificantLine) (count : ℕ) (stepped : Result Body Kind) → step rules from line.words ≡ stepped → ((body : Body) → Explains (Some body) lines count (reading_from rules (Some body) lines count)) → Explains from (line ∷ lines) count (go_on line.number stepped (λ body. reading_from rules (Some body) lines count))
  explains-cons from line lines count (Ok body) steps known = explains-more from line lines count body steps _ (known body)
  explains-cons from line lines count (Err kind) steps known = inl ([], line, lines, from, refl, refl, refl, steps)

  explains : (from : Option Body) (lines : List SignificantLine) (count : ℕ) → Explains from lines count (reading_from rules from lines count)
  explains from [] count = explains-nil from count _ refl
  explains from (line ∷ lines) count =
      explains-cons from line lines count _ refl (λ body. explains (Some body) lines count)

  -- reading gives the value if and only if the text stands for it
  pub Stands-reading_of : (text : List ℕ) (value : Value) → Stands rules text value → reading_of rules text ≡ Ok value
  Stands-reading_of text value stands = reading_from-value None _ _ stands.reached value stands.begins stands.ends

  Stands-from_explains : (text : List ℕ) (outcome : Result Value (ℕ × Kind)) → Explains None (significant_lines_of text) (length (lines_of text)) outcome → (value : Value) → outcome ≡ Ok value → Stands rules text value
  Stands-from_explains text outcome why value is = grind arith

  pub Stands-from_reading : (text : List ℕ) (value : Value) → reading_of rules text ≡ Ok value → Stands rules text value
  Stands-from_reading text value is = Stands-from_explains text _ (explains None _ _) value is

  -- and the error if and only if it is the first one
  pub FirstFault-reading_of : (text : List ℕ) (number : ℕ) (kind : Kind) → FirstFault rules text number kind → reading_of rules text ≡ Err (number, kind)
  FirstFault-reading_of text number kind h = grind (arith, reading_from-at_line None, reading_from-at_end None)

  FirstFault-from_explains : (text : List ℕ) (outcome : Result Value (ℕ × Kind)) → Explains None (significant_lines_of text) (length (lines_of text)) outcome → (number : ℕ) (kind : Kind) → outcome ≡ Err (number, kind) → FirstFault rules text number kind
  FirstFault-from_explains text outcome why number kind is = grind arith

  pub FirstFault-from_reading : (text : List ℕ) (number : ℕ) (kind : Kind) → reading_of rules text ≡ Err (number, kind) → FirstFault rules text number kind
  FirstFault-from_reading text number kind is = FirstFault-from_explains text _ (explains None _ _) number kind is

  -- so a reader whose result follows from the text returns the value that it stands for, or its
  -- first error
  pub IfOk-reads : {X : Type 0} (meaning : X → Value) (text : List ℕ) (result : Result X (LineFault Kind)) → Reads meaning result (reading_of rules text) → IfOk result (λ x. Stands rules text (meaning x))
  IfOk-reads meaning text (Ok x) reads = Stands-from_reading text (meaning x) reads
  IfOk-reads meaning text (Err failed) reads = tt

  pub IfErr-reads : {X : Type 0} (meaning : X → Value) (text : List ℕ) (result : Result X (LineFault Kind)) → Reads meaning result (reading_of rules text) → IfErr result (IsFirst rules text)
  IfErr-reads meaning text (Ok x) reads = tt
  IfErr-reads meaning text (Err (fault.At line kind)) reads = FirstFault-from_reading text line kind reads
  IfErr-reads meaning text (Err fault.Memory) reads = tt

  pub Reads-stands : {X : Type 0} (meaning : X → Value) (text : List ℕ) (result : Result X (LineFault Kind)) → Reads meaning result (reading_of rules text) → (value : Value) → Stands rules text value → Reads meaning result (Ok value)
  Reads-stands meaning text result reads value stands =
      subst (λ (outcome : Result Value (ℕ × Kind)). Reads meaning result outcome) (Stands-reading_of text value stands) reads

  pub Reads-breaks : {X : Type 0} (meaning : X → Value) (text : List ℕ) (result : Result X (LineFault Kind)) → Reads meaning result (reading_of rules text) → (number : ℕ) (kind : Kind) → FirstFault rules text number kind → Reads meaning result (Err (number, kind))
  Reads-breaks meaning text result reads number kind first =
      subst (λ (outcome : Result Value (ℕ × Kind)). Reads meaning result outcome) (FirstFault-reading_of text number kind first) reads

  -- each text stands for exactly one value or has exactly one first error
  alone-from : (text : List ℕ) (outcome : Result Value (ℕ × Kind)) → reading_of rules text ≡ outcome → StandsAlone rules text ⊎ BreaksAlone rules text
  alone-from text (Ok value) is = inl (record {
    value = value;
    stands = Stands-from_reading text value is;
    only = λ other stands. let same = sym (Stands-reading_of text other stands) ∙ is in cc same;
    faultless = λ number kind breaks. let same = sym (FirstFault-reading_of text number kind breaks) ∙ is in cc same;
  })
  alone-from text (Err found) is = inr (record {
    number = found.0;
    kind = found.1;
    breaks = FirstFault-from_reading text found.0 found.1 is;
    only = λ other other_kind breaks. let same = sym (FirstFault-reading_of text other other_kind breaks) ∙ is in (cc same, cc same);
    valueless = λ value stands. let same = sym (Stands-reading_of text value stands) ∙ is in cc same;
  })

  pub exactly_one : (text : List ℕ) → StandsAlone rules text ⊎ BreaksAlone rules text
  exactly_one text = alone-from text (reading_of rules text) refl

  -- a text that stands for a value stands for it alone
  pub StandsAlone-stands : (text : List ℕ) (value : Value) → Stands rules text value → StandsAlone rules text
  StandsAlone-stands text value stands = elim (exactly_one text) [
    | inl alone ↦ alone
    | inr broken ↦ absurd (broken.valueless value stands)
  ]

  pub reading_tells : (text : List ℕ) → ReadingTells rules text
  reading_tells text = record {
    values = λ value. (Stands-reading_of text value, Stands-from_reading text value);
    faults = λ number kind. (FirstFault-reading_of text number kind, FirstFault-from_reading text number kind);
  }
