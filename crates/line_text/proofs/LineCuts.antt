-- A text is cut into lines from the front: the first line ends at the first line feed, and the
-- others follow. The text after a line feed has its own parts, so the part before it is a line,
-- even an empty one.
use Rattle.std.proofs.Common.{◌≡◌, inl, inr, ℕ, ◌+◌, ◌<◌, ◌≤◌, List, [], ◌∷◌, ◌++◌, length, position, unwrap_or, Bool, true, false, cond, refl, ◌∙◌, ap, arith, lt-ltb, take_all}
use Rattle.std.specs.List.{slice_split, onto_first, position_or_len, before_first, after_first}
use Rattle.std.proofs.lemmas.Bool.{cases_Bool, cases_lt}
use Rattle.std.proofs.lemmas.Bool.Decides.{nat_tests}
use Rattle.std.proofs.lemmas.List.{drop_all}
use Rattle.std.proofs.lemmas.List.Splits.{slice_split_first, slice_split-cons_no, slice_split-cons_yes}
use Rattle.std.proofs.lemmas.List.Sums.{prefix_len-le-length}
use Rattle.line_text.specs.Common.{is_line_feed, lines_of, lines_of_parts}

-- some list begins with an element
IsCons : {A : Type 0} → List A → Type 0
IsCons {A} xs = (x : A) × (rest : List A) × (xs ≡ x ∷ rest)

IsCons-onto_first : (x : ℕ) (parts : List (List ℕ)) → IsCons (onto_first x parts)
unfolding IsCons
IsCons-onto_first x [] = (_, _, refl)
IsCons-onto_first x (part ∷ parts) = (_, _, refl)

IsCons-cond : (b : Bool) (xs ys : List (List ℕ)) → IsCons xs → IsCons ys → IsCons (cond b xs ys)
IsCons-cond b xs ys first second = grind arith

-- each text has a first part
IsCons-slice_split : (text : List ℕ) → IsCons (slice_split is_line_feed text)
unfolding IsCons
IsCons-slice_split [] = (_, _, refl)
IsCons-slice_split (byte ∷ text) = IsCons-cond (is_line_feed byte) _ _ (_, _, refl) (IsCons-onto_first byte (slice_split is_line_feed text))

-- the lines of parts the first of which ends with a line feed
lines_of_parts-cons : (part : List ℕ) (parts : List (List ℕ)) → IsCons parts → lines_of_parts (part ∷ parts) ≡ part ∷ lines_of_parts parts
unfolding IsCons
lines_of_parts-cons part parts more = grind arith

-- the first line of a text with a line feed
lines_of-fed : (text : List ℕ) → position_or_len is_line_feed text < length text → lines_of text ≡ before_first is_line_feed text ∷ lines_of (after_first is_line_feed text)
unfolding lines_of
lines_of-fed text fed = grind (arith, slice_split_first, lines_of_parts-cons)

-- a list that no element cuts is its one part
slice_split-whole : (p : ℕ → Bool) (xs : List ℕ) → length xs ≤ position_or_len p xs → slice_split p xs ≡ xs ∷ []
slice_split-whole p [] whole = refl
slice_split-whole p (x ∷ xs) whole = elim (cases_Bool (p x)) [
  | inl met ↦ let none : position_or_len p (x ∷ xs) ≡ 0 = rw met refl in absurd (omega arith)
  | inr unmet ↦
      let more : position_or_len p (x ∷ xs) ≡ 1 + position_or_len p xs = rw unmet refl in
      slice_split-cons_no p x xs unmet ∙ ap (onto_first x) (slice_split-whole p xs (omega arith))
]

-- the one line of a text without a line feed
lines_of-unfed : (text : List ℕ) → 0 < length text → length text ≤ position_or_len is_line_feed text → lines_of text ≡ text ∷ []
unfolding lines_of
lines_of-unfed text some unfed = grind (arith, nat_tests, slice_split-whole is_line_feed)

pub lines_of-nil : lines_of [] ≡ []
unfolding lines_of
lines_of-nil = refl

-- a text that is not empty has a first line, and the lines of the text after its line feed
pub lines_of-first : (text : List ℕ) → 0 < length text → lines_of text ≡ before_first is_line_feed text ∷ lines_of (after_first is_line_feed text)
lines_of-first text some = grind (arith, cases_lt, lines_of-fed, take_all, drop_all, lines_of-unfed, lines_of-nil)

-- where a search finds no line feed, the first line is the whole text
pub position_or_len-from_position : (text : List ℕ) → unwrap_or (position is_line_feed text) (length text) ≡ position_or_len is_line_feed text
position_or_len-from_position text = grind (arith, cases_lt, lt-ltb, nat_tests, prefix_len-le-length)

-- a line feed ends an empty line
pub lines_of-feed : (byte : ℕ) (text : List ℕ) → is_line_feed byte ≡ true → lines_of (byte ∷ text) ≡ [] ∷ lines_of text
unfolding lines_of
lines_of-feed byte text feed =
    ap lines_of_parts (slice_split-cons_yes is_line_feed byte text feed) ∙ lines_of_parts-cons [] _ (IsCons-slice_split text)

lines_of_parts-onto_first : (byte : ℕ) (parts : List (List ℕ)) → lines_of_parts (onto_first byte parts) ≡ onto_first byte (lines_of_parts parts)
lines_of_parts-onto_first byte [] = grind (arith, nat_tests)
lines_of_parts-onto_first byte (part ∷ next ∷ parts) = refl
lines_of_parts-onto_first byte ([] ∷ []) = grind (arith, nat_tests)
lines_of_parts-onto_first byte ((first ∷ part) ∷ []) = grind (arith, nat_tests)

-- any other byte begins the first line
pub lines_of-byte : (byte : ℕ) (text : List ℕ) → is_line_feed byte ≡ false → lines_of (byte ∷ text) ≡ onto_first byte (lines_of text)
unfolding lines_of
lines_of-byte byte text other = grind (arith, slice_split-cons_no is_line_feed byte text other, lines_of_parts-onto_first byte (slice_split is_line_feed text))

onto_first-append : (byte : ℕ) (lines more : List (List ℕ)) → IsCons lines → onto_first byte (lines ++ more) ≡ onto_first byte lines ++ more
unfolding IsCons
onto_first-append byte lines more some = grind arith

-- a byte before a nonempty text belongs to that text's first line
pub onto_first-lines_of : (byte : ℕ) (text : List ℕ) (more : List (List ℕ)) → 0 < length text → onto_first byte (lines_of text ++ more) ≡ onto_first byte (lines_of text) ++ more
unfolding IsCons
onto_first-lines_of byte text more some = onto_first-append byte (lines_of text) more (_, _, lines_of-first text some)
