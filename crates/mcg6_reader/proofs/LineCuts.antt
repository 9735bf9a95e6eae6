-- A text is cut into lines from the front. A byte that is not a line feed is put onto the first
-- line of what follows it, a line feed is the end of a line: so the lines of a text that a line
-- feed ends are followed by those of the text after it.
use Rattle.std.proofs.Common.{◌≡◌, inl, inr, ℕ, suc, ◌+◌, ◌<◌, ◌≤◌, List, [], ◌∷◌, ◌++◌, length, take, drop, Some, None, position, true, false, refl, sym, subst, ◌∙◌, ap, arith, append_assoc, lt-ltb, append-nil}
use Rattle.std.specs.List.{onto_first, position_or_len}
use Rattle.std.proofs.lemmas.Bool.{cases_Bool, cases_lt}
use Rattle.std.proofs.lemmas.Bool.Decides.{nat_tests}
use Rattle.mcg6_reader.specs.Common.{is_line_feed, lines_of, HasNoFeed, IsClosedText, IsFirstLine}

pub lines_of-nil : lines_of [] ≡ []
unfolding lines_of
lines_of-nil = refl

-- a line feed is a line by itself
pub lines_of-feed : (byte : ℕ) (text : List ℕ) → is_line_feed byte ≡ true → lines_of (byte ∷ text) ≡ (byte ∷ []) ∷ lines_of text
unfolding lines_of
lines_of-feed byte text feed = rw feed refl

-- any other byte begins the first line
pub lines_of-byte : (byte : ℕ) (text : List ℕ) → is_line_feed byte ≡ false → lines_of (byte ∷ text) ≡ onto_first byte (lines_of text)
unfolding lines_of
lines_of-byte byte text other = rw other refl

-- the byte is the line feed
feed-is : (byte : ℕ) → is_line_feed byte ≡ true → byte ≡ 10
feed-is byte feed = grind (arith, nat_tests)

-- some list begins with an element
IsCons : List (List ℕ) → Type 0
IsCons lines = (line : List ℕ) × (others : List (List ℕ)) × (lines ≡ line ∷ others)

-- a text that is not empty has a first line
IsCons-lines_of : (byte : ℕ) (text : List ℕ) → IsCons (lines_of (byte ∷ text))
unfolding IsCons
IsCons-lines_of byte text = grind (arith, cases_Bool (is_line_feed byte), lines_of-feed byte text, lines_of-byte byte text)

IsCons-closed : (front : List ℕ) → IsCons (lines_of (front ++ 10 ∷ []))
IsCons-closed [] = IsCons-lines_of 10 []
IsCons-closed (byte ∷ front) = IsCons-lines_of byte (front ++ 10 ∷ [])

onto_first-append : (byte : ℕ) (lines more : List (List ℕ)) → IsCons lines → onto_first byte (lines ++ more) ≡ onto_first byte lines ++ more
unfolding IsCons
onto_first-append byte lines more some = grind arith

lines_of-fed :
    (front more : List ℕ) → lines_of ((front ++ 10 ∷ []) ++ more) ≡ lines_of (front ++ 10 ∷ []) ++ lines_of more
unfolding lines_of
lines_of-fed [] more = refl
lines_of-fed (byte ∷ front) more = elim (cases_Bool (is_line_feed byte)) [
  | inl feed ↦
      lines_of-feed byte ((front ++ 10 ∷ []) ++ more) feed
      ∙ ap (λ (ls : List (List ℕ)). (byte ∷ []) ∷ ls) (lines_of-fed front more)
      ∙ ap (λ (ls : List (List ℕ)). ls ++ lines_of more) (sym (lines_of-feed byte (front ++ 10 ∷ []) feed))
  | inr other ↦
      lines_of-byte byte ((front ++ 10 ∷ []) ++ more) other
      ∙ ap (onto_first byte) (lines_of-fed front more)
      ∙ onto_first-append byte (lines_of (front ++ 10 ∷ [])) (lines_of more) (IsCons-closed front)
      ∙ ap (λ (ls : List (List ℕ)). ls ++ lines_of more) (sym (lines_of-byte byte (front ++ 10 ∷ []) other))
]

-- after a text that a line feed ends, lines begin anew
pub lines_of-closed : (text more : List ℕ) → IsClosedText text → lines_of (text ++ more) ≡ lines_of text ++ lines_of more
lines_of-closed text more (inl empty) = grind (arith, lines_of-nil)
lines_of-closed text more (inr (front, fed)) =
    subst (λ (t : List ℕ). lines_of (t ++ more) ≡ lines_of t ++ lines_of more) (sym fed) (lines_of-fed front more)

pub IsClosedText-append : (first second : List ℕ) → IsClosedText first → IsClosedText second → IsClosedText (first ++ second)
IsClosedText-append first second one h = grind (arith, append-nil first, append_assoc first)

-- a text whose first byte is a line feed
IsFirstLine-feed : (byte : ℕ) (text : List ℕ) → is_line_feed byte ≡ true → IsFirstLine (byte ∷ text) (byte ∷ []) text
IsFirstLine-feed byte text feed = grind (arith, lines_of-feed byte, lines_of-nil, feed-is byte feed)

IsClosedText-cons : (byte : ℕ) (line : List ℕ) → lines_of line ≡ line ∷ [] → IsClosedText line → IsClosedText (byte ∷ line)
IsClosedText-cons byte line alone (inl empty) = cc (ap lines_of empty, lines_of-nil)
IsClosedText-cons byte line alone (inr (front, fed)) = inr (byte ∷ front, ap (λ (t : List ℕ). byte ∷ t) fed)

-- a text whose first byte is not a line feed
IsFirstLine-byte :
    (byte : ℕ) (text line behind : List ℕ) → is_line_feed byte ≡ false →
    IsFirstLine text line behind → IsFirstLine (byte ∷ text) (byte ∷ line) behind
IsFirstLine-byte byte text line behind other first = record {
  whole = ap (λ (t : List ℕ). byte ∷ t) first.whole;
  alone = lines_of-byte byte line other ∙ ap (onto_first byte) first.alone;
  closed = IsClosedText-cons byte line first.alone first.closed;
  shorter = let less = first.shorter in omega arith;
}

-- a text is cut after its first line feed
pub first_line_cut :
    (text : List ℕ) → position_or_len is_line_feed text < length text →
    IsFirstLine text (take (position_or_len is_line_feed text + 1) text) (drop (position_or_len is_line_feed text + 1) text)
first_line_cut [] found = absurd (omega arith)
first_line_cut (byte ∷ text) found = elim (cases_Bool (is_line_feed byte)) [
  | inl feed ↦
      let none : position_or_len is_line_feed (byte ∷ text) + 1 ≡ 1 = rw feed refl in
      subst (λ (n : ℕ). IsFirstLine (byte ∷ text) (take n (byte ∷ text)) (drop n (byte ∷ text))) (sym none)
      (IsFirstLine-feed byte text feed)
  | inr other ↦
      let more : position_or_len is_line_feed (byte ∷ text) ≡ 1 + position_or_len is_line_feed text = rw other refl in
      let next : position_or_len is_line_feed (byte ∷ text) + 1 ≡ suc (position_or_len is_line_feed text + 1) = omega arith in
      subst (λ (n : ℕ). IsFirstLine (byte ∷ text) (take n (byte ∷ text)) (drop n (byte ∷ text))) (sym next)
      (IsFirstLine-byte byte text _ _ other (first_line_cut text (omega arith)))
]

-- if no line feed is found, there is none
pub no_feed_found : (text : List ℕ) → length text ≤ position_or_len is_line_feed text → HasNoFeed text
no_feed_found [] none = refl
no_feed_found (byte ∷ text) none = elim (cases_Bool (is_line_feed byte)) [
  | inl feed ↦ let at : position_or_len is_line_feed (byte ∷ text) ≡ 0 = rw feed refl in absurd (omega arith)
  | inr other ↦
      let more : position_or_len is_line_feed (byte ∷ text) ≡ 1 + position_or_len is_line_feed text = rw other refl in
      rw other (no_feed_found text (omega arith))
]

-- the same, as a search for it returns it
pub no_feed_position : (text : List ℕ) → position is_line_feed text ≡ None → HasNoFeed text
no_feed_position text none = grind (arith, cases_lt (position_or_len is_line_feed text) (length text), lt-ltb (position_or_len is_line_feed text) (length text), no_feed_found text)

pub first_line_position :
    (text : List ℕ) (end : ℕ) → position is_line_feed text ≡ Some end →
    IsFirstLine text (take (end + 1) text) (drop (end + 1) text)
first_line_position text end some = elim (cases_lt (position_or_len is_line_feed text) (length text)) [
  | inl found ↦
      let test = lt-ltb (position_or_len is_line_feed text) (length text) found in
      let is : position is_line_feed text ≡ Some (position_or_len is_line_feed text) = rw test refl in
      let same : position_or_len is_line_feed text ≡ end = cc in
      subst (λ (n : ℕ). IsFirstLine text (take (n + 1) text) (drop (n + 1) text)) same (first_line_cut text found)
  | inr absent ↦
      let none : position is_line_feed text ≡ None = grind (arith, nat_tests) in
      cc
]

-- the first byte of a text without line feeds is not one, and none is after it
no_feed-first : (byte : ℕ) (text : List ℕ) → HasNoFeed (byte ∷ text) → (is_line_feed byte ≡ false) × HasNoFeed text
no_feed-first byte text none = grind arith

-- a text without line feeds is one line
pub lines_of-last : (text : List ℕ) → HasNoFeed text → 0 < length text → lines_of text ≡ text ∷ []
lines_of-last [] none some = absurd (omega arith)
lines_of-last (byte ∷ []) none some = grind (arith, lines_of-byte byte, no_feed-first byte, lines_of-nil)
lines_of-last (byte ∷ next ∷ text) none some =
    let first = no_feed-first byte (next ∷ text) none in
    lines_of-byte byte (next ∷ text) first.0 ∙ ap (onto_first byte) (lines_of-last (next ∷ text) first.1 (omega arith))

-- a text without line feeds belongs to the first line
pub record BeginsLine (text rest : List ℕ) : Type 0 where
  pub more : List ℕ
  pub others : List (List ℕ)
  pub first : lines_of (text ++ rest) ≡ (text ++ more) ∷ others

onto_first-begins : (byte : ℕ) (lines : List (List ℕ)) → (more : List ℕ) × (others : List (List ℕ)) × (onto_first byte lines ≡ (byte ∷ more) ∷ others)
onto_first-begins byte [] = ([], [], refl)
onto_first-begins byte (line ∷ lines) = (line, lines, refl)

pub lines_of-begun : (text rest : List ℕ) → HasNoFeed text → 0 < length text → BeginsLine text rest
lines_of-begun [] rest none some = absurd (omega arith)
lines_of-begun (byte ∷ []) rest none some =
    let begins = onto_first-begins byte (lines_of rest) in
    grind (arith, lines_of-byte, no_feed-first)
lines_of-begun (byte ∷ next ∷ text) rest none some =
    let first = no_feed-first byte (next ∷ text) none in
    let begun = lines_of-begun (next ∷ text) rest first.1 (omega arith) in
    grind (arith, lines_of-byte byte ((next ∷ text) ++ rest) first.0)
