-- Lists of different names: a word of the form of a name is ASCII, hence UTF-8; a word that is
-- none of the names has no place among them; and a further one keeps the names different.
use Rattle.graph_core.proofs.from_counting.Common.{◌≡◌, ◌≢◌, ◌<◌, ◌+◌, inl, inr, ℕ, suc, zero, Bool, true, false, not, cond, nat_lt, ◌||◌, List, [], ◌∷◌, ◌++◌, length, map, get_or, None, refl, sym, ◌∙◌, ap, ap₂, arith, subst, position, String, Global, Result, Ok, Err, IfOk, OnErr, is_some, bytes_eq, IsUtf8, IsAscii, string_bytes, position_or_len, IsUtf8-from_ascii, get_or-append, list_any, list_all, AllByRecursion, cases_Bool, cases_eq, and_parts, both_ways, or_parts, nat_tests, length-append, length-map, map-append, bytes_eq-Decides, get_or-append_seam}
use Rattle.indexmap.specs.IndexSet.{insert_key}
use Rattle.graph_text.specs.Common.{is_name_byte, is_name, is_among, AreNames}

-- a byte of a name is ASCII
name_byte-ascii : (byte : ℕ) → is_name_byte byte ≡ true → byte < 128
unfolding is_name_byte
name_byte-ascii byte is = grind (arith, nat_tests)

bytes-ascii : (word : List ℕ) → list_all is_name_byte word ≡ true → IsAscii word
bytes-ascii [] all i = omega arith
bytes-ascii (byte ∷ word) all zero = name_byte-ascii byte (and_parts (is_name_byte byte) _ all).0
bytes-ascii (byte ∷ word) all (suc i) = bytes-ascii word (and_parts (is_name_byte byte) _ all).1 i

-- a name is UTF-8
pub IsUtf8-name : (word : List ℕ) → is_name word ≡ true → IsUtf8 word
unfolding is_name
IsUtf8-name word is = IsUtf8-from_ascii word (bytes-ascii word (and_parts _ _ (and_parts _ _ is).1).1)

-- places in a list that is seen item by item
module _ {X Y : Type 0} (test : Y → Bool) (view : X → Y) where
  pub position_or_len-map : (xs : List X) → position_or_len test (map view xs) ≡ position_or_len (λ x. test (view x)) xs
  position_or_len-map [] = refl
  position_or_len-map (x ∷ xs) = ap (λ k. cond (not (test (view x))) (1 + k) 0) (position_or_len-map xs)

  pub position-map : (xs : List X) → position test (map view xs) ≡ position (λ x. test (view x)) xs
  position-map xs = grind (arith, nat_lt, position_or_len-map xs, length-map xs view)

-- where the item at each place is another word, the word is not among them
pub among-none : (names : List (List ℕ)) (word : List ℕ) → ((i : ℕ) → i < length names → get_or names i [] ≢ word) → is_among names word ≡ false
among-none [] word others = refl
among-none (name ∷ names) word others = elim (cases_Bool (bytes_eq word name)) [
  | inl same ↦ absurd (others 0 (omega arith) (sym ((bytes_eq-Decides word name).0 same)))
  | inr other ↦ ap₂ ◌||◌ other (among-none names word (λ i less. others (suc i) (omega arith)))
]

-- and the other way round
pub none-among : (names : List (List ℕ)) (word : List ℕ) → is_among names word ≡ false → (i : ℕ) → i < length names → get_or names i [] ≢ word
none-among [] word none i less = absurd (omega arith)
none-among (name ∷ names) word none zero less = grind (arith, both_ways (bytes_eq word name), or_parts (bytes_eq word name), bytes_eq-Decides word name)
none-among (name ∷ names) word none (suc i) less = none-among names word (or_parts (bytes_eq word name) _ none).1 i (omega arith)

-- a word that is none of the names has no place
pub place-none : (names : List (List ℕ)) (word : List ℕ) → is_among names word ≡ false → position_or_len (bytes_eq word) names ≡ length names
place-none [] word none = refl
place-none (name ∷ names) word none =
    let parts = or_parts (bytes_eq word name) _ none in
    ap (λ b. cond (not b) (1 + position_or_len (bytes_eq word) names) 0) parts.0 ∙ (let more = place-none names word parts.1 in omega arith)

-- the place of a name
pub place-first : (names : List (List ℕ)) (word : List ℕ) (i : ℕ) → i < length names → get_or names i [] ≡ word → ((j : ℕ) → j < i → get_or names j [] ≢ word) → position_or_len (bytes_eq word) names ≡ i
place-first [] word i less is others = absurd (omega arith)
place-first (name ∷ names) word zero less is others = grind (arith, bytes_eq-Decides word name)
place-first (name ∷ names) word (suc i) less is others = elim (cases_Bool (bytes_eq word name)) [
  | inl same ↦ absurd (others 0 (omega arith) (sym ((bytes_eq-Decides word name).0 same)))
  | inr other ↦
      ap (λ b. cond (not b) (1 + position_or_len (bytes_eq word) names) 0) other ∙ (let more = place-first names word i (omega arith) is (λ j before. others (suc j) (omega arith)) in omega arith)
]

-- a word that has not the form of a name is none of the names
pub each-name : (names : List (List ℕ)) (i : ℕ) → AllByRecursion (λ name. is_name name ≡ true) names → i < length names → is_name (get_or names i []) ≡ true
each-name [] i each less = absurd (omega arith)
each-name (name ∷ names) zero each less = each.0
each-name (name ∷ names) (suc i) each less = each-name names i each.1 (omega arith)

pub nameless-among : (names : List (List ℕ)) (word : List ℕ) → AreNames names → is_name word ≡ false → is_among names word ≡ false
nameless-among names word are nameless = grind (arith, among-none names word, both_ways (is_name word) nameless, each-name names)

-- such a word has no position
pub position-nameless : (names : List (List ℕ)) (word : List ℕ) → AreNames names → is_name word ≡ false → position (bytes_eq word) names ≡ None
position-nameless names word are nameless = grind (arith, nat_lt, place-none names word (nameless-among names word are nameless), nameless-among names word are nameless, nat_tests)

-- a further name keeps the names different
each-more : (names : List (List ℕ)) (name : List ℕ) → AllByRecursion (λ n. is_name n ≡ true) names → is_name name ≡ true → AllByRecursion (λ n. is_name n ≡ true) (names ++ name ∷ [])
each-more [] name each is = (is, tt)
each-more (first ∷ names) name each is = (each.0, each-more names name each.1 is)

pub AreNames-more : (names : List (List ℕ)) (name : List ℕ) → AreNames names → is_name name ≡ true → is_among names name ≡ false → length names < 128 → AreNames (names ++ name ∷ [])
AreNames-more names name are is none few = record { each = each-more names name are.each is; differ = differ; few = omega (arith, length-append names (name ∷ [])) }
  where
    differ : (i j : ℕ) → i < j → j < length (names ++ name ∷ []) → get_or (names ++ name ∷ []) i [] ≢ get_or (names ++ name ∷ []) j []
    differ i j before within same = elim (cases_eq j (length names)) [
      | inl last ↦ none-among names name none i (omega arith) (sym (get_or-append names (name ∷ []) [] i (omega arith)) ∙ same ∙ ap (λ k. get_or (names ++ name ∷ []) k []) last ∙ get_or-append_seam names name [] [])
      | inr other ↦ grind (arith, length-append names (name ∷ []), get_or-append names (name ∷ []))
    ]

-- a new text goes after the others of a set
module _ (same : String Global → String Global → Bool) (tells : (a b : String Global) → same a b ≡ bytes_eq (string_bytes a) (string_bytes b)) where
  absent : (keys : List (String Global)) (text : String Global) → is_among (map string_bytes keys) (string_bytes text) ≡ false → list_any (same text) keys ≡ false
  absent [] text none = refl
  absent (key ∷ keys) text none =
      let parts = or_parts (bytes_eq (string_bytes text) (string_bytes key)) _ none in
      ap₂ ◌||◌ (tells text key ∙ parts.0) (absent keys text parts.1)

  pub keys-inserted : (keys : List (String Global)) (text : String Global) (name : List ℕ) → string_bytes text ≡ name → is_among (map string_bytes keys) name ≡ false → map string_bytes (insert_key same keys text) ≡ map string_bytes keys ++ name ∷ []
  keys-inserted keys text name is none = grind (arith, absent, string_bytes, map-append)

  pub AreNames-inserted : {B E : Type 0} (r : Result B E) (old new : List (String Global)) (text : String Global) (name : List ℕ) → IfOk r (λ _. new ≡ insert_key same old text) → OnErr r (new ≡ old) → string_bytes text ≡ name → is_name name ≡ true → is_among (map string_bytes old) name ≡ false → length (map string_bytes old) < 128 → AreNames (map string_bytes old) → AreNames (map string_bytes new)
  AreNames-inserted (Ok b) old new text name keys err text_is is none few are =
      subst AreNames (sym (ap (map string_bytes) keys ∙ keys-inserted old text name text_is none)) (AreNames-more (map string_bytes old) name are is none few)
  AreNames-inserted (Err e) old new text name keys err text_is is none few are = subst AreNames (sym (ap (map string_bytes) err)) are

-- a word has a place if and only if it is one of the names
place-within : (names : List (List ℕ)) (word : List ℕ) → nat_lt (position_or_len (bytes_eq word) names) (length names) ≡ is_among names word
place-within [] word = refl
place-within (name ∷ names) word = elim (cases_Bool (bytes_eq word name)) [
  | inl same ↦ grind arith
  | inr other ↦ grind (arith, nat_lt, one_more (position_or_len (bytes_eq word) names) (length names), place-within names word)
]
  where
    one_more : (p n : ℕ) → nat_lt (1 + p) (suc n) ≡ nat_lt p n
    one_more p n = grind (arith, nat_tests)

pub is_some-position : (names : List (List ℕ)) (word : List ℕ) → is_some (position (bytes_eq word) names) ≡ is_among names word
is_some-position names word = grind (arith, nat_lt (position_or_len (bytes_eq word) names) (length names), place-within names word)
