-- The text of a list of lines is that of the first and then that of the others, and a line is its
-- first word and each further word after a space.
use Rattle.std.proofs.Common.{◌≡◌, ◌+◌, ◌<◌, ℕ, suc, List, [], ◌∷◌, ◌++◌, length, get_or, map, take, refl, sym, ◌∙◌, ap, arith, append_assoc, append-nil, take-suc}
use Rattle.std.proofs.lemmas.List.{map-append}
use Rattle.line_text.specs.Common.{unwords, written}

-- what is written of lines and further lines
pub written-append : (lines more : List (List (List ℕ))) → written (lines ++ more) ≡ written lines ++ written more
written-append [] more = refl
written-append (words ∷ lines) more = grind (arith, written-append lines more, append_assoc (unwords words) (10 ∷ written lines) (written more))

-- one more item, a line each
pub written-more : {X : Type 0} (words_of : X → List (List ℕ)) (before : List (List (List ℕ))) (xs : List X) (i : ℕ) (d : X) → i < length xs → written (before ++ map words_of (take (i + 1) xs)) ≡ written (before ++ map words_of (take i xs)) ++ written (words_of (get_or xs i d) ∷ [])
written-more words_of before xs i d less =
    let e : i + 1 ≡ suc i = omega arith in
    ap (λ k. written (before ++ map words_of (take k xs))) e
    ∙ ap (λ ys. written (before ++ map words_of ys)) (take-suc xs i d less)
    ∙ ap (λ lines. written (before ++ lines)) (map-append words_of (take i xs) (get_or xs i d ∷ []))
    ∙ ap written (sym (append_assoc before (map words_of (take i xs)) (words_of (get_or xs i d) ∷ [])))
    ∙ written-append (before ++ map words_of (take i xs)) (words_of (get_or xs i d) ∷ [])

-- words, each after a space
abbrev pub spaced : List (List ℕ) → List ℕ
spaced [] = []
spaced (word ∷ words) = 32 ∷ (word ++ spaced words)

pub unwords-spaced : (word : List ℕ) (words : List (List ℕ)) → unwords (word ∷ words) ≡ word ++ spaced words
unwords-spaced word [] = sym (append-nil word)
unwords-spaced word (next ∷ words) = ap (λ text. word ++ 32 ∷ text) (unwords-spaced next words)
