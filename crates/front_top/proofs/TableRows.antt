-- The rows of the table are the words that some command matches: by the number of words. A word
-- that is a number has nine digits at most, so the range of a seed refuses none.
use Rattle.std.proofs.Common.{◌≡◌, ◌≤◌, ◌<◌, ◌^◌, ◌&&◌, ◌||◌, ℕ, List, [], ◌∷◌, length, Bool, true, false, nat_le, refl, rules, ap, sym, subst, arith, codes, if◌then◌else◌, Option, Some, None, is_some, unwrap_or, option_map, bytes_eq}
use Rattle.std.specs.Char.{is_ascii_digit}
use Rattle.std.specs.List.{list_all}
use Rattle.std.specs.Cmp.{both_ways}
use Rattle.std.specs.Str.Parse.{digits_value}
use Rattle.std.proofs.lemmas.Bool.Decides.{nat_tests}
use Rattle.std.proofs.lemmas.Slice.Eq.{bytes_eq-Decides}
use Rattle.std.proofs.lemmas.Str.Parse.{IsDigitsTest, IsNumeralModel, digits_value_short, numerals_by_value}
use Rattle.line_text.specs.Common.{is_number, number_of, value_of}
use Rattle.bench_top.specs.from_decomposer.Common.{order_named}
use Rattle.bench_top.specs.from_bench_tasks.Common.{command_of}
use Rattle.front_words.specs.from_command_table.Rows.{matches_a_row, is_number_in, is_one_of}
use Rattle.front_words.specs.from_command_table.Table.{orders, rows}

tells_digits : IsDigitsTest (λ ds. list_all is_ascii_digit ds ≡ true)
tells_digits = search rules

numerals : IsNumeralModel (λ ds. list_all is_ascii_digit ds ≡ true) (digits_value 10)
numerals = numerals_by_value (λ ds. list_all is_ascii_digit ds ≡ true) tells_digits

-- what a test of a number lets through
passed : (few many : Bool) (all : Bool) (n : ℕ) → is_some (if few && (many && all) then Some n else None) ≡ true → (many ≡ true) × (all ≡ true) × (unwrap_or (if few && (many && all) then Some n else None) 0 ≡ n)
passed few many all n is = grind arith

pub value-below : (word : List ℕ) → is_number word ≡ true → value_of word ≤ 999_999_999
unfolding number_of
value-below word is =
    let parts = passed (nat_le 1 (length word)) (nat_le (length word) 9) (list_all is_ascii_digit word) (digits_value 10 word) is in
    let few : length word ≤ 9 = grind (arith, nat_tests, parts.0) in
    let less : digits_value 10 word < 10 ^ 9 = digits_value_short numerals word 9 parts.1 few in
    subst (λ (n : ℕ). n ≤ 999_999_999) (sym parts.2) (omega (arith, less))

-- the cases of three words
pub of_two : {X Y : Type 0} (p q g : X) (h : Y → X) (o : Option Y) (order check ears grow decompose seed pieces : Bool) → is_some o ≡ order → (grow ≡ true → decompose ≡ false) →
    is_some (if check then Some p else (if ears then Some q else (if grow then (if seed && pieces then Some g else None) else (if decompose then option_map h o else None))))
    ≡ (((order && true) && decompose) || (check || (ears || (((pieces && seed) && grow) || false))))
of_two p q g h o order true ears grow decompose seed pieces is apart = grind arith
of_two p q g h o order false true grow decompose seed pieces is apart = grind arith
of_two p q g h o order false false true decompose seed pieces is apart = grind (arith, apart)
of_two p q g h o order false false false decompose seed pieces is apart = grind (arith, is)

-- the word of an order
named_or : {X : Type 0} (p q r : X) (a b c : Bool) → is_some (if a then Some p else (if b then Some q else (if c then Some r else None))) ≡ ((a || (b || (c || false))) || false)
named_or p q r true b c = refl
named_or p q r false true c = refl
named_or p q r false false true = refl
named_or p q r false false false = refl

order_is : (word : List ℕ) → is_some (order_named word) ≡ is_one_of orders [] word
order_is word = named_or _ _ _ (bytes_eq word (codes "first")) (bytes_eq word (codes "last")) (bytes_eq word (codes "balanced"))

-- the range of a seed refuses no number
seed_is : (word : List ℕ) → is_number_in 0 999_999_999 word ≡ is_number word
seed_is word = grind (arith, nat_tests, value-below word)

apart : (word : List ℕ) → bytes_eq word (codes "grow") ≡ true → bytes_eq word (codes "decompose") ≡ false
apart word is = ap (λ w. bytes_eq w (codes "decompose")) ((bytes_eq-Decides word (codes "grow")).0 is)

pub listed : (words : List (List ℕ)) → is_some (command_of words) ≡ matches_a_row rows words
unfolding rows
listed [] = refl
listed (w ∷ []) = refl
listed (w ∷ f ∷ []) = grind (arith, both_ways)
listed (w ∷ f ∷ s ∷ []) =
    rw (seed_is f)
    (of_two _ _ _ _ (order_named s) (is_one_of orders [] s) (bytes_eq w (codes "check")) (bytes_eq w (codes "checkears")) (bytes_eq w (codes "grow")) (bytes_eq w (codes "decompose"))
    (is_number f) (is_number_in 1 16 s) (order_is s) (apart w))
listed (w ∷ f ∷ s ∷ t ∷ []) = grind (arith, both_ways)
listed (w ∷ f ∷ s ∷ t ∷ u ∷ words) = refl
