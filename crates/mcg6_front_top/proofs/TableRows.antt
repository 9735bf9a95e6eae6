-- The rows of the table of `mcg6` are the words that some command matches. What may follow a query
-- is the same on both sides; the rest are laws of truth values, with the tests of the words for
-- variables.
use Rattle.std.proofs.Common.{◌≡◌, ◌∙◌, ◌&&◌, ◌||◌, ℕ, List, [], ◌∷◌, drop, Bool, true, false, nat_eq, codes, refl, ap, sym, subst, if◌then◌else◌, Option, Some, None, is_some, bytes_eq}
use Rattle.std.specs.List.{list_any, starts_with}
use Rattle.std.specs.Option.{option_map, option_or}
use Rattle.std.proofs.Math.Bool.{or-false}
use Rattle.std.proofs.lemmas.Option.{same_Some}
use Rattle.std.proofs.lemmas.Slice.Eq.{bytes_eq-Decides}
use Rattle.line_text.specs.Common.{number_of}
use Rattle.mcg6_top.specs.from_decomposer.Common.{order_named}
use Rattle.mcg6_top.specs.from_decomposer.declared.orders.NamedOrder.TheVariants.{First}
use Rattle.mcg6_top.specs.from_mcg6_lines.declared.query.Property.TheVariants.{Bricks, Braces}
use Rattle.mcg6_top.specs.from_mcg6_lines.declared.query.Query.{Query}
use Rattle.mcg6_top.specs.from_mcg6_lines.declared.query.Query.TheVariants.{Kinds, Leaves, Elementary, Matching, Cuts, Ears, Graph, Select}
use Rattle.mcg6_top.specs.Common.{ListCommand, asks_skip, command_if, command_of, command_or, list_command_of, command_with, counted_property, encode_of, leaves_named, may_skip, pair_command, property_named, query_named, select_named}
use Rattle.front_words.specs.from_command_table.Rows.{fit_optional, is_counted, matches_a_row, is_one_of}
use Rattle.front_words.specs.from_command_table.Table.{counted_properties, file, list_rows, orders, properties, skip_file}

-- the word of an order
named_or : {X : Type 0} (p q r : X) (a b c : Bool) → is_some (if a then Some p else (if b then Some q else (if c then Some r else None))) ≡ ((a || (b || (c || false))) || false)
named_or p q r true b c = refl
named_or p q r false true c = refl
named_or p q r false false true = refl
named_or p q r false false false = refl

some_map : {X Y : Type 0} (f : X → Y) (o : Option X) → is_some (option_map f o) ≡ is_some o
some_map f None = refl
some_map f (Some x) = refl

order_is : (word : List ℕ) → is_some (leaves_named word) ≡ is_one_of orders [] word
unfolding leaves_named
order_is word = some_map _ (order_named word) ∙ named_or _ _ _ (bytes_eq word (codes "first")) (bytes_eq word (codes "last")) (bytes_eq word (codes "balanced"))

-- the word of a property with a number
counted_or : (m n : Option ℕ) (a b : Bool) →
    is_some (option_or (if a then option_map Bricks m else None) (if b then option_map Braces n else None)) ≡ ((a && is_some m) || ((b && is_some n) || false))
counted_or None None true true = refl
counted_or None (Some k) true true = refl
counted_or (Some l) n true b = refl
counted_or None n true false = refl
counted_or m None false true = refl
counted_or m (Some k) false true = refl
counted_or m n false false = refl

counted_is : (word : List ℕ) → is_some (counted_property word) ≡ list_any (λ beginning. is_counted word beginning) counted_properties
unfolding counted_property
counted_is word =
    counted_or (number_of (drop 7 word)) (number_of (drop 7 word)) (starts_with nat_eq word (codes "bricks=")) (starts_with nat_eq word (codes "braces="))

-- the word of a property
property_or : {X : Type 0} (p q r s t u v : X) (o : Option X) (a b c d e f g k : Bool) → is_some o ≡ k →
    is_some (if a then Some p else (if b then Some q else (if c then Some r else (if d then Some s else (if e then Some t else (if f then Some u else (if g then Some v else o)))))))
    ≡ ((a || (b || (c || (d || (e || (f || (g || false))))))) || k)
property_or p q r s t u v o true b c d e f g k is = refl
property_or p q r s t u v o false true c d e f g k is = refl
property_or p q r s t u v o false false true d e f g k is = refl
property_or p q r s t u v o false false false true e f g k is = refl
property_or p q r s t u v o false false false false true f g k is = refl
property_or p q r s t u v o false false false false false true g k is = refl
property_or p q r s t u v o false false false false false false true k is = refl
property_or p q r s t u v o false false false false false false false k is = is

property_is : (word : List ℕ) → is_some (select_named word) ≡ is_one_of properties counted_properties word
unfolding select_named
property_is word =
    some_map _ (property_named word)
    ∙ property_or _ _ _ _ _ _ _ (counted_property word) (bytes_eq word (codes "covered")) (bytes_eq word (codes "uncovered")) (bytes_eq word (codes "perfect")) (bytes_eq word (codes "brick"))
    (bytes_eq word (codes "brace")) (bytes_eq word (codes "bicritical")) (bytes_eq word (codes "composite")) _ (counted_is word)

some_if : {X : Type 0} (x : X) (a : Bool) → is_some (if a then Some x else None) ≡ a
some_if x true = refl
some_if x false = refl

some_either : {X : Type 0} (x y : X) (a : Bool) → is_some (if a then Some x else Some y) ≡ true
some_either x y true = refl
some_either x y false = refl

itself : (a : Bool) → (if a then true else false) ≡ a
itself true = refl
itself false = refl

optional_one : (a : Bool) → (if a then true else true) ≡ true
optional_one true = refl
optional_one false = refl

optional_more : (a : Bool) → (if a then false else false) ≡ false
optional_more true = refl
optional_more false = refl

-- a command has such words exactly if they fit those of the row
with_fits : (query : Query) → may_skip query ≡ true → (words : List (List ℕ)) → is_some (command_with query words) ≡ fit_optional skip_file words
with_fits query may [] = refl
with_fits query may (word ∷ []) = some_either _ _ (asks_skip query word) ∙ sym (optional_one (bytes_eq word (codes "skip")))
with_fits query may (word ∷ name ∷ []) =
    some_if _ (asks_skip query word) ∙ ap (λ (m : Bool). m && bytes_eq word (codes "skip")) may ∙ sym (itself (bytes_eq word (codes "skip")))
with_fits query may (word ∷ name ∷ third ∷ words) = sym (optional_more (bytes_eq word (codes "skip")))

-- the file of one graph has only a file after it
graph_fits : (words : List (List ℕ)) → is_some (command_with Graph words) ≡ fit_optional file words
graph_fits [] = refl
graph_fits (word ∷ []) = refl
graph_fits (word ∷ name ∷ []) = refl
graph_fits (word ∷ name ∷ third ∷ words) = refl

-- the query that a word names, and the words after it
named_if : (kinds leaves elementary matching cuts ears graph : Bool) (words : List (List ℕ)) →
    is_some (command_if (if kinds then Some Kinds else (if leaves then Some (Leaves First) else (if elementary then Some Elementary else (if matching then Some Matching else (if cuts then Some Cuts else (if ears then Some Ears else (if graph then Some Graph else None))))))) words)
    ≡ (if kinds then fit_optional skip_file words else (if leaves then fit_optional skip_file words else (if elementary then fit_optional skip_file words else (if matching then fit_optional skip_file words else (if cuts then fit_optional skip_file words else (if ears then fit_optional skip_file words else (if graph then fit_optional file words else false)))))))
named_if true leaves elementary matching cuts ears graph words = with_fits Kinds refl words
named_if false true elementary matching cuts ears graph words = with_fits (Leaves First) refl words
named_if false false true matching cuts ears graph words = with_fits Elementary refl words
named_if false false false true cuts ears graph words = with_fits Matching refl words
named_if false false false false true ears graph words = with_fits Cuts refl words
named_if false false false false false true graph words = with_fits Ears refl words
named_if false false false false false false true words = graph_fits words
named_if false false false false false false false words = refl

named_fits : (word : List ℕ) (words : List (List ℕ)) → is_some (command_if (query_named word) words)
    ≡ (if bytes_eq word (codes "kinds") then fit_optional skip_file words else (if bytes_eq word (codes "leaves") then fit_optional skip_file words else (if bytes_eq word (codes "elementary") then fit_optional skip_file words else (if bytes_eq word (codes "matching") then fit_optional skip_file words else (if bytes_eq word (codes "cuts") then fit_optional skip_file words else (if bytes_eq word (codes "ears") then fit_optional skip_file words else (if bytes_eq word (codes "graph") then fit_optional file words else false)))))))
named_fits word words =
    named_if (bytes_eq word (codes "kinds")) (bytes_eq word (codes "leaves")) (bytes_eq word (codes "elementary")) (bytes_eq word (codes "matching")) (bytes_eq word (codes "cuts")) (bytes_eq word (codes "ears")) (bytes_eq word (codes "graph")) words

-- a query that two words name, and the words after them; or the second is one of those
second_if : (o : Option Query) → ((query : Query) → o ≡ Some query → may_skip query ≡ true) → (word second : List ℕ) (words : List (List ℕ)) →
    is_some (pair_command o word second words) ≡ (if is_some o then fit_optional skip_file words else is_some (command_if (query_named word) (second ∷ words)))
second_if None may word second words = refl
second_if (Some query) may word second words = with_fits query (may query refl) words

map_may : {X : Type 0} (f : X → Query) → ((x : X) → may_skip (f x) ≡ true) → (o : Option X) (query : Query) → option_map f o ≡ Some query → may_skip query ≡ true
map_may f may None query is = absurd (cc is)
map_may f may (Some x) query is = subst (λ (q : Query). may_skip q ≡ true) (same_Some (f x) query is) (may x)

leaves_may : (word : List ℕ) (query : Query) → leaves_named word ≡ Some query → may_skip query ≡ true
unfolding leaves_named
leaves_may word = map_may Leaves (λ order. refl) (order_named word)

select_may : (word : List ℕ) (query : Query) → select_named word ≡ Some query → may_skip query ≡ true
unfolding select_named
select_may word = map_may Select (λ property. refl) (property_named word)

-- the command of two words and more, by the first
second_fits : (leaves select : Bool) (word second : List ℕ) (words : List (List ℕ)) →
    is_some (pair_command (if leaves then leaves_named second else (if select then select_named second else None)) word second words)
    ≡ (if leaves then (if is_one_of orders [] second then fit_optional skip_file words else is_some (command_if (query_named word) (second ∷ words)))
    else (if select then (if is_one_of properties counted_properties second then fit_optional skip_file words else is_some (command_if (query_named word) (second ∷ words)))
    else is_some (command_if (query_named word) (second ∷ words))))
second_fits true select word second words =
    second_if (leaves_named second) (leaves_may second) word second words
    ∙ ap (λ (a : Bool). if a then fit_optional skip_file words else is_some (command_if (query_named word) (second ∷ words))) (order_is second)
second_fits false true word second words =
    second_if (select_named second) (select_may second) word second words
    ∙ ap (λ (a : Bool). if a then fit_optional skip_file words else is_some (command_if (query_named word) (second ∷ words))) (property_is second)
second_fits false false word second words = refl

-- the graph6 text of a file
encode_fits : (word name : List ℕ) (words : List (List ℕ)) → is_some (encode_of (word ∷ name ∷ words)) ≡ (if bytes_eq word (codes "encode") then fit_optional [] words else false)
encode_fits word name [] = some_if name (bytes_eq word (codes "encode")) ∙ sym (itself (bytes_eq word (codes "encode")))
encode_fits word name (third ∷ words) = sym (optional_more (bytes_eq word (codes "encode")))

and-true : (a : Bool) → (a && true) ≡ a
and-true true = refl
and-true false = refl

and-false : (a : Bool) → (a && false) ≡ false
and-false true = refl
and-false false = refl

if-and : (has more : Bool) → (if has then more else false) ≡ (more && has)
if-and true true = refl
if-and true false = refl
if-and false true = refl
if-and false false = refl

-- the rows of a first word: k, l, m, t, u, r, g, s and e are the tests of it for the nine commands, of which
-- no two hold; `order` and `has` are those of the second word, and the others say which words may
-- come after them
rows_of : (k l m t u r g s e order has more next name rest : Bool) →
    (k ≡ true → (l ≡ false) × (m ≡ false) × (t ≡ false) × (u ≡ false) × (r ≡ false) × (g ≡ false) × (s ≡ false) × (e ≡ false)) →
    (l ≡ true → (m ≡ false) × (t ≡ false) × (u ≡ false) × (r ≡ false) × (g ≡ false) × (s ≡ false) × (e ≡ false)) →
    (m ≡ true → (t ≡ false) × (u ≡ false) × (r ≡ false) × (g ≡ false) × (s ≡ false) × (e ≡ false)) →
    (t ≡ true → (u ≡ false) × (r ≡ false) × (g ≡ false) × (s ≡ false) × (e ≡ false)) →
    (u ≡ true → (r ≡ false) × (g ≡ false) × (s ≡ false) × (e ≡ false)) →
    (r ≡ true → (g ≡ false) × (s ≡ false) × (e ≡ false)) →
    (g ≡ true → (s ≡ false) × (e ≡ false)) →
    (s ≡ true → e ≡ false) →
    ((if l then (if order then more else (if k then next else (if l then next else (if m then next else (if t then next else (if u then next else (if r then next else (if g then name else false))))))))
    else (if s then (if has then more else (if k then next else (if l then next else (if m then next else (if t then next else (if u then next else (if r then next else (if g then name else false))))))))
    else (if k then next else (if l then next else (if m then next else (if t then next else (if u then next else (if r then next else (if g then name else false))))))))) || (if e then rest else false))
    ≡ ((next && k) || (((if order then more else next) && l) || ((next && m) || ((next && t) || ((next && u) || ((next && r) || ((name && g) || (((more && has) && s) || (((rest && true) && e) || false)))))))))
rows_of true l m t u r g s e order has more next name rest a b c d f h i j =
    let none = a refl in
    rw (none.0, none.1, none.2, none.3, none.4, none.5, none.6, none.7, and-true next, and-false (if order then more else next), and-false next, and-false name, and-false (more && has), and-false (rest && true)) refl
rows_of false true m t u r g s e order has more next name rest a b c d f h i j =
    let none = b refl in
    rw (none.0, none.1, none.2, none.3, none.4, none.5, none.6, and-false next, and-true (if order then more else next), and-false name, and-false (more && has), and-false (rest && true)) refl
rows_of false false true t u r g s e order has more next name rest a b c d f h i j =
    let none = c refl in
    rw (none.0, none.1, none.2, none.3, none.4, none.5, and-false next, and-false (if order then more else next), and-true next, and-false name, and-false (more && has), and-false (rest && true)) refl
rows_of false false false true u r g s e order has more next name rest a b c d f h i j =
    let none = d refl in
    rw (none.0, none.1, none.2, none.3, none.4, and-false next, and-false (if order then more else next), and-true next, and-false name, and-false (more && has), and-false (rest && true)) refl
rows_of false false false false true r g s e order has more next name rest a b c d f h i j =
    let none = f refl in
    rw (none.0, none.1, none.2, none.3, and-false next, and-false (if order then more else next), and-true next, and-false name, and-false (more && has), and-false (rest && true)) refl
rows_of false false false false false true g s e order has more next name rest a b c d f h i j =
    let none = h refl in
    rw (none.0, none.1, none.2, and-false next, and-false (if order then more else next), and-true next, and-false name, and-false (more && has), and-false (rest && true)) refl
rows_of false false false false false false true s e order has more next name rest a b c d f h i j =
    let none = i refl in
    rw (none.0, none.1, and-false next, and-false (if order then more else next), and-true name, and-false (more && has), and-false (rest && true)) refl
rows_of false false false false false false false true e order has more next name rest a b c d f h i j =
    rw (j refl, and-false next, and-false (if order then more else next), and-false name, if-and has more, and-true (more && has), and-false (rest && true)) refl
rows_of false false false false false false false false true order has more next name rest a b c d f h i j =
    rw (and-false next, and-false (if order then more else next), and-false name, and-false (more && has), and-true (rest && true), and-true rest) (sym (or-false rest))
rows_of false false false false false false false false false order has more next name rest a b c d f h i j =
    rw (and-false next, and-false (if order then more else next), and-false name, and-false (more && has), and-false (rest && true)) refl

-- no word is two commands
apart : (word a b : List ℕ) → bytes_eq word a ≡ true → bytes_eq word b ≡ bytes_eq a b
apart word a b is = ap (λ w. bytes_eq w b) ((bytes_eq-Decides word a).0 is)

-- a command alone
one_word : (k l m t u r g : Bool) → ((if k then true else (if l then true else (if m then true else (if t then true else (if u then true else (if r then true else (if g then true else false))))))) || false) ≡ (k || (l || (m || (t || (u || (r || (g || false)))))))
one_word true l m t u r g = refl
one_word false true m t u r g = refl
one_word false false true t u r g = refl
one_word false false false true u r g = refl
one_word false false false false true r g = refl
one_word false false false false false true g = refl
one_word false false false false false false true = refl
one_word false false false false false false false = refl

listed_one : (words : List (List ℕ)) → (is_some (list_command_of words) || is_some (encode_of words)) ≡ matches_a_row list_rows words
unfolding list_rows
listed_one [] = refl
listed_one (w ∷ []) =
    rw (named_fits w [])
    (one_word (bytes_eq w (codes "kinds")) (bytes_eq w (codes "leaves")) (bytes_eq w (codes "elementary")) (bytes_eq w (codes "matching")) (bytes_eq w (codes "cuts")) (bytes_eq w (codes "ears")) (bytes_eq w (codes "graph")))
listed_one (w ∷ s ∷ words) =
    rw (second_fits (bytes_eq w (codes "leaves")) (bytes_eq w (codes "select")) w s words, named_fits w (s ∷ words), encode_fits w s words)
    (rows_of (bytes_eq w (codes "kinds")) (bytes_eq w (codes "leaves")) (bytes_eq w (codes "elementary")) (bytes_eq w (codes "matching")) (bytes_eq w (codes "cuts")) (bytes_eq w (codes "ears")) (bytes_eq w (codes "graph")) (bytes_eq w (codes "select")) (bytes_eq w (codes "encode"))
    (is_one_of orders [] s) (is_one_of properties counted_properties s)
    (fit_optional skip_file words) (fit_optional skip_file (s ∷ words)) (fit_optional file (s ∷ words)) (fit_optional [] words)
    (λ is. (
      apart w (codes "kinds") (codes "leaves") is,
      apart w (codes "kinds") (codes "elementary") is,
      apart w (codes "kinds") (codes "matching") is,
      apart w (codes "kinds") (codes "cuts") is,
      apart w (codes "kinds") (codes "ears") is,
      apart w (codes "kinds") (codes "graph") is,
      apart w (codes "kinds") (codes "select") is,
      apart w (codes "kinds") (codes "encode") is,
    ))
    (λ is. (
      apart w (codes "leaves") (codes "elementary") is,
      apart w (codes "leaves") (codes "matching") is,
      apart w (codes "leaves") (codes "cuts") is,
      apart w (codes "leaves") (codes "ears") is,
      apart w (codes "leaves") (codes "graph") is,
      apart w (codes "leaves") (codes "select") is,
      apart w (codes "leaves") (codes "encode") is,
    ))
    (λ is. (
      apart w (codes "elementary") (codes "matching") is,
      apart w (codes "elementary") (codes "cuts") is,
      apart w (codes "elementary") (codes "ears") is,
      apart w (codes "elementary") (codes "graph") is,
      apart w (codes "elementary") (codes "select") is,
      apart w (codes "elementary") (codes "encode") is,
    ))
    (λ is. (
      apart w (codes "matching") (codes "cuts") is,
      apart w (codes "matching") (codes "ears") is,
      apart w (codes "matching") (codes "graph") is,
      apart w (codes "matching") (codes "select") is,
      apart w (codes "matching") (codes "encode") is,
    ))
    (λ is. (apart w (codes "cuts") (codes "ears") is, apart w (codes "cuts") (codes "graph") is, apart w (codes "cuts") (codes "select") is, apart w (codes "cuts") (codes "encode") is))
    (λ is. (apart w (codes "ears") (codes "graph") is, apart w (codes "ears") (codes "select") is, apart w (codes "ears") (codes "encode") is))
    (λ is. (apart w (codes "graph") (codes "select") is, apart w (codes "graph") (codes "encode") is))
    (λ is. apart w (codes "select") (codes "encode") is))

-- a command is one or the other
one_of : (name : Option (List ℕ)) (list : Option ListCommand) → is_some (command_or name list) ≡ (is_some list || is_some name)
one_of (Some name) None = refl
one_of (Some name) (Some list) = refl
one_of None None = refl
one_of None (Some list) = refl

pub listed : (words : List (List ℕ)) → is_some (command_of words) ≡ matches_a_row list_rows words
listed words = one_of (encode_of words) (list_command_of words) ∙ listed_one words
