use Rattle.std.proofs.Common.{◌≡◌, map, take, true}
use Rattle.std.specs.List.{list_all}
use Rattle.line_text.specs.Common.{is_number, value_of, texts_of}
use Rattle.line_text.proofs.numerals.numbers.Given as goal

-- the words so far are numbers, and these are their values
abbrev pub invariant-loop-word : goal.invariant-loop-word
invariant-loop-word l = record {
  tested : list_all is_number (texts_of (take l.word-index l.words)) ≡ true;
  values : l.values.items ≡ map value_of (texts_of (take l.word-index l.words));
}
