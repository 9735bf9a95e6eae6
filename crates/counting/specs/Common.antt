-- The definitions of this crate, passed on from one place to the crates above. Declares nothing.
pub use Rattle.counting.specs.Counts.{Within, bit, total, count, is_odd}
pub use Rattle.counting.specs.Sets.{Set, none, everything, singleton, pair_set, union, meet, minus, complement, put, Outside}
pub use Rattle.counting.specs.Tests.{some, every, some_set, each_set, IsLeastWithout}
pub use Rattle.counting.specs.Lists.{mem, IsIn, times, all_in, is_subset, is_apart, IsRisingIn, rising_list, Lists, last_of, IsLeastOf, IsGreatestOf, IsNextAfter, item, row_of, pair_with, rising_pairs, ordered_pairs, ComesBefore}
