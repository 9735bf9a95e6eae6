use Rattle.std.proofs.Common.{◌∙◌, ℕ, List, ◌++◌, length, take, drop, ◌+◌, ◌-◌, ap, arith, Option, Some, None}
use Rattle.std.specs.Io.KnownBytes.{Appends}
use Rattle.outside.proofs.Pieces.{joined_more}
use Rattle.outside.proofs.printed.Printed.write_whole.Goals as goal

appends-more : (old mid now : Option (List ℕ)) (bytes : List ℕ) (n m : ℕ) → Appends old mid (take n bytes) → Appends mid now (take m (take (length bytes - n) (drop n bytes))) → Appends old now (take (n + m) bytes)
appends-more None mid now bytes n m one two = tt
appends-more (Some old) None now bytes n m one two = absurd one
appends-more (Some old) (Some mid) None bytes n m one two = absurd two
appends-more (Some old) (Some mid) (Some now) bytes n m one two = two ∙ ap (λ (l : List ℕ). l ++ take m (take (length bytes - n) (drop n bytes))) one ∙ joined_more old bytes n m

pub writing-preserved : goal.writing-preserved
writing-preserved g c = grind (arith, joined_more, appends-more)
