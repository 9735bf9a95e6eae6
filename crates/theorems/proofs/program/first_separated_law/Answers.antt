use Rattle.theorems.proofs.FirstSeparated.{first-found, found-first, none-separated, separated-none}
use Rattle.theorems.proofs.program.first_separated_law.Goals as goal

pub returns : goal.returns
returns c = record {
  first = λ g e k is we. (found-first g is e we k, first-found g is e we k);
  none = λ g e is we. (none-separated g is e we, separated-none g is e we);
}
