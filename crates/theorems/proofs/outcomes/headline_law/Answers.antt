use Rattle.theorems.proofs.ToldFacts.{told-decomposition, told-ears, told-kind, told-pairing, told-picked, told-script, told-sets}
use Rattle.theorems.proofs.outcomes.headline_law.Goals as goal

pub returns : goal.returns
returns c = record {
  sets = told-sets;
  decompositions = told-decomposition;
  picks = told-picked;
  comparisons = told-pairing;
  scripts = told-script;
  kinds = told-kind;
  ears = told-ears;
}
