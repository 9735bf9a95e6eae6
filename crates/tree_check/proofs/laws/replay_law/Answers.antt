use Rattle.tree_check.proofs.ReplayAnswers.{done-exactly, last-once, refused-exactly, refused_move-once, stuck-exactly}
use Rattle.tree_check.proofs.laws.replay_law.Goals as goal

pub returns : goal.returns
returns c = record {
  done = λ g s ms answer is. done-exactly g is s ms answer;
  stuck = λ g s ms answer at is. stuck-exactly g is s ms answer at;
  refused = λ g s ms answer at is. refused-exactly g is s ms answer at;
  last = last-once;
  first = λ g s ms i j k l a b is. refused_move-once g is s ms i j k l a b;
}
