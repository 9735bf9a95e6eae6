use Rattle.mcg6_encoder.proofs.OneEncoding.{bad_once, encoded_once, encoded_or_bad}
use Rattle.mcg6_encoder.proofs.laws.one_encoding_law.Goals as goal

pub returns-clause-status : goal.returns-clause-status
returns-clause-status c file a b found one two = encoded_or_bad file a found one.0 one.1 two.0

pub returns-clause-done : goal.returns-clause-done
returns-clause-done c file a b one two = encoded_once file a b one.1 two.1

pub returns-clause-found : goal.returns-clause-found
returns-clause-found c file a b found other one two = bad_once file found other one.0 two.0
