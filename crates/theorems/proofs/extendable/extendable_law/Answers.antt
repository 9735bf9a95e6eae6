use Rattle.theorems.proofs.ExtendableCuts.{extendable_brick, extendable_kinds, extendable_uncut}
use Rattle.theorems.proofs.WidePairs.{extendable_connected}
use Rattle.theorems.proofs.extendable.extendable_law.Goals as goal

pub returns : goal.returns
returns x = record {
  uncut = λ g is six joined perfect ext. extendable_uncut g is six joined perfect ext;
  kinds = λ g is six joined perfect ext. extendable_kinds g is six joined perfect ext;
  brick = λ g is six joined perfect ext. extendable_brick g is six joined perfect ext;
  connected = λ g is six joined perfect ext. extendable_connected g is six joined perfect ext;
}
