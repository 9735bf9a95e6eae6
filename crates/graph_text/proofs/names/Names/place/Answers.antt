use Rattle.std.proofs.Common.{sym, arith, string_bytes, bytes_eq}
use Rattle.graph_text.proofs.NameLists.{position-map, position-nameless}
use Rattle.graph_text.proofs.names.Names.place.Goals as goal

pub returns-in_err-name : goal.returns-in_err-name
returns-in_err-name c = grind (arith, position-nameless c.args.self.now c.args.word.now c.are_names.ensures (sym c.in_err-name.ensures.is))

pub returns : goal.returns
returns c = grind (arith, position-map (bytes_eq c.in_ok-name.name.now) string_bytes c.self.inside.names.keys)
