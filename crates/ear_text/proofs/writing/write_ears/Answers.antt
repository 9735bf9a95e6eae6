use Rattle.std.proofs.Common.{subst, sym, string_bytes, arith}
use Rattle.graph_core.specs.from_line_text.Common.{Stands}
use Rattle.graph_core.proofs.from_line_text.ExactlyOne.{StandsAlone-stands}
use Rattle.ear_core.specs.Common.{ears_of}
use Rattle.ear_text.specs.EarFormat.{ear_format}
use Rattle.ear_text.specs.Writing.{IsWritable}
use Rattle.ear_text.proofs.TextSoFar.{ears_text-lines}
use Rattle.ear_text.proofs.EarsReadBack.{Stands-ears_text}
use Rattle.ear_text.proofs.writing.write_ears.Goals as goal

pub returns-clause-text : goal.returns-clause-text
returns-clause-text c = grind (arith, ears_text-lines, string_bytes)

pub returns-clause-stands : goal.returns-clause-stands
returns-clause-stands c =
    let n = c.args.n in
    let m = c.args.m in
    let list = ears_of c.args.list.now in
    let order = c.requires.order in
    let size = c.requires.size in
    let is : IsWritable n m list = record { order = omega arith; size = omega arith; fits = c.requires.fits; filled = c.requires.filled } in
    subst (λ bytes. Stands (ear_format n m) bytes list) (sym (returns-clause-text c)) (Stands-ears_text n m list is)

pub returns-clause-alone : goal.returns-clause-alone
returns-clause-alone c = StandsAlone-stands (ear_format c.args.n c.args.m) _ (ears_of c.args.list.now) (returns-clause-stands c)
