use Rattle.ear_core.specs.Common.{ears_of}
use Rattle.ear_text.proofs.EarsRead.{fits-read, filled-read}
use Rattle.ear_text.proofs.ear_format.read_ears.Goals as goal

pub returns-clause-fits : goal.returns-clause-fits
returns-clause-fits c = fits-read c.args.n c.args.m c.args.bytes.now ears_of c.read_text.result c.read_text.ensures.value

pub returns-clause-filled : goal.returns-clause-filled
returns-clause-filled c = filled-read c.args.n c.args.m c.args.bytes.now ears_of c.read_text.result c.read_text.ensures.value
