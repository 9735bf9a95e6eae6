use Rattle.line_text.proofs.ExactlyOne.{IfOk-reads, IfErr-reads, Reads-stands, Reads-breaks}
use Rattle.line_text.proofs.reading.read.Goals as goal

pub returns : goal.returns
returns g c =
    let format = g.F.LineFormat in
    let rules = format.rules c.args.format.now in
    let text = c.args.text.now in
    let result = c.read_lines.result in
    let reads = c.read_lines.ensures in
    record {
      value = IfOk-reads rules format.meaning text result reads;
      fault = IfErr-reads rules format.meaning text result reads;
      stands = Reads-stands rules format.meaning text result reads;
      breaks = Reads-breaks rules format.meaning text result reads;
    }
