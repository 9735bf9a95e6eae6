use Rattle.std.proofs.Common.{rules, string_bytes}
use Rattle.ear_text.proofs.TextSoFar.{ear_text-line}
use Rattle.ear_text.proofs.writing.push_ear.Goals as goal

pub returns : goal.returns
returns c =
    ear_text-line (string_bytes c.args.text.now) (string_bytes c.edges.text) (string_bytes c.write-2.new.self) c.args.keyword.now c.args.ear.now.edges c.edges.rest.now c.args.ear.now.«from» (search rules) c.edges.invariant c.in_ok-write-3.ensures.bytes
