use Rattle.front_top.proofs.speaking.say_bad.Goals as goal

pub returns : goal.returns
returns g c =
    let said = rw (c.line_of.ensures, c.bytes_of-bytes.ensures) at c.say_bad_file.ensures in
    said
