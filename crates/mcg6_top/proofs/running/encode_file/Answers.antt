use Rattle.mcg6_top.proofs.running.encode_file.Goals as goal

pub returns : goal.returns
returns g c = record {
  read_fault = c.encode.ensures.read_fault;
  write_fault = c.encode.ensures.write_fault;
  encodes = c.encode.ensures.encodes;
  encodes_some = c.encode.ensures.tells;
  reads_first = c.encode.ensures.reads_first;
}
