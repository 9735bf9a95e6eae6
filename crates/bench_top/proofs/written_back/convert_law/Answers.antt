use Rattle.bench_top.proofs.Conversions.{convert-only, convert-twice}
use Rattle.bench_top.proofs.written_back.convert_law.Goals as goal

pub returns : goal.returns
returns c = record {
  allows = λ files again name other output gives held within. convert-twice files again name other output gives held within;
  tells = λ files again name other output status text gives held within told. convert-only files again name other output status text gives held within told;
}
