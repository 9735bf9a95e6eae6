use Rattle.std.proofs.Common.{subst, List}
use Rattle.mcg6_reader.specs.Common.{Added, Reports, TellsList, TellsRead}
use Rattle.mcg6_reader.specs.declared.ending.BadLine.{BadLine}
use Rattle.mcg6_top.specs.Common.{SkipsUpTo, TellsOrSkips, ListStopsAt, SkipsLine, lacks_of}
use Rattle.mcg6_top.proofs.Skipping.{added_whole, stop_none}
use Rattle.mcg6_top.proofs.running.answer_list.Goals as goal

pub returns : goal.returns
returns g c =
    let told = c.tell_all-ending.ensures in
    let query = c.args.lister.now.query in
    let at_bad = c.args.lister.now.at_bad in
    let tells =
    subst (λ (f : List BadLine). TellsList (TellsOrSkips query at_bad) (ListStopsAt query at_bad) (lacks_of query) (Reports (SkipsLine query at_bad)) c.tell_all-ending.result
    (g.S.Source.left c.args.source.now) (g.K.Sink.written c.args.sink.now) (g.K.Sink.written c.tell_all-ending.new.sink) f c.tell_all-ending.new.skipped.items)
    c.new-skipped.ensures.items told.tells in
    let from_read =
    subst (λ (f : List BadLine). TellsRead (TellsOrSkips query at_bad) (ListStopsAt query at_bad) (lacks_of query) (Reports (SkipsLine query at_bad)) g.S.Source.reads c.tell_all-ending.result
    c.args.source.now c.tell_all-ending.new.source (g.K.Sink.written c.args.sink.now) (g.K.Sink.written c.tell_all-ending.new.sink) f c.tell_all-ending.new.skipped.items)
    c.new-skipped.ensures.items told.reads in
    record {
      read_fault = told.read_fault;
      write_fault = told.write_fault;
      outcome = told.gives;
      skips = λ bytes left.
          added_whole (SkipsUpTo query at_bad bytes c.tell_all-ending.result) c.tell_all-ending.new.skipped.items
          (subst (λ (f : List BadLine). Added (SkipsUpTo query at_bad bytes c.tell_all-ending.result) f c.tell_all-ending.new.skipped.items) c.new-skipped.ensures.items (told.reported bytes left));
      skips_none =
          stop_none query at_bad tells.bytes c.tell_all-ending.result c.tell_all-ending.new.skipped.items
          (added_whole (SkipsUpTo query at_bad tells.bytes c.tell_all-ending.result) c.tell_all-ending.new.skipped.items tells.reported);
      tells = tells;
      from_read = from_read;
      torn = told.torn;
      streams = told.streams;
    }
