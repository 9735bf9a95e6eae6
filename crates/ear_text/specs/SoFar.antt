-- How the code's state of reading an ear list is seen.
-- Stated by: ear_text.
use Rattle.std.specs.Prelude.{map, option_map}
use Rattle.ear_core.specs.Common.{ear_of, step_of}
use Rattle.ear_text.specs.EarFormat.{EarsSoFar, headed, started}
use Rattle.ear_text.specs.declared.ears_read.EarsRead.{EarsRead}
use Rattle.ear_text.specs.declared.ears_read.EarsRead.TheVariants.{Headed, Started}

-- what the lines read so far give
abbrev pub ears_so_far : EarsRead → EarsSoFar
ears_so_far Headed = headed
ears_so_far (Started start steps last) = started start (map step_of steps) (option_map ear_of last)
