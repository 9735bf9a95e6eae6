-- Why a file could not be read, in words.
-- Stated by: front_words. Used by: mcg6_front_top.
use Rattle.std.specs.Prelude.{ℕ, List, Option, None, Some}
use Rattle.outside.specs.declared.explain.FailureReason.{FailureReason}
use Rattle.outside.specs.declared.explain.FailureReason.TheVariants.{Absent, Dangling, Folder, NotInFolder, Forbidden, LongName, LinkLoop, Socket, ManyOpen, NoMemory, Other}
use Rattle.front_words.specs.declared.texts.TheConstants as texts

-- the words for a reason
abbrev pub reason_words : Option FailureReason → List ℕ
reason_words None = texts.READ_OTHER.now
reason_words (Some Absent) = texts.READ_ABSENT.now
reason_words (Some Dangling) = texts.READ_DANGLING.now
reason_words (Some Folder) = texts.READ_FOLDER.now
reason_words (Some NotInFolder) = texts.READ_NOT_IN_FOLDER.now
reason_words (Some Forbidden) = texts.READ_FORBIDDEN.now
reason_words (Some LongName) = texts.READ_LONG_NAME.now
reason_words (Some LinkLoop) = texts.READ_LINK_LOOP.now
reason_words (Some Socket) = texts.READ_SOCKET.now
reason_words (Some ManyOpen) = texts.READ_MANY_OPEN.now
reason_words (Some NoMemory) = texts.READ_NO_MEMORY.now
reason_words (Some Other) = texts.READ_OTHER.now
