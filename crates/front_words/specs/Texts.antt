-- All texts of the messages, and what each of them is.
-- Stated by: front_words.
use Rattle.std.specs.Prelude.{ℕ, ◌==◌, ◌&&◌, not, List, [], ◌∷◌, Bool, length, nat_le}
use Rattle.std.specs.List.{list_all}
use Rattle.front_words.specs.declared.texts.TheConstants as texts

-- a byte of printable ASCII
abbrev pub is_printable : ℕ → Bool
is_printable byte = nat_le 32 byte && nat_le byte 126

-- a text that is not empty and has no line feed, nor any other byte that is not printable ASCII
abbrev pub is_printable_line : List ℕ → Bool
is_printable_line text = not (length text == 0) && list_all is_printable text

-- the texts of `src/texts.rt`, in its order
unfoldable pub all_texts : List (List ℕ)
all_texts =
    texts.FAULT_HEADER.now ∷ texts.FAULT_WORD.now ∷ texts.FAULT_NUMBER.now ∷ texts.FAULT_RANGE.now ∷
    texts.FAULT_LOOP.now ∷ texts.FAULT_LIMIT.now ∷ texts.FAULT_MISSING.now ∷ texts.FAULT_EXTRA.now ∷
    texts.FAULT_NOT_RISING.now ∷ texts.FAULT_HAS_GREATEST.now ∷ texts.FAULT_UNNAMED.now ∷ texts.FAULT_SAME_NAME.now ∷
    texts.FAULT_BAD_NAME.now ∷
    texts.GRAPH6_RANGE.now ∷ texts.GRAPH6_LIMIT.now ∷ texts.GRAPH6_MISSING.now ∷ texts.GRAPH6_EXTRA.now ∷
    texts.GRAPH6_PADDING.now ∷ texts.GRAPH6_LONG_FORM.now ∷
    texts.FAULT_OTHER.now ∷
    texts.HEADER_GRAPH.now ∷ texts.HEADER_TREE.now ∷ texts.HEADER_PICKS.now ∷ texts.HEADER_EARS.now ∷
    texts.HEADER_MOVES.now ∷
    texts.DUE_TREE.now ∷ texts.DUE_EARS.now ∷ texts.DUE_MOVES.now ∷
    texts.LIMIT_GRAPH.now ∷ texts.LIMIT_TREE.now ∷ texts.LIMIT_PICKS.now ∷ texts.LIMIT_MOVES.now ∷
    texts.READER_GRAPH6.now ∷ texts.SHORE_PLAIN.now ∷ texts.SHORE_OTHER.now ∷
    texts.BEGINS_MARKED.now ∷ texts.BEGINS_UTF16.now ∷ texts.BEGINS_GZIP.now ∷ texts.BEGINS_SPARSE6.now ∷ texts.BEGINS_DIGRAPH6.now ∷
    texts.BEGINS_PLANAR.now ∷ texts.BEGINS_GRAPH.now ∷ texts.BEGINS_GRAPH6.now ∷ texts.GRAPH_FOR_TREE.now ∷
    texts.GRAPH_FOR_EARS.now ∷ texts.GRAPH_FIRST.now ∷
    texts.READ_ABSENT.now ∷ texts.READ_DANGLING.now ∷ texts.READ_FOLDER.now ∷ texts.READ_NOT_IN_FOLDER.now ∷
    texts.READ_FORBIDDEN.now ∷ texts.READ_LONG_NAME.now ∷ texts.READ_LINK_LOOP.now ∷ texts.READ_SOCKET.now ∷
    texts.READ_MANY_OPEN.now ∷ texts.READ_NO_MEMORY.now ∷ texts.READ_OTHER.now ∷
    texts.CANNOT_READ.now ∷ texts.CANNOT_READ_INPUT.now ∷ texts.DASH_FILE.now ∷ texts.DASH_LIST.now ∷
    texts.FILE_TOO_LONG.now ∷ texts.IN_LINE.now ∷ texts.LINE.now ∷ texts.LINE_IS.now ∷ texts.LINE_EMPTY.now ∷
    texts.KIND.now ∷ texts.THE_LINE.now ∷ texts.LIST_ENDS.now ∷ texts.LINE_TOO_LONG.now ∷
    texts.ARGUMENT.now ∷ texts.NOT_UTF8.now ∷ texts.NO_COMMAND.now ∷ texts.HELP_LISTS.now ∷ texts.TOO_MANY.now ∷
    texts.NEEDS.now ∷ texts.EXCHANGED.now ∷ texts.HELP_TAKES.now ∷ texts.ONE_COMMAND.now ∷
    texts.LOST.now ∷ texts.NOTHING_WRITTEN.now ∷ texts.FIRST_LINES.now ∷
    texts.NOT_COVERED.now ∷ texts.COVER_SMALL.now ∷ texts.COVER_PARTED.now ∷ texts.COVER_PARTED_TO.now ∷
    texts.COVER_PARTED_END.now ∷ texts.COVER_UNMATCHED.now ∷ texts.COVER_EDGE.now ∷ texts.COVER_EDGE_END.now ∷
    texts.TREE.now ∷ texts.TREE_AT.now ∷ texts.MOVE.now ∷ texts.MOVED_AT.now ∷ texts.PREORDER.now ∷ texts.PATH.now ∷
    texts.SHORE.now ∷ texts.NODE_NOT_BLOCKS.now ∷ texts.NODE_EVEN.now ∷ texts.NODE_TRIVIAL.now ∷
    texts.NODE_NOT_TIGHT.now ∷ texts.NODE_NOT_LEAF.now ∷ texts.WRITE_BLOCKS.now ∷ texts.OTHER_CUT.now ∷
    texts.MAKE_LEAF.now ∷ texts.CUT_FURTHER.now ∷ texts.OTHER_MOVE.now ∷
    texts.NO_RESULT.now ∷ texts.STUCK_NO_CUT.now ∷ texts.STUCK_CROSSING.now ∷ texts.STUCK_NOT_PARTS.now ∷
    texts.EARS_AT.now ∷ texts.EARS_BEFORE.now ∷ texts.FIRST_EAR.now ∷ texts.SECOND_EAR.now ∷ texts.AT_EDGE.now ∷
    texts.EAR_NOT_PATH.now ∷ texts.EAR_EVEN.now ∷ texts.EAR_BAD_ENDS.now ∷ texts.EAR_INNER.now ∷ texts.EAR_USED.now ∷
    texts.STAGE_EDGE.now ∷ texts.STAGE_EDGE_END.now ∷ texts.LEFT_EDGE.now ∷ texts.LEFT_EDGE_END.now ∷ []
