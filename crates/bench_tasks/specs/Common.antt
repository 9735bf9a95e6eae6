-- The definitions of this crate, passed on from one place to the crates above. Declares nothing.
pub use Rattle.bench_tasks.specs.Commands.{Command, OnGraph, OnSimpleGraph, OnTree, OnPicks, OnEars, OnMoves, OnTrees, OnNumbers, graph_command, decompose_in, order_command, most_pieces, grow_command, pair_command, script_command, triple_command, command_of}
pub use Rattle.bench_tasks.specs.Asked.{asked}
pub use Rattle.bench_tasks.specs.Files.{File, files_of, file_names}
pub use Rattle.bench_tasks.specs.FilesSeen.{file_seen}
pub use Rattle.bench_tasks.specs.Tasks.{Task, IsTaskOf}
pub use Rattle.bench_tasks.specs.Loading.{Loaded, All, Bad, Absent, from_reading, file_read, loaded_as, and_then, graph_file, graph6_file, pick_file, tree_file, ear_file, move_file, tree_given, picks_given, ears_given, moves_given, trees_given, on_tree, on_picks, on_ears, on_moves, on_trees, loaded}
pub use Rattle.bench_tasks.specs.Loads.{Held, simple_graph_in, given_tree, given_picks, given_ears, given_moves, given_trees, task_of, StopsAs, LoadsAs, Loads}
pub use Rattle.bench_tasks.specs.Reads.{names_in, files_in, names_until, StopsAt, ReadsUntil, ReadsAs, FailsAs, IsUnread, IsReadFault, HasNoMissing}
pub use Rattle.bench_tasks.specs.Carried.{bytes_carried, StopsOn, CarriesFile, last_bytes, CarriesBytes}
pub use Rattle.bench_tasks.specs.Answered.{place_name, by_place, IsTooLong, GaveFile, HoldGiven, CountsAs, failures_in, failures_of, LastFailed, FailedAs, ReadsOnce, LoadsAnswered, GathersAnswered}
pub use Rattle.bench_tasks.specs.Sized.{sizes_held, GaveSizes, sizes_carried, CarriesSizes, CarriesFirstSizes}
