use Rattle.std.specs.Iterator.Adapters.{copied_source}
use Rattle.std.specs.Slice.Iter.{iter_rest}
use Rattle.search.proofs.levels.deepen.Given as goal

-- the columns that the level above keeps
abbrev pub ghost-reduce : goal.ghost-reduce
ghost-reduce g a = iter_rest (copied_source a.columns)
