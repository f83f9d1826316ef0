use Rattle.std.proofs.Common.{◌-◌}
use Rattle.std.specs.List.{range_with_len}
use Rattle.search.proofs.levels.start.Given as goal

-- all columns of the strip
abbrev pub ghost-reduce : goal.ghost-reduce
ghost-reduce g a = range_with_len a.columns.start (a.columns.end - a.columns.start)
