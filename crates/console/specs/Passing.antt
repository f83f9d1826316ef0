-- What reading a line does to the reader.
use Rattle.std.specs.Prelude.{◌≡◌}
use Rattle.console.specs.declared.reader.Reader.{Reader}
use Rattle.console.specs.Lines.{place_after}

-- the reader passed the line at its place: the next one begins behind it, in the same input
pub record Passed (reader reader' : Reader) : Type 0 where
  pub input : reader'.input.now ≡ reader.input.now
  pub place : reader'.place ≡ place_after reader.input.now reader.place
