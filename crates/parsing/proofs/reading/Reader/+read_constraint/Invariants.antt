-- `Reader::read_constraint` meets its contract.
use Rattle.std.proofs.Common.{length}
use Rattle.parsing.proofs.reading.Reader.+read_constraint.Given as goal

abbrev pub decreases-read_constraint : goal.decreases-read_constraint
decreases-read_constraint l = length l.self.now.tokens
