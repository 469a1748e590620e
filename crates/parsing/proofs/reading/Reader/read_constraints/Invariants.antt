-- `Reader::read_constraints` meets its contract.
use Rattle.std.proofs.Common.{◌≡◌, ◌≤◌, ◌+◌, ◌*◌, List, length}
use Rattle.parsing.specs.Reading.{Element, Open, inside, run}
use Rattle.parsing.specs.Patterns.{nots_of}
use Rattle.parsing.specs.Steps.{mores}
use Rattle.parsing.proofs.reading.Reader.read_constraints.Given as goal

abbrev pub invariant-loop-token : goal.invariant-loop-token
invariant-loop-token l = record {
  text : l.self.text ≡ l.fn.self.text;
  few : 5 * length (nots_of l.nots) + length l.self.tokens ≤ length l.fn.self.tokens;
  read : (acc : List Element) (p : Open) → run l.fn.self.text.now acc (inside p) l.fn.self.tokens ≡ run l.fn.self.text.now acc (inside (mores p (nots_of l.nots))) l.self.tokens;
}

abbrev pub decreases-loop-token : goal.decreases-loop-token
decreases-loop-token l = length l.self.tokens
