-- `parse_pattern` meets its contract.
use Rattle.std.proofs.Common.{◌≡◌, ◌≤◌, ◌+◌, ◌*◌, length}
use Rattle.tokens.specs.Tokens.{tokens_from}
use Rattle.parsing.specs.Patterns.{all_nots}
use Rattle.parsing.specs.Vars.{vars_of}
use Rattle.parsing.proofs.ListLaws.{SoFar}
use Rattle.parsing.proofs.reading.parse_pattern.Given as goal

abbrev pub invariant-loop-token : goal.invariant-loop-token
invariant-loop-token l = record {
  text : l.reader.text ≡ l.fn.list.text;
  of_list : l.pattern.text.now ≡ l.fn.list.text.now;
  few : 5 * length (all_nots (vars_of l.pattern)) + length l.reader.tokens ≤ 255;
  so_far : SoFar l.fn.list.text.now (tokens_from l.fn.list.words.now 0) (vars_of l.pattern) l.reader.tokens;
}

abbrev pub decreases-loop-token : goal.decreases-loop-token
decreases-loop-token l = length l.reader.tokens
