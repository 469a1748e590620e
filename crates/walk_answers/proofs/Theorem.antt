-- THE LAW of the walk, as its statement has it.
-- Assumes nothing.
use Rattle.std.proofs.Common.{List, ℕ, length, Option}
use Rattle.words.specs.declared.texts.Range.{Range}
use Rattle.words.specs.Buffer.{used_of, filled}
use Rattle.fragments.specs.Pairs.{Pairs}
use Rattle.checks.specs.Given.{File}
use Rattle.job_answers.specs.Answers.{list_in, answer_after, bytes_after}
use Rattle.walk_answers.specs.Walk.{walk_of}
use Rattle.walk_answers.specs.WalkIsJob.{WalkIsJob}
use Rattle.walk_answers.proofs.CheckLaws.{outcome-same}

pub walk_is_job : (pairs : Pairs) (fact_text : List ℕ) (file : File) (parses parse_text : List ℕ) (range : Option Range)
    → WalkIsJob (walk_of pairs fact_text file parses parse_text range)
walk_is_job pairs fact_text file parses parse_text range few out =
    let j = walk_of pairs fact_text file parses parse_text range in
    let o = outcome-same pairs fact_text file parses parse_text range few in
    let room = used_of (length out) in
    (λ i. answer_after (o i) (list_in j room), λ i. filled out (bytes_after (o i) (list_in j room)))
