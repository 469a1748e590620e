-- The starred examples of document 01, its example M, and small jobs for what demand 3 leaves open: in each row what an operation is asked,
-- and the answer. Kinds that 01 gives no number: tokens have those of 02 c, 12 number, 128 plus the byte for punctuation, and 14 `::`; nodes
-- 67 path expression, 68 binary expression, 70 prefix expression, 2,048 source file.
-- Assumes nothing.
use Rattle.std.specs.Prelude.{ℕ, ◌+◌, ◌*◌, List, [], ◌∷◌, ◌++◌, length, replicate, cond, Option, is_some, unwrap_or, Some, None, Result, Ok, Err}
use Rattle.std.specs.List.{flat_map}
use Rattle.errors.specs.declared.Refusal.{Refusal}
use Rattle.errors.specs.declared.Refusal.TheVariants.{MissingParenthesis, UnknownKind, NoName, EndsBeforeClosingBrace, UnexpectedToken, NoRoom}
use Rattle.words.specs.declared.texts.Range.{Range}
use Rattle.words.specs.Fields.{word_of}
use Rattle.words.specs.Texts.{stand_in_prefix}
use Rattle.words.specs.Buffer.{used_of}
use Rattle.parsing.specs.Reading.{Reading, read, refused, placeholder, reading}
use Rattle.fragments.specs.Pairs.{Pairs, pairs_of}
use Rattle.captures.specs.declared.SelfKind.TheVariants.{Owned}
use Rattle.answers.specs.declared.NodeMatch.{NodeMatch}
use Rattle.checks.specs.declared.Rules.{Rules}
use Rattle.checks.specs.Given.{File, file_of}
use Rattle.match_node.specs.MatchNode.{matched_node, buffer_after}
use Rattle.edits.specs.declared.Edited.{Edited}
use Rattle.edits.specs.declared.Edited.TheVariants.{Asked, Edits}
use Rattle.job_checks.specs.Checks.{Job, job_of}
use Rattle.job_answers.specs.Answers as job

-- what is asked, by 01's name of the operation: a token list; rules, a file, a rule's number, a range, a node and a buffer; or a job and a
-- buffer
pub data Question : Type 0 where
  ReadingTokens : (words text : List ℕ) → Question
  MatchingOneNode : (rules : Rules) (file : File) (rule : ℕ) (range : Option Range) (node : ℕ) (out : List ℕ) → Question
  AJob : (job : Job) (out : List ℕ) → Question

-- what is answered, and the buffer then
pub data Answer : Type 0 where
  TokensRead : (result : Reading) → Answer
  NodeMatched : (result : Result (Option NodeMatch) Refusal) (buffer : List ℕ) → Answer
  JobDone : (result : Result Edited Refusal) (buffer : List ℕ) → Answer

-- the answer that the operation's definition gives
abbrev pub answered : Question → Answer
answered (ReadingTokens words text) = TokensRead (reading words text)
answered (MatchingOneNode rules file rule range node out) =
    NodeMatched (matched_node rules file rule range node (used_of (length out))) (buffer_after rules file rule range node out)
answered (AJob j out) = JobDone (job.job_answer j (used_of (length out))) (job.buffer_after j out)

pub record Example : Type 0 where
  pub question : Question
  pub answer : Answer

-- the word of a token of a kind and a length
abbrev pub tok : ℕ → ℕ → ℕ
tok kind n = word_of 2 (kind * 65536 + n)

-- the words of an element of a tree, from one byte to another: a node of a kind and a size, a token of a kind
abbrev pub node_at : ℕ → ℕ → ℕ → ℕ → List ℕ
node_at kind size start end = word_of 1 (kind * 65536 + size) ∷ word_of 3 start ∷ word_of 4 end ∷ []

abbrev pub token_at : ℕ → ℕ → ℕ → List ℕ
token_at kind start end = tok kind 1 ∷ word_of 3 start ∷ word_of 4 end ∷ []

-- the words of a fact: sort and element, and its values
abbrev pub fact_of : ℕ → ℕ → ℕ → ℕ → ℕ → List ℕ
fact_of sort element first second third = word_of 9 (sort * 16777216 + element) ∷ word_of 10 first ∷ word_of 10 second ∷ word_of 10 third ∷ []

-- the words of a path expression that is one name
abbrev pub name_at : ℕ → ℕ → List ℕ
name_at start end = node_at 67 5 start end ++ node_at 2 4 start end ++ node_at 3 3 start end ++ node_at 4 2 start end ++ token_at 1 start end

-- A `$a`: placeholder a
abbrev pub example_A : Example
example_A = record {
  question = ReadingTokens (tok 8 1 ∷ tok 1 1 ∷ []) (36 ∷ 97 ∷ []);
  answer = TokensRead (read (placeholder (record { start = 0; end = 2; name = record { kind = 1; range = record { start = 1; end = 2 } }; nots = [] }) ∷ []));
}

-- B `${a:not(kind(literal))}`: one `not`
abbrev pub example_B : Example
example_B = record {
  question = ReadingTokens (tok 8 1 ∷ tok 9 1 ∷ tok 1 1 ∷ tok 10 1 ∷ tok 1 3 ∷ tok 168 1 ∷ tok 1 4 ∷ tok 168 1 ∷ tok 1 7 ∷ tok 5 1 ∷ tok 5 1 ∷ tok 6 1 ∷ []) (36 ∷ 123 ∷ 97 ∷ 58 ∷ 110 ∷ 111 ∷ 116 ∷ 40 ∷ 107 ∷ 105 ∷ 110 ∷ 100 ∷ 40 ∷ 108 ∷ 105 ∷ 116 ∷ 101 ∷ 114 ∷ 97 ∷ 108 ∷ 41 ∷ 41 ∷ 125 ∷ []);
  answer = TokensRead (read (placeholder (record { start = 0; end = 23; name = record { kind = 1; range = record { start = 2; end = 3 } }; nots = 1 ∷ [] }) ∷ []));
}

-- C `${a:kind(foo}`: 9
abbrev pub example_C : Example
example_C = record {
  question = ReadingTokens (tok 8 1 ∷ tok 9 1 ∷ tok 1 1 ∷ tok 10 1 ∷ tok 1 4 ∷ tok 168 1 ∷ tok 1 3 ∷ tok 6 1 ∷ []) (36 ∷ 123 ∷ 97 ∷ 58 ∷ 107 ∷ 105 ∷ 110 ∷ 100 ∷ 40 ∷ 102 ∷ 111 ∷ 111 ∷ 125 ∷ []);
  answer = TokensRead (refused MissingParenthesis);
}

-- D `${a:kind(foo)}`: 11
abbrev pub example_D : Example
example_D = record {
  question = ReadingTokens (tok 8 1 ∷ tok 9 1 ∷ tok 1 1 ∷ tok 10 1 ∷ tok 1 4 ∷ tok 168 1 ∷ tok 1 3 ∷ tok 5 1 ∷ tok 6 1 ∷ []) (36 ∷ 123 ∷ 97 ∷ 58 ∷ 107 ∷ 105 ∷ 110 ∷ 100 ∷ 40 ∷ 102 ∷ 111 ∷ 111 ∷ 41 ∷ 125 ∷ []);
  answer = TokensRead (refused UnknownKind);
}

-- E `${1}`: 6
abbrev pub example_E : Example
example_E = record {
  question = ReadingTokens (tok 8 1 ∷ tok 9 1 ∷ tok 12 1 ∷ tok 6 1 ∷ []) (36 ∷ 123 ∷ 49 ∷ 125 ∷ []);
  answer = TokensRead (refused NoName);
}

-- F `${}`: 3
abbrev pub example_F : Example
example_F = record {
  question = ReadingTokens (tok 8 1 ∷ tok 9 1 ∷ tok 6 1 ∷ []) (36 ∷ 123 ∷ 125 ∷ []);
  answer = TokensRead (refused EndsBeforeClosingBrace);
}

-- G `${a }`: 4
abbrev pub example_G : Example
example_G = record {
  question = ReadingTokens (tok 8 1 ∷ tok 9 1 ∷ tok 1 1 ∷ tok 2 1 ∷ tok 6 1 ∷ []) (36 ∷ 123 ∷ 97 ∷ 32 ∷ 125 ∷ []);
  answer = TokensRead (refused UnexpectedToken);
}

-- the code of a placeholder whose name is one byte
abbrev pub stand_in : ℕ → List ℕ
stand_in name = stand_in_prefix ++ (name ∷ [])

-- a pattern, or a template, with an expression tree alone; and what stands for a template that is not given
pub record Side : Type 0 where
  pub list : List ℕ
  pub text : List ℕ
  pub code : List ℕ
  pub tree : List ℕ
  pub facts : List ℕ

abbrev pub no_side : Side
no_side = record { list = []; text = []; code = []; tree = []; facts = [] }

pub record Replacement : Type 0 where
  pub pattern : Side
  pub template : Option Side

abbrev pub template_in : Replacement → Side
template_in r = unwrap_or r.template no_side

-- they are handed in as pairs: docs/FORMAT.md, "Rules"
abbrev pub row_of : Replacement → List ℕ
row_of r =
    let p = r.pattern in
    let t = template_in r in
    length p.list ∷ length p.text ∷ length p.code ∷ cond (is_some r.template) 1 0 ∷ length t.list ∷ length t.text ∷ length t.code
    ∷ length p.tree ∷ length p.facts ∷ length t.tree ∷ length t.facts ∷ replicate 16 0

abbrev pub words_of : Replacement → List ℕ
words_of r =
    let p = r.pattern in
    let t = template_in r in
    p.list ++ t.list ++ p.tree ++ p.facts ++ t.tree ++ t.facts

abbrev pub bytes_of : Replacement → List ℕ
bytes_of r =
    let p = r.pattern in
    let t = template_in r in
    p.text ++ p.code ++ t.text ++ t.code

abbrev pub pairs_with : List Replacement → Pairs
pairs_with rs = pairs_of (flat_map row_of rs) (flat_map words_of rs) (flat_map bytes_of rs)

-- a pattern without a template, and a file
pub record Search : Type 0 where
  pub pattern : Side
  pub file : File

abbrev pub rules_in : Search → Rules
rules_in s = record { pairs = pairs_with (record { pattern = s.pattern; template = None } ∷ []); fact_bytes = 0 }

-- its one rule with node 1 of the file, in no range, with a buffer of eight bytes
abbrev pub anywhere : Option Range
anywhere = None

abbrev pub searched : Search → Question
searched s = MatchingOneNode (rules_in s) s.file 0 anywhere 1 (replicate 8 0)

-- a match that binds the first placeholder to the bytes from one to another, owned and without stars, and notes no comment
abbrev pub binds_one : ℕ → ℕ → Answer
binds_one start end =
    NodeMatched
    (Ok (Some (record {
      comments_length = 0;
      bindings = Some (record { start = start; end = end; stars = 0; self_kind = Owned }) ∷ replicate 7 None;
    })))
    (replicate 8 0)

-- H `f($a)` matches `f(1,)`; `f` resolves to 1 on both sides
abbrev pub search_H : Search
search_H = record {
  pattern = record {
    list = tok 1 1 ∷ tok 168 1 ∷ tok 8 1 ∷ tok 1 1 ∷ tok 5 1 ∷ [];
    text = 102 ∷ 40 ∷ 36 ∷ 97 ∷ 41 ∷ [];
    code = 102 ∷ 40 ∷ stand_in 97 ++ 41 ∷ [];
    tree =
        node_at 64 14 0 18
        ++ name_at 0 1
        ++ node_at 7 8 1 18
        ++ token_at 168 1 2
        ++ name_at 2 17
        ++ token_at 5 17 18;
    facts = fact_of 1 2 1 3 0;
  };
  file = file_of
      (node_at 2048 13 0 5
      ++ node_at 64 12 0 5
      ++ name_at 0 1
      ++ node_at 7 6 1 5
      ++ token_at 168 1 2
      ++ node_at 66 2 2 3
      ++ token_at 12 2 3
      ++ token_at 4 3 4
      ++ token_at 5 4 5)
      (102 ∷ 40 ∷ 49 ∷ 44 ∷ 41 ∷ [])
      (fact_of 0 3 1 0 0);
}

abbrev pub example_H : Example
example_H = record { question = searched search_H; answer = binds_one 2 3 }

-- J `f($a,)` matches `f(1)`; `f` resolves to 1 on both sides
abbrev pub search_J : Search
search_J = record {
  pattern = record {
    list = tok 1 1 ∷ tok 168 1 ∷ tok 8 1 ∷ tok 1 1 ∷ tok 4 1 ∷ tok 5 1 ∷ [];
    text = 102 ∷ 40 ∷ 36 ∷ 97 ∷ 44 ∷ 41 ∷ [];
    code = 102 ∷ 40 ∷ stand_in 97 ++ 44 ∷ 41 ∷ [];
    tree =
        node_at 64 15 0 19
        ++ name_at 0 1
        ++ node_at 7 9 1 19
        ++ token_at 168 1 2
        ++ name_at 2 17
        ++ token_at 4 17 18
        ++ token_at 5 18 19;
    facts = fact_of 1 2 1 3 0;
  };
  file = file_of
      (node_at 2048 12 0 4
      ++ node_at 64 11 0 4
      ++ name_at 0 1
      ++ node_at 7 5 1 4
      ++ token_at 168 1 2
      ++ node_at 66 2 2 3
      ++ token_at 12 2 3
      ++ token_at 5 3 4)
      (102 ∷ 40 ∷ 49 ∷ 41 ∷ [])
      (fact_of 0 3 1 0 0);
}

abbrev pub example_J : Example
example_J = record { question = searched search_J; answer = binds_one 2 3 }

-- a job in no range: replacements, a fact text, a file, parses with their text, and candidates, node and rule
abbrev pub job_with : List Replacement → List ℕ → File → List ℕ → List ℕ → List ℕ → Job
job_with rs fact_text file parses parse_text candidates =
    job_of (pairs_with rs) fact_text file parses parse_text candidates anywhere

-- the words of a parse: kind, number of node ranges, and where its text is; of a node range; and of the nodes of a path expression that is
-- one name
abbrev pub parse_of : ℕ → ℕ → ℕ → ℕ → List ℕ
parse_of kind count start end = word_of 8 (kind * 65536 + count) ∷ word_of 3 start ∷ word_of 4 end ∷ []

abbrev pub range_at : ℕ → ℕ → List ℕ
range_at start end = word_of 3 start ∷ word_of 4 end ∷ []

abbrev pub name_ranges : ℕ → ℕ → List ℕ
name_ranges start end = range_at start end ++ range_at start end ++ range_at start end ++ range_at start end

-- I `f($p, $q) ==>> g($q, $p)` on `f(a, b)`; `f` resolves to 1 on both sides, `g` to 2, and is `g` in module 1
abbrev pub replacement_I : Replacement
replacement_I = record {
  pattern = record {
    list = tok 1 1 ∷ tok 168 1 ∷ tok 8 1 ∷ tok 1 1 ∷ tok 4 1 ∷ tok 2 1 ∷ tok 8 1 ∷ tok 1 1 ∷ tok 5 1 ∷ [];
    text = 102 ∷ 40 ∷ 36 ∷ 112 ∷ 44 ∷ 32 ∷ 36 ∷ 113 ∷ 41 ∷ [];
    code = 102 ∷ 40 ∷ stand_in 112 ++ 44 ∷ 32 ∷ stand_in 113 ++ 41 ∷ [];
    tree =
        node_at 64 21 0 35
        ++ name_at 0 1
        ++ node_at 7 15 1 35
        ++ token_at 168 1 2
        ++ name_at 2 17
        ++ token_at 4 17 18
        ++ token_at 2 18 19
        ++ name_at 19 34
        ++ token_at 5 34 35;
    facts = fact_of 1 2 1 3 0;
  };
  template = Some (record {
    list = tok 1 1 ∷ tok 168 1 ∷ tok 8 1 ∷ tok 1 1 ∷ tok 4 1 ∷ tok 2 1 ∷ tok 8 1 ∷ tok 1 1 ∷ tok 5 1 ∷ [];
    text = 103 ∷ 40 ∷ 36 ∷ 113 ∷ 44 ∷ 32 ∷ 36 ∷ 112 ∷ 41 ∷ [];
    code = 103 ∷ 40 ∷ stand_in 113 ++ 44 ∷ 32 ∷ stand_in 112 ++ 41 ∷ [];
    tree =
        node_at 64 21 0 35
        ++ name_at 0 1
        ++ node_at 7 15 1 35
        ++ token_at 168 1 2
        ++ name_at 2 17
        ++ token_at 4 17 18
        ++ token_at 2 18 19
        ++ name_at 19 34
        ++ token_at 5 34 35;
    facts = fact_of 1 2 2 3 0 ++ fact_of 7 2 1 0 1;
  });
}

abbrev pub job_I : Job
job_I =
    job_with (replacement_I ∷ []) (103 ∷ [])
    (file_of
    (node_at 2048 22 0 7
    ++ node_at 64 21 0 7
    ++ name_at 0 1
    ++ node_at 7 15 1 7
    ++ token_at 168 1 2
    ++ name_at 2 3
    ++ token_at 4 3 4
    ++ token_at 2 4 5
    ++ name_at 5 6
    ++ token_at 5 6 7)
    (102 ∷ 40 ∷ 97 ∷ 44 ∷ 32 ∷ 98 ∷ 41 ∷ [])
    (fact_of 0 3 1 0 0 ++ fact_of 6 1 1 0 0))
    (parse_of 64 14 0 7 ++ range_at 0 7 ++ name_ranges 0 1 ++ range_at 1 7 ++ name_ranges 2 3 ++ name_ranges 5 6)
    (103 ∷ 40 ∷ 98 ∷ 44 ∷ 32 ∷ 97 ∷ 41 ∷ [])
    (1 ∷ 0 ∷ [])

-- 0000005007000060070000706728622c206129: 19 bytes suffice
abbrev pub example_I : Example
example_I = record {
  question = AJob job_I (replicate 19 0);
  answer = JobDone (Ok (Edits 19))
      (0 ∷ 0 ∷ 0 ∷ 80 ∷ 7 ∷ 0 ∷ 0 ∷ 96 ∷ 7 ∷ 0 ∷ 0 ∷ 112 ∷ 103 ∷ 40 ∷ 98 ∷ 44 ∷ 32 ∷ 97 ∷ 41 ∷ []);
}

-- 18 bytes give 30
abbrev pub example_I_30 : Example
example_I_30 = record { question = AJob job_I (replicate 18 0); answer = JobDone (Err NoRoom) (replicate 18 0) }

-- K `foo($a) ==>> $a.bar()` on `foo(x + y)`; `foo` resolves to 1 on both sides
abbrev pub replacement_K : Replacement
replacement_K = record {
  pattern = record {
    list = tok 1 3 ∷ tok 168 1 ∷ tok 8 1 ∷ tok 1 1 ∷ tok 5 1 ∷ [];
    text = 102 ∷ 111 ∷ 111 ∷ 40 ∷ 36 ∷ 97 ∷ 41 ∷ [];
    code = 102 ∷ 111 ∷ 111 ∷ 40 ∷ stand_in 97 ++ 41 ∷ [];
    tree = node_at 64 14 0 20 ++ name_at 0 3 ++ node_at 7 8 3 20 ++ token_at 168 3 4 ++ name_at 4 19 ++ token_at 5 19 20;
    facts = fact_of 1 2 1 3 0;
  };
  template = Some (record {
    list = tok 8 1 ∷ tok 1 1 ∷ tok 174 1 ∷ tok 1 3 ∷ tok 168 1 ∷ tok 5 1 ∷ [];
    text = 36 ∷ 97 ∷ 46 ∷ 98 ∷ 97 ∷ 114 ∷ 40 ∷ 41 ∷ [];
    code = stand_in 97 ++ 46 ∷ 98 ∷ 97 ∷ 114 ∷ 40 ∷ 41 ∷ [];
    tree =
        node_at 65 12 0 21
        ++ name_at 0 15
        ++ token_at 174 15 16
        ++ node_at 4 2 16 19
        ++ token_at 1 16 19
        ++ node_at 7 3 19 21
        ++ token_at 168 19 20
        ++ token_at 5 20 21;
    facts = [];
  });
}

abbrev pub job_K : Job
job_K =
    job_with (replacement_K ∷ []) []
    (file_of
    (node_at 2048 24 0 10
    ++ node_at 64 23 0 10
    ++ name_at 0 3
    ++ node_at 7 17 3 10
    ++ token_at 168 3 4
    ++ node_at 68 14 4 9
    ++ name_at 4 5
    ++ token_at 2 5 6
    ++ token_at 171 6 7
    ++ token_at 2 7 8
    ++ name_at 8 9
    ++ token_at 5 9 10)
    (102 ∷ 111 ∷ 111 ∷ 40 ∷ 120 ∷ 32 ∷ 43 ∷ 32 ∷ 121 ∷ 41 ∷ [])
    (fact_of 0 3 1 0 0 ++ fact_of 6 1 1 0 0))
    (parse_of 65 12 0 11 ++ range_at 0 11 ++ name_ranges 0 1 ++ range_at 4 11 ++ name_ranges 4 5 ++ range_at 6 9 ++ range_at 9 11)
    (120 ∷ 32 ∷ 43 ∷ 32 ∷ 121 ∷ 46 ∷ 98 ∷ 97 ∷ 114 ∷ 40 ∷ 41 ∷ [])
    (1 ∷ 0 ∷ [])

-- an edit from 0 to 10 of 13 bytes, `(x + y).bar()`
abbrev pub example_K : Example
example_K = record {
  question = AJob job_K (replicate 25 0);
  answer = JobDone (Ok (Edits 25))
      (0 ∷ 0 ∷ 0 ∷ 80 ∷ 10 ∷ 0 ∷ 0 ∷ 96 ∷ 13 ∷ 0 ∷ 0 ∷ 112
      ∷ 40 ∷ 120 ∷ 32 ∷ 43 ∷ 32 ∷ 121 ∷ 41 ∷ 46 ∷ 98 ∷ 97 ∷ 114 ∷ 40 ∷ 41 ∷ []);
}

-- M `S::f($s) ==>> h($s)` and `old() ==>> new2()` on `old().f()`, self by `&`; `S::f` and the method resolve to 1, `h` to 2, `old` to 3, `new2`
-- to 4, and `S` is type 9
abbrev pub replacement_M : Replacement
replacement_M = record {
  pattern = record {
    list = tok 1 1 ∷ tok 10 1 ∷ tok 10 1 ∷ tok 1 1 ∷ tok 168 1 ∷ tok 8 1 ∷ tok 1 1 ∷ tok 5 1 ∷ [];
    text = 83 ∷ 58 ∷ 58 ∷ 102 ∷ 40 ∷ 36 ∷ 115 ∷ 41 ∷ [];
    code = 83 ∷ 58 ∷ 58 ∷ 102 ∷ 40 ∷ stand_in 115 ++ 41 ∷ [];
    tree =
        node_at 64 19 0 21
        ++ node_at 67 10 0 4
        ++ node_at 2 9 0 4
        ++ node_at 2 4 0 1
        ++ node_at 3 3 0 1
        ++ node_at 4 2 0 1
        ++ token_at 1 0 1
        ++ token_at 14 1 3
        ++ node_at 3 3 3 4
        ++ node_at 4 2 3 4
        ++ token_at 1 3 4
        ++ node_at 7 8 4 21
        ++ token_at 168 4 5
        ++ name_at 5 20
        ++ token_at 5 20 21;
    facts = fact_of 1 2 1 7 0 ++ fact_of 4 2 9 0 0;
  };
  template = Some (record {
    list = tok 1 1 ∷ tok 168 1 ∷ tok 8 1 ∷ tok 1 1 ∷ tok 5 1 ∷ [];
    text = 104 ∷ 40 ∷ 36 ∷ 115 ∷ 41 ∷ [];
    code = 104 ∷ 40 ∷ stand_in 115 ++ 41 ∷ [];
    tree = node_at 64 14 0 18 ++ name_at 0 1 ++ node_at 7 8 1 18 ++ token_at 168 1 2 ++ name_at 2 17 ++ token_at 5 17 18;
    facts = fact_of 1 2 2 3 0 ++ fact_of 7 2 1 0 1;
  });
}

abbrev pub replacement_M_old : Replacement
replacement_M_old = record {
  pattern = record {
    list = tok 1 3 ∷ tok 168 1 ∷ tok 5 1 ∷ [];
    text = 111 ∷ 108 ∷ 100 ∷ 40 ∷ 41 ∷ [];
    code = 111 ∷ 108 ∷ 100 ∷ 40 ∷ 41 ∷ [];
    tree = node_at 64 9 0 5 ++ name_at 0 3 ++ node_at 7 3 3 5 ++ token_at 168 3 4 ++ token_at 5 4 5;
    facts = fact_of 1 2 3 3 0;
  };
  template = Some (record {
    list = tok 1 4 ∷ tok 168 1 ∷ tok 5 1 ∷ [];
    text = 110 ∷ 101 ∷ 119 ∷ 50 ∷ 40 ∷ 41 ∷ [];
    code = 110 ∷ 101 ∷ 119 ∷ 50 ∷ 40 ∷ 41 ∷ [];
    tree = node_at 64 9 0 6 ++ name_at 0 4 ++ node_at 7 3 4 6 ++ token_at 168 4 5 ++ token_at 5 5 6;
    facts = fact_of 1 2 4 3 0 ++ fact_of 7 2 1 1 4;
  });
}

abbrev pub job_M : Job
job_M =
    job_with (replacement_M ∷ replacement_M_old ∷ []) (104 ∷ 110 ∷ 101 ∷ 119 ∷ 50 ∷ [])
    (file_of
    (node_at 2048 17 0 9
    ++ node_at 65 16 0 9
    ++ node_at 64 9 0 5
    ++ name_at 0 3
    ++ node_at 7 3 3 5
    ++ token_at 168 3 4
    ++ token_at 5 4 5
    ++ token_at 174 5 6
    ++ node_at 4 2 6 7
    ++ token_at 1 6 7
    ++ node_at 7 3 7 9
    ++ token_at 168 7 8
    ++ token_at 5 8 9)
    (111 ∷ 108 ∷ 100 ∷ 40 ∷ 41 ∷ 46 ∷ 102 ∷ 40 ∷ 41 ∷ [])
    (fact_of 0 4 3 0 0 ++ fact_of 2 1 1 1 1 ++ fact_of 3 2 0 9 0 ++ fact_of 6 1 1 0 0 ++ fact_of 6 2 1 0 0))
    (parse_of 64 6 0 6 ++ range_at 0 6 ++ name_ranges 0 4 ++ range_at 4 6
    ++ parse_of 64 13 6 16 ++ range_at 0 10 ++ name_ranges 0 1 ++ range_at 1 10 ++ range_at 2 9 ++ range_at 3 9 ++ name_ranges 3 7 ++ range_at 7 9)
    (110 ∷ 101 ∷ 119 ∷ 50 ∷ 40 ∷ 41 ∷ 104 ∷ 40 ∷ 38 ∷ 110 ∷ 101 ∷ 119 ∷ 50 ∷ 40 ∷ 41 ∷ 41 ∷ [])
    (1 ∷ 0 ∷ 2 ∷ 1 ∷ [])

-- the prefix stands before the nested text: an edit from 0 to 9 of 10 bytes, `h(&new2())`
abbrev pub example_M : Example
example_M = record {
  question = AJob job_M (replicate 22 0);
  answer = JobDone (Ok (Edits 22))
      (0 ∷ 0 ∷ 0 ∷ 80 ∷ 9 ∷ 0 ∷ 0 ∷ 96 ∷ 10 ∷ 0 ∷ 0 ∷ 112 ∷ 104 ∷ 40 ∷ 38 ∷ 110 ∷ 101 ∷ 119 ∷ 50 ∷ 40 ∷ 41 ∷ 41 ∷ []);
}

-- a number of one digit, and a placeholder, as nodes of a kind; kind 10 needs no parse
abbrev pub digit : ℕ → ℕ → Side
digit kind byte = record { list = tok 12 1 ∷ []; text = byte ∷ []; code = byte ∷ []; tree = node_at kind 2 0 1 ++ token_at 12 0 1; facts = [] }

abbrev pub placeholder_of : ℕ → ℕ → Side
placeholder_of kind name = record {
  list = tok 8 1 ∷ tok 1 1 ∷ [];
  text = 36 ∷ name ∷ [];
  code = stand_in name;
  tree = node_at kind 2 0 15 ++ token_at 1 0 15;
  facts = [];
}

-- Two captured ranges hold a match: `$a $b ==>> $b-$a` on two nodes without text, and `$c ==>> 1` on the second of them.
abbrev pub replacement_ranges : Replacement
replacement_ranges = record {
  pattern = record {
    list = tok 8 1 ∷ tok 1 1 ∷ tok 2 1 ∷ tok 8 1 ∷ tok 1 1 ∷ [];
    text = 36 ∷ 97 ∷ 32 ∷ 36 ∷ 98 ∷ [];
    code = stand_in 97 ++ 32 ∷ stand_in 98;
    tree = node_at 10 6 0 31 ++ node_at 10 2 0 15 ++ token_at 1 0 15 ++ token_at 2 15 16 ++ node_at 10 2 16 31 ++ token_at 1 16 31;
    facts = [];
  };
  template = Some (record {
    list = tok 8 1 ∷ tok 1 1 ∷ tok 173 1 ∷ tok 8 1 ∷ tok 1 1 ∷ [];
    text = 36 ∷ 98 ∷ 45 ∷ 36 ∷ 97 ∷ [];
    code = stand_in 98 ++ 45 ∷ stand_in 97;
    tree = node_at 10 4 0 31 ++ token_at 1 0 15 ++ token_at 173 15 16 ++ token_at 1 16 31;
    facts = [];
  });
}

abbrev pub job_ranges : Job
job_ranges =
    job_with (replacement_ranges ∷ record { pattern = placeholder_of 10 99; template = Some (digit 10 49) } ∷ []) []
    (file_of (node_at 10 3 0 0 ++ node_at 10 1 0 0 ++ node_at 10 1 0 0) [] (fact_of 6 0 1 0 0 ++ fact_of 6 2 1 0 0))
    [] []
    (0 ∷ 0 ∷ 2 ∷ 1 ∷ [])

-- the earlier placeholder in pattern order takes it, though `$b` captured its node: `-1`
abbrev pub example_ranges : Example
example_ranges = record {
  question = AJob job_ranges (replicate 14 0);
  answer = JobDone (Ok (Edits 14)) (0 ∷ 0 ∷ 0 ∷ 80 ∷ 0 ∷ 0 ∷ 0 ∷ 96 ∷ 2 ∷ 0 ∷ 0 ∷ 112 ∷ 45 ∷ 49 ∷ []);
}

-- Three rules on one node: `$a ==>> $a!`, `1 ==>> 2` and `1 ==>> 3` on `1`, the last handed in first.
abbrev pub replacement_rules : Replacement
replacement_rules = record {
  pattern = placeholder_of 10 97;
  template = Some (record {
    list = tok 8 1 ∷ tok 1 1 ∷ tok 161 1 ∷ [];
    text = 36 ∷ 97 ∷ 33 ∷ [];
    code = stand_in 97 ++ 33 ∷ [];
    tree = node_at 10 3 0 16 ++ token_at 1 0 15 ++ token_at 161 15 16;
    facts = [];
  });
}

abbrev pub job_rules : Job
job_rules =
    job_with
    (replacement_rules
    ∷ record { pattern = digit 10 49; template = Some (digit 10 50) }
    ∷ record { pattern = digit 10 49; template = Some (digit 10 51) }
    ∷ [])
    []
    (file_of (node_at 10 2 0 1 ++ token_at 12 0 1) (49 ∷ []) (fact_of 6 0 1 0 0))
    [] []
    (0 ∷ 2 ∷ 0 ∷ 1 ∷ 0 ∷ 0 ∷ [])

-- the lowest rule is kept, the next goes into its capture, and the last is dropped there: `2!`
abbrev pub example_rules : Example
example_rules = record {
  question = AJob job_rules (replicate 14 0);
  answer = JobDone (Ok (Edits 14)) (0 ∷ 0 ∷ 0 ∷ 80 ∷ 1 ∷ 0 ∷ 0 ∷ 96 ∷ 2 ∷ 0 ∷ 0 ∷ 112 ∷ 50 ∷ 33 ∷ []);
}

-- Nested before outer: `-$a ==>> !$a` and `1 ==>> 2` on `-1`, with some parses.
abbrev pub replacement_nested : Replacement
replacement_nested = record {
  pattern = record {
    list = tok 173 1 ∷ tok 8 1 ∷ tok 1 1 ∷ [];
    text = 45 ∷ 36 ∷ 97 ∷ [];
    code = 45 ∷ stand_in 97;
    tree = node_at 70 4 0 16 ++ token_at 173 0 1 ++ node_at 67 2 1 16 ++ token_at 1 1 16;
    facts = [];
  };
  template = Some (record {
    list = tok 161 1 ∷ tok 8 1 ∷ tok 1 1 ∷ [];
    text = 33 ∷ 36 ∷ 97 ∷ [];
    code = 33 ∷ stand_in 97;
    tree = node_at 70 4 0 16 ++ token_at 161 0 1 ++ node_at 67 2 1 16 ++ token_at 1 1 16;
    facts = [];
  });
}

abbrev pub job_nested : List ℕ → List ℕ → Job
job_nested parses parse_text =
    job_with (replacement_nested ∷ record { pattern = digit 66 49; template = Some (digit 66 50) } ∷ []) []
    (file_of (node_at 70 4 0 2 ++ token_at 173 0 1 ++ node_at 66 2 1 2 ++ token_at 12 1 2) (45 ∷ 49 ∷ []) (fact_of 6 0 1 0 0 ++ fact_of 6 2 1 0 0))
    parses parse_text
    (0 ∷ 0 ∷ 2 ∷ 1 ∷ [])

-- without a parse the nested text is asked for, `2`, though the outer text begins before it
abbrev pub example_nested : Example
example_nested = record { question = AJob (job_nested [] []) (replicate 14 0); answer = JobDone (Ok (Asked 66 1)) (50 ∷ replicate 13 0) }

-- with the parse of that, the outer text with the nested one in it: `!2`
abbrev pub example_outer : Example
example_outer = record {
  question = AJob (job_nested (parse_of 66 1 0 1 ++ range_at 0 1) (50 ∷ [])) (replicate 14 0);
  answer = JobDone (Ok (Asked 70 2)) (33 ∷ 50 ∷ replicate 12 0);
}

abbrev pub examples : List Example
examples =
    example_A
    ∷ example_B
    ∷ example_C
    ∷ example_D
    ∷ example_E
    ∷ example_F
    ∷ example_G
    ∷ example_H
    ∷ example_I
    ∷ example_I_30
    ∷ example_J
    ∷ example_K
    ∷ example_M
    ∷ example_ranges
    ∷ example_rules
    ∷ example_nested
    ∷ example_outer
    ∷ []
