-- Matching, docs/src/src/matching.rs: one definition for each of its functions, over trees. Only its second phase is defined: the first
-- never changes the answer. An element is the first of a sequence of siblings; an absent one is the empty sequence. The number bounds the
-- calls: more than five times the words of both sides is enough, and more changes nothing.
-- Assumes nothing.
use Rattle.std.specs.Prelude.{ℕ, zero, suc, ◌+◌, ◌*◌, ◌≤◌, ◌<◌, ◌≡◌, Bool, true, false, cond, not, ◌&&◌, ◌||◌, List, [], ◌∷◌, Option, Some, None, eqb, length, take, drop, unwrap_or, option_map}
use Rattle.syntax.specs.Trees.{Elems, none}
use Rattle.syntax.specs.Accessors.{children, rest, number_of, some, node_in, first_child, find_expression}
use Rattle.syntax.specs.Siblings.{kind_of, is_a_node, is_a_token, is_trivia, skip_trivia}
use Rattle.syntax.specs.Views.{elems_of}
use Rattle.syntax.specs.declared.parts.Part.{Part}
use Rattle.captures.specs.Attempts.{Event, Bound, Attempt, failed, matched, and_then, given, comments}
use Rattle.captures.specs.Effects.{binding, recorded, laid_by, Gives}
use Rattle.captures.specs.Turns.{Giving}
use Rattle.captures.specs.declared.State.{State}
use Rattle.captures.specs.declared.SelfKind.TheVariants.{Owned}
use Rattle.captures.specs.declared.Turn.{Turn}
use Rattle.matcher.specs.Matcher.{Matcher, slot_of, is_resolved, is_a_call}
use Rattle.matcher.specs.Tokens.{matches_token, after_token, note}
use Rattle.token_trees.specs.TokenTrees.{match_token_tree}
use Rattle.matcher.specs.declared.Siblings.{Siblings}
use Rattle.calls.specs.Calls.{call_of, arguments_of, argument_of, receiver_of, first_fits, same_resolution, same_function, takes_receiver, receiver_fits, prefixed, arguments_left}
use Rattle.matching.specs.RecordFields.{match_fields}
use Rattle.record_fields.specs.Order.{next}
use Rattle.matching.specs.StartingOver.{field_by_name, by_name, again}

-- a placeholder takes the node, where its constraints allow it; "LITERAL", kind 66
abbrev pub capture : Matcher → ℕ → Elems → Attempt
capture x slot c = cond (x.allows slot (node_in 66 66 c)) (matched (Bound slot (binding c c 0 Owned) ∷ [])) failed

unfoldable mutual
  -- `attempt_match_node`
  pub match_node : ℕ → Matcher → Elems → Elems → Attempt
  match_node zero x p c = failed
  match_node (suc n) x p c =
      unwrap_or (option_map (λ slot. capture x slot c) (slot_of x p))
      (cond (is_a_call (call_of x p) && node_in 65 65 c) (match_method_call n x p c)
      (cond (is_a_call (call_of x p) && node_in 64 64 c) (match_ufcs n x p c)
      (cond (eqb (kind_of p) (kind_of c)) (match_by_kind n x p c) failed)))

  -- "Some kinds of nodes have special handling. For everything else, we fall back to default matching."
  pub match_by_kind : ℕ → Matcher → Elems → Elems → Attempt
  match_by_kind zero x p c = failed
  match_by_kind (suc n) x p c =
      cond (eqb (kind_of c) 8) (match_record_field_list n x p c)
      (cond (eqb (kind_of c) 1) (match_token_tree n x p c)
      (cond (eqb (kind_of c) 2) (match_path n x p c) (match_sequences n x (children p) (children c))))

  -- `attempt_match_sequences`, with `attempt_match_token`
  pub match_sequences : ℕ → Matcher → Elems → Elems → Attempt
  match_sequences zero x ps cs = failed
  match_sequences (suc n) x ps cs =
      cond (some cs)
      (cond (is_trivia cs) (and_then (note x.text cs) (match_sequences n x (skip_trivia ps) (rest cs)))
      (cond (is_a_token cs)
      (and_then (given (matches_token x.sheet x.code x.text (skip_trivia ps) cs)) (match_sequences n x (after_token x.sheet (skip_trivia ps)
      cs) (rest cs)))
      (and_then (given (is_a_node (skip_trivia ps))) (and_then (match_node n x (skip_trivia ps) cs) (match_sequences n x (rest (skip_trivia ps)) (rest cs))))))
      (given (not (some (skip_trivia ps))))

  -- `attempt_match_opt`
  pub match_opt : ℕ → Matcher → Elems → Elems → Attempt
  match_opt zero x p c = failed
  match_opt (suc n) x p c = cond (some p) (cond (some c) (match_node n x p c) failed) (given (not (some c)))

  -- `attempt_match_path`: "Match everything within the segment except for the name-ref, which is handled separately via comparing what the
  -- path resolves to"
  pub match_path : ℕ → Matcher → Elems → Elems → Attempt
  match_path zero x p c = failed
  match_path (suc n) x p c =
      cond (is_resolved (x.path_at (number_of p)))
      (and_then (match_segments n x (first_child 3 p) (first_child 3 c)) (given (same_resolution x p c)))
      (match_sequences n x (children p) (children c))

  -- two segments, where both are there: generic arguments, kind 5, and parenthesised ones, kind 6
  pub match_segments : ℕ → Matcher → Elems → Elems → Attempt
  match_segments zero x p c = failed
  match_segments (suc n) x p c =
      cond (some p && some c)
      (and_then (match_opt n x (first_child 5 p) (first_child 5 c)) (match_opt n x (first_child 6 p) (first_child 6 c)))
      (matched [])

  -- `attempt_match_record_field_list`: by name, or by order from the start
  pub match_record_field_list : ℕ → Matcher → Elems → Elems → Attempt
  match_record_field_list zero x p c = failed
  match_record_field_list (suc n) x p c =
      match_fields (λ q e. match_opt n x q e) (match_sequences n x (children p) (children c)) x (children p) (children c) (children p)

  -- `attempt_match_ufcs_to_ufcs`
  pub match_ufcs : ℕ → Matcher → Elems → Elems → Attempt
  match_ufcs zero x p c = failed
  match_ufcs (suc n) x p c = and_then (given (first_fits x p c)) (match_sequences n x (children p) (children c))

  -- `attempt_match_ufcs_to_method_call`
  pub match_method_call : ℕ → Matcher → Elems → Elems → Attempt
  match_method_call zero x p c = failed
  match_method_call (suc n) x p c =
      and_then (given (same_function x p c && some (first_child 7 p)))
      (and_then (cond (takes_receiver x p c) (match_receiver n x p c) (matched []))
      (and_then (given (some (first_child 7 c))) (match_arguments n x (arguments_left x p c) (arguments_of c))))

  -- the receiver, with the pattern's first argument
  pub match_receiver : ℕ → Matcher → Elems → Elems → Attempt
  match_receiver zero x p c = failed
  match_receiver (suc n) x p c =
      and_then (given (receiver_fits x p c)) (and_then (match_opt n x (argument_of p) (receiver_of c)) (prefixed x p c))

  -- arguments in turn
  pub match_arguments : ℕ → Matcher → Elems → Elems → Attempt
  match_arguments zero x ps cs = failed
  match_arguments (suc n) x ps cs =
      cond (some (find_expression ps) || some (find_expression cs))
      (and_then (match_opt n x (find_expression ps) (find_expression cs)) (match_arguments n x (rest (find_expression ps)) (rest (find_expression cs))))
      (matched [])

-- An answer and a buffer are right for the first elements, or for what is left, at each bound that is enough. A rank stands behind five times
-- the words of both sides: a function that hands both sides on as they are calls one of a lower rank.
abbrev pub enough : ℕ → Part → Part → ℕ
enough rank p c = 5 * (length p.words.now + length c.words.now) + rank

pub record GivesFrom (rank : ℕ) (attempt : ℕ → Matcher → Elems → Elems → Attempt) (x : Matcher) (p c : Part) (s : State) (out : List ℕ) (r : Option State) (out' : List ℕ) : Type 0 where
  pub gives : (n : ℕ) → enough rank p c < n → Gives (attempt n x (elems_of p) (elems_of c)) s out r out'

abbrev pub NodeGives : Matcher → Giving
NodeGives = GivesFrom 2 match_node

abbrev pub ByKindGives : Matcher → Giving
ByKindGives = GivesFrom 1 match_by_kind

abbrev pub SequencesGive : Matcher → Giving
SequencesGive = GivesFrom 4 match_sequences

abbrev pub OptGives : Matcher → Giving
OptGives = GivesFrom 3 match_opt

abbrev pub PathGives : Matcher → Giving
PathGives = GivesFrom 0 match_path

abbrev pub SegmentsGive : Matcher → Giving
SegmentsGive = GivesFrom 0 match_segments

abbrev pub RecordGives : Matcher → Giving
RecordGives = GivesFrom 0 match_record_field_list

abbrev pub UfcsGives : Matcher → Giving
UfcsGives = GivesFrom 0 match_ufcs

abbrev pub MethodCallGives : Matcher → Giving
MethodCallGives = GivesFrom 1 match_method_call

abbrev pub ReceiverGives : Matcher → Giving
ReceiverGives = GivesFrom 0 match_receiver

abbrev pub ArgumentsGive : Matcher → Giving
ArgumentsGive = GivesFrom 4 match_arguments

-- for one of the pattern's siblings, and for what is left of them, by name: among all siblings of the pattern and of the code
pub record FieldGives (leaves : Bool) (x : Matcher) (l : Siblings) (q d : Part) (s : State) (out : List ℕ) (r : Option State) (out' : List ℕ) : Type 0 where
  pub gives : (n : ℕ) → enough 4 l.p l.c < n
      → Gives (field_by_name leaves (λ q e. match_opt n x q e) x (elems_of l.p) (elems_of l.c) (elems_of q) (elems_of d)) s out r out'

pub record ByNameGives (leaves : Bool) (x : Matcher) (l : Siblings) (q d : Part) (s : State) (out : List ℕ) (r : Option State) (out' : List ℕ) : Type 0 where
  pub gives : (n : ℕ) → enough 4 l.p l.c < n
      → Gives (by_name leaves (λ q e. match_opt n x q e) x (elems_of l.p) (elems_of l.c) (elems_of q) (elems_of d)) s out r out'

-- what is left of the pattern's siblings and the code's, by order, and then the comments of pairs left out, as long as no name was a placeholder
abbrev pub owed : Bool → ℕ → Matcher → Elems → Elems → Elems → List Event
owed before n x cs q d = cond before (again (λ q e. match_opt n x q e) x cs q d) []

pub record MeasuredGives (before : Bool) (x : Matcher) (l : Siblings) (p c : Part) (s : State) (out : List ℕ) (r : Option State) (out' : List ℕ) : Type 0 where
  pub gives : (n m : ℕ) → enough 4 p c < n → enough 4 l.p l.c < m
      → Gives (and_then (match_sequences n x (elems_of p) (elems_of c)) (matched (owed before m x (elems_of l.c) (elems_of p) (elems_of c)))) s out r out'

-- for one of the pattern's siblings and one of the code's, where that is given
abbrev pub NotedGives : Matcher → Part → Option Part → State → List ℕ → Option State → List ℕ → Type 0
NotedGives x q None s out r out' = Gives (matched []) s out r out'
NotedGives x q (Some e) s out r out' = OptGives x q e s out r out'

-- what a turn over siblings passed, and that it acted as events say
pub record Went (p c : Part) (s : State) (out : List ℕ) (t : Turn) (out' : List ℕ) : Type 0 where
  pub code : elems_of t.c ≡ rest (elems_of c)
  pub tokens : is_a_token (elems_of c) ≡ true → next (elems_of t.p) ≡ next (elems_of p)
  pub nodes : is_a_token (elems_of c) ≡ false → (is_a_node (skip_trivia (elems_of p)) ≡ true) × (elems_of t.p ≡ rest (skip_trivia (elems_of p)))
  pub events : List Event
  pub state : t.state ≡ recorded (length out) events s
  pub buffer : out' ≡ laid_by events s out

-- The comments of what is left of the siblings by name stand in the buffer from a place on, before the place behind all, as long as there
-- is room.
pub record Stood (a : Attempt) (from : ℕ) (s : State) (out : List ℕ) : Type 0 where
  pub events : List Event
  pub matches : a ≡ matched events
  pub bytes : s.noted ≤ length out → (from + length (comments events) ≤ s.noted) × (take (length (comments events)) (drop from out) ≡ comments events)

pub record Stands (before : Bool) (x : Matcher) (l : Siblings) (p : Part) (from : ℕ) (s : State) (out : List ℕ) : Type 0 where
  pub stands : (n : ℕ) → enough 4 l.p l.c < n
      → Stood (cond before (by_name false (λ q e. match_opt n x q e) x (elems_of l.p) (elems_of l.c) (elems_of p) none) (matched [])) from s out
