-- What matching asks of a call of the pattern that UFCS may match, and of a call or a method call of the code. Document 01: "Arguments and
-- receiver are child nodes of expression kind."
-- Assumes nothing.
use Rattle.std.specs.Prelude.{ℕ, Bool, cond, not, ◌&&◌, ◌||◌, [], ◌∷◌, Option, Some, None, is_some, unwrap_or}
use Rattle.syntax.specs.Trees.{Elems}
use Rattle.syntax.specs.Accessors.{children, rest, number_of, some, first_child, find_expression}
use Rattle.facts.specs.declared.Call.{Call}
use Rattle.captures.specs.declared.Binding.{Binding}
use Rattle.captures.specs.Attempts.{Bound, Attempt, matched}
use Rattle.captures.specs.Effects.{binding}
use Rattle.matcher.specs.Matcher.{Matcher, placeholder_of, function_of, is_typed, type_of, resolution_of}
use Rattle.matcher.specs.FileFacts.{resolves_to, calls_function, takes_self, self_kind_at, derefs}

abbrev pub call_of : Matcher → Elems → Option Call
call_of x p = x.call_at (number_of p)

-- the children of a call's first ARG_LIST, and the first argument in it; the receiver of a method call
abbrev pub arguments_of : Elems → Elems
arguments_of c = children (first_child 7 c)

abbrev pub argument_of : Elems → Elems
argument_of c = find_expression (arguments_of c)

abbrev pub receiver_of : Elems → Elems
receiver_of c = find_expression (children c)

-- `check_expr_type` of an expression of the code, with the qualifier type of the pattern's call
abbrev pub derefs_of : Matcher → Elems → Elems → Option ℕ
derefs_of x p c = derefs x.facts (number_of c) (type_of (call_of x p))

-- "Check that the first argument is the expected type."
abbrev pub first_fits : Matcher → Elems → Elems → Bool
first_fits x p c = not (is_typed (call_of x p) && some (argument_of c)) || is_some (derefs_of x p (argument_of c))

-- the code's path refers to what the pattern's resolves to; the method call calls the function of the pattern's call
abbrev pub same_resolution : Matcher → Elems → Elems → Bool
same_resolution x p c = resolves_to x.facts (number_of c) (resolution_of (x.path_at (number_of p)))

abbrev pub same_function : Matcher → Elems → Elems → Bool
same_function x p c = calls_function x.facts (number_of c) (function_of (call_of x p))

-- "Takes self but no qualifier type: the receiver is not consumed from the pattern's arguments."
abbrev pub takes_receiver : Matcher → Elems → Elems → Bool
takes_receiver x p c = not (takes_self x.facts (number_of c)) || (is_typed (call_of x p) && some (receiver_of c))

abbrev pub receiver_fits : Matcher → Elems → Elems → Bool
receiver_fits x p c = not (takes_self x.facts (number_of c)) || is_some (derefs_of x p (receiver_of c))

-- how often the receiver is dereferenced, none where it does not fit; as it is, it fits a function that does not take self
abbrev pub receiver_derefs : Matcher → Elems → Elems → Option ℕ
receiver_derefs x p c = cond (takes_self x.facts (number_of c)) (derefs_of x p (receiver_of c)) (Some 0)

-- "we store additional information on the placeholder match about autoderef and autoref", for the placeholder that was bound to the receiver
-- just before, with the number of the method call
abbrev pub bound : Option ℕ → Binding → Attempt
bound None b = matched []
bound (Some slot) b = matched (Bound slot b ∷ [])

abbrev pub prefix : Matcher → ℕ → Elems → Elems → ℕ → Attempt
prefix x stars q receiver call =
    cond (takes_self x.facts call)
    (bound (placeholder_of x q) (binding receiver receiver stars (self_kind_at x.facts call)))
    (matched [])

abbrev pub prefixed : Matcher → Elems → Elems → Attempt
prefixed x p c = prefix x (unwrap_or (derefs_of x p (receiver_of c)) 0) (argument_of p) (receiver_of c) (number_of c)

-- the pattern's arguments that are left for the code's
abbrev pub arguments_left : Matcher → Elems → Elems → Elems
arguments_left x p c = cond (takes_receiver x p c) (rest (argument_of p)) (arguments_of p)
