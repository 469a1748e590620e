-- What the facts of the file say, by element; document 01, "Words": "An absent fact is the crate's `None`."
-- Assumes nothing.
use Rattle.std.specs.Prelude.{ℕ, zero, suc, ◌+◌, Bool, false, cond, List, Option, Some, None, eqb, length}
use Rattle.syntax.specs.Trees.{Elems, none, token, node}
use Rattle.syntax.specs.Accessors.{element_at}
use Rattle.facts.specs.Facts.{facts_of, fact_by}
use Rattle.facts.specs.declared.Fact.{Fact}
use Rattle.facts.specs.declared.Sort.{Sort}
use Rattle.facts.specs.declared.Sort.TheVariants.{CodePath, MethodCall, Expression, RecordField, Node}
use Rattle.captures.specs.declared.SelfKind.{SelfKind}
use Rattle.captures.specs.Effects.{self_kind}

-- the fact of a sort at an element, with a step; whether there is one that meets a test, and what it says, 0 where there is none
abbrev pub the_fact : List ℕ → Sort → ℕ → ℕ → Option Fact
the_fact facts sort e step = fact_by sort e step (facts_of facts)

abbrev pub has_fact : (Fact → Bool) → Option Fact → Bool
has_fact test None = false
has_fact test (Some f) = test f

abbrev pub fact_value : (Fact → ℕ) → Option Fact → ℕ
fact_value value None = 0
fact_value value (Some f) = value f

-- `resolve_path`: "0 code path, resolution"
abbrev pub resolves_to : List ℕ → ℕ → ℕ → Bool
resolves_to facts e resolution = has_fact (λ f. eqb f.first resolution) (the_fact facts CodePath e 0)

-- `resolve_method_call`: "2 method call, function, takes self (0 or 1), self kind (0 owned, 1 `&`, 2 `&mut`)"
abbrev pub calls_function : List ℕ → ℕ → ℕ → Bool
calls_function facts e function = has_fact (λ f. eqb f.first function) (the_fact facts MethodCall e 0)

abbrev pub takes_self : List ℕ → ℕ → Bool
takes_self facts e = has_fact (λ f. eqb f.second 1) (the_fact facts MethodCall e 0)

abbrev pub self_kind_at : List ℕ → ℕ → SelfKind
self_kind_at facts e = self_kind (fact_value (λ f. f.third) (the_fact facts MethodCall e 0))

-- `check_expr_type`: "3 expression, autoderef step from 0 without gaps, type": the first step, from 0 on, that has the type
abbrev pub derefs_at : ℕ → ℕ → Option ℕ → Option Fact → Option ℕ
derefs_at type step further None = None
derefs_at type step further (Some f) = cond (eqb f.second type) (Some step) further

unfoldable pub derefs_from : ℕ → List ℕ → ℕ → ℕ → ℕ → Option ℕ
derefs_from zero facts e type step = None
derefs_from (suc n) facts e type step = derefs_at type step (derefs_from n facts e type (step + 1)) (the_fact facts Expression e step)

abbrev pub derefs : List ℕ → ℕ → ℕ → Option ℕ
derefs facts e type = derefs_from (length (facts_of facts)) facts e type 0

-- `field_name`: "5 record field, its name token", an element of the file's tree by itself, without what is below it or follows it
abbrev pub alone : Elems → Elems
alone none = none
alone (token i k s e r) = token i k s e none
alone (node i k s e cs r) = node i k s e none none

abbrev pub name_of : Elems → Option Fact → Elems
name_of tree None = none
name_of tree (Some f) = alone (element_at f.first tree)

abbrev pub name_token : List ℕ → Elems → ℕ → Elems
name_token facts tree e = name_of tree (the_fact facts RecordField e 0)

-- "6 node, module"; 0 where there is none
abbrev pub module_of : List ℕ → ℕ → ℕ
module_of facts e = fact_value (λ f. f.first) (the_fact facts Node e 0)
