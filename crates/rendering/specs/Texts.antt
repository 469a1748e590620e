-- `render_replace` of docs/src/src/replacing.rs, as document 01 lays it: "Every byte is laid where it will stand: an edit's three words before
-- its text, a captured text with parenthesis, prefix and nested replacements in turn. A second rendering begins where the first did."
-- Assumes nothing.
use Rattle.std.specs.Prelude.{ℕ, ◌-◌, Bool, true, false, cond, List, [], ◌∷◌, ◌++◌, map, length, get_or, replicate, Option, None, Some, Result, Ok, Err}
use Rattle.std.specs.List.{concat}
use Rattle.words.specs.Texts.{part, open_text, close_text}
use Rattle.syntax.specs.Accessors.{between}
use Rattle.captures.specs.declared.Binding.{Binding}
use Rattle.captures.specs.declared.SelfKind.{SelfKind}
use Rattle.captures.specs.declared.SelfKind.TheVariants.{Owned, Ref, RefMut}
use Rattle.parses.specs.Ranges.{NodeRange}
use Rattle.parses.specs.Parses.{Parse, lookup}
use Rattle.parentheses.specs.Parentheses.{Part, requires}
use Rattle.nester.specs.Matches.{Match}
use Rattle.nester.specs.Places.{Item}
use Rattle.rendering.specs.Events.{Event, Unbound, Asked, after, Text, lay, ◌and_then◌, in_turn}

-- a template in turn: bytes, or a placeholder by its place in the pattern
pub data Fragment : Type 0 where
  fixed : (bytes : List ℕ) → Fragment
  captured : (slot : ℕ) (is_receiver : Bool) → Fragment

-- what a job renders with: the file's text, the range of each node, the template of each match's rule, as it is told in the match's module,
-- the kind of its root, and the parses
pub record Setting : Type 0 where
  pub file : List ℕ
  pub start_of : ℕ → ℕ
  pub end_of : ℕ → ℕ
  pub fragments : Match → List Fragment
  pub kind : Match → ℕ
  pub parses : List Parse

-- the binding of a placeholder
abbrev pub binding_at : ℕ → List (Option Binding) → Option Binding
binding_at slot bindings = get_or bindings slot None

-- "Prefixes are the bytes `&` or `&mut `, then stars": "If a method call is performed directly on the placeholder, then autoderef and
-- autoref will apply"
abbrev pub reference : SelfKind → List ℕ
reference Owned = []
reference Ref = 38 ∷ []
reference RefMut = 38 ∷ 109 ∷ 117 ∷ 116 ∷ 32 ∷ []

abbrev pub prefix : Binding → Bool → List ℕ
prefix b is_receiver = cond is_receiver [] (reference b.self_kind ++ replicate b.stars 42)

-- "a first rendering of expression or item kind"
abbrev pub is_parsed : ℕ → Bool
is_parsed kind = between 64 2047 kind

-- in parentheses, where they are required
abbrev pub enclosed : Bool → Text → Text
enclosed true t = lay open_text and_then t and_then lay close_text
enclosed false t = t

unfoldable pub enclosed_each : List Bool → List Text → List Text
enclosed_each [] ts = ts
enclosed_each (m ∷ ms) [] = []
enclosed_each (m ∷ ms) (t ∷ ts) = enclosed m t ∷ enclosed_each ms ts

-- the parts of a first rendering: `placeholder_tokens_by_range`
abbrev pub is_captured : Fragment → Bool
is_captured (fixed bs) = false
is_captured (captured slot r) = true

unfoldable pub parts_of : List Fragment → List (List ℕ) → List Part
parts_of [] ts = []
parts_of (f ∷ fs) [] = []
parts_of (f ∷ fs) (t ∷ ts) = record { length = length t; is_placeholder = is_captured f } ∷ parts_of fs ts

module _ (S : Setting) where
  -- the file's bytes from one place to another, "nested edits go first": each nested match's range with its text instead
  unfoldable pub filled : ℕ → ℕ → List (Item Text) → Text
  filled from to [] = lay (part S.file from to)
  filled from to (x ∷ xs) = lay (part S.file from (S.start_of x.node)) and_then x.what and_then filled (S.end_of x.node) to xs

  -- a placeholder's captured text: 29 where it is unbound
  abbrev pub captured_text : Option Binding → Bool → List (Item Text) → Text
  captured_text None is_receiver inner = λ room. Err Unbound
  captured_text (Some b) is_receiver inner = lay (prefix b is_receiver) and_then filled b.start b.end inner

  abbrev pub fragment_text : Match → (ℕ → List (Item Text)) → Fragment → Text
  fragment_text m inner (fixed bs) = lay bs
  fragment_text m inner (captured slot is_receiver) = captured_text (binding_at slot m.bindings) is_receiver (inner slot)

  abbrev pub fragment_texts : Match → (ℕ → List (Item Text)) → List Text
  fragment_texts m inner = map (fragment_text m inner) (S.fragments m)

  -- `maybe_rerender_with_extra_parenthesis`, of a first rendering in parts: it is asked for, it does not parse, or it is rendered again
  abbrev pub rendered_again : Match → (ℕ → List (Item Text)) → List Bool → ℕ → Result (List ℕ) Event
  rendered_again m inner marks room = after (in_turn (enclosed_each marks (fragment_texts m inner)) room) λ ts. Ok (concat ts)

  abbrev pub judged : Match → (ℕ → List (Item Text)) → List (List ℕ) → Option (List NodeRange) → ℕ → Result (List ℕ) Event
  judged m inner ts None room = Err (Asked (S.kind m) (concat ts))
  judged m inner ts (Some []) room = Ok (concat ts)
  judged m inner ts (Some (r ∷ rs)) room = rendered_again m inner (requires (r ∷ rs) 0 (parts_of (S.fragments m) ts)) room

  abbrev pub finished : Match → (ℕ → List (Item Text)) → List (List ℕ) → ℕ → Result (List ℕ) Event
  finished m inner ts room =
      cond (is_parsed (S.kind m)) (judged m inner ts (lookup S.parses (S.kind m) (concat ts)) room) (Ok (concat ts))

  -- `render_replace`: the first rendering, the second in the same room, and then the comments
  abbrev pub rendered : Match → (ℕ → List (Item Text)) → Text
  rendered m inner room =
      after (in_turn (fragment_texts m inner) room) λ ts. after (finished m inner ts room) λ t.
      after (lay m.comments (room - length t)) λ c. Ok (t ++ c)
