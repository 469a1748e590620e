-- The same without a room: the whole text, or the event that its rendering meets and how many bytes are laid by then. Nested texts are
-- rendered once, and the second rendering is the first with parentheses put in. That this is what `Texts` says, in every room, is proved.
-- Assumes nothing.
use Rattle.std.specs.Prelude.{ℕ, ◌+◌, Bool, cond, List, [], ◌∷◌, ◌++◌, leb, length, Option, None, Some, Result, Ok, Err}
use Rattle.std.specs.List.{concat}
use Rattle.words.specs.Texts.{part}
use Rattle.captures.specs.declared.Binding.{Binding}
use Rattle.parses.specs.Ranges.{NodeRange}
use Rattle.parses.specs.Parses.{lookup}
use Rattle.parentheses.specs.Parentheses.{requires, wrapped}
use Rattle.nester.specs.Matches.{Match}
use Rattle.nester.specs.Places.{Item}
use Rattle.rendering.specs.Events.{Event, Unbound, NoRoom, Asked, Text}
use Rattle.rendering.specs.Texts.{Fragment, fixed, captured, Setting, binding_at, prefix, is_parsed, parts_of}

-- the event that a rendering meets, and how many bytes are laid by then
pub record Stop : Type 0 where
  pub at : ℕ
  pub event : Event

abbrev pub stopped : {A : Type 0} → ℕ → Event → Result A Stop
stopped n e = Err (record { at = n; event = e })

abbrev pub Trace : Type 0
Trace = Result (List ℕ) Stop

-- a trace in so much room
abbrev pub within : Trace → Text
within (Ok bs) room = cond (leb (length bs) room) (Ok bs) (Err NoRoom)
within (Err s) room = cond (leb s.at room) (Err s.event) (Err NoRoom)

-- how many bytes it lays
abbrev pub reach : Trace → ℕ
reach (Ok bs) = length bs
reach (Err s) = s.at

-- one behind another
abbrev pub after : List ℕ → Trace → Trace
after xs (Ok ys) = Ok (xs ++ ys)
after xs (Err s) = stopped (length xs + s.at) s.event

infixl 20 ◌then◌
unfoldable pub ◌then◌ : Trace → Trace → Trace
Ok xs then u = after xs u
Err s then u = Err s

-- the texts of fragments in turn, or the first event
abbrev pub Traces : Type 0
Traces = Result (List (List ℕ)) Stop

abbrev pub behind : List ℕ → Traces → Traces
behind xs (Ok ts) = Ok (xs ∷ ts)
behind xs (Err s) = stopped (length xs + s.at) s.event

abbrev pub first : Trace → Traces → Traces
first (Ok xs) u = behind xs u
first (Err s) u = Err s

-- the trace of a fragment, by that of a placeholder
abbrev pub fragment_trace : (ℕ → Bool → Trace) → Fragment → Trace
fragment_trace hole (fixed bs) = Ok bs
fragment_trace hole (captured slot is_receiver) = hole slot is_receiver

unfoldable pub traces_of : (ℕ → Bool → Trace) → List Fragment → Traces
traces_of hole [] = Ok []
traces_of hole (f ∷ fs) = first (fragment_trace hole f) (traces_of hole fs)

-- of a placeholder: its prefix, and what it captured, by the trace of the file from one byte to another
abbrev pub hole_trace : Option Binding → Bool → (ℕ → ℕ → Trace) → Trace
hole_trace None is_receiver filling = stopped 0 Unbound
hole_trace (Some b) is_receiver filling = Ok (prefix b is_receiver) then filling b.start b.end

-- a first rendering of a kind, in parts, by its parse
abbrev pub judged_trace : ℕ → List Fragment → List (List ℕ) → Option (List NodeRange) → Trace
judged_trace kind fs ts None = stopped (length (concat ts)) (Asked kind (concat ts))
judged_trace kind fs ts (Some []) = Ok (concat ts)
judged_trace kind fs ts (Some (r ∷ rs)) = Ok (wrapped (parts_of fs ts) (requires (r ∷ rs) 0 (parts_of fs ts)) (concat ts))

abbrev pub finished_trace : ℕ → List Fragment → (ℕ → List ℕ → Option (List NodeRange)) → Traces → Trace
finished_trace kind fs parse (Ok ts) = cond (is_parsed kind) (judged_trace kind fs ts (parse kind (concat ts))) (Ok (concat ts))
finished_trace kind fs parse (Err s) = Err s

-- the text of a match: its template's kind and fragments, its comments, and the trace of each of its placeholders
unfoldable pub match_trace : ℕ → List Fragment → List ℕ → (ℕ → List ℕ → Option (List NodeRange)) → (ℕ → Bool → Trace) → Trace
match_trace kind fs comments parse hole = finished_trace kind fs parse (traces_of hole fs) then Ok comments

module _ (S : Setting) where
  unfoldable pub filled_trace : ℕ → ℕ → List (Item Trace) → Trace
  filled_trace from to [] = Ok (part S.file from to)
  filled_trace from to (x ∷ xs) = Ok (part S.file from (S.start_of x.node)) then x.what then filled_trace (S.end_of x.node) to xs

  abbrev pub slot_trace : Match → (ℕ → List (Item Trace)) → ℕ → Bool → Trace
  slot_trace m inner slot is_receiver = hole_trace (binding_at slot m.bindings) is_receiver (λ from to. filled_trace from to (inner slot))

  abbrev pub rendered_trace : Match → (ℕ → List (Item Trace)) → Trace
  rendered_trace m inner =
      match_trace (S.kind m) (S.fragments m) m.comments (λ kind t. lookup S.parses kind t) (slot_trace m inner)
