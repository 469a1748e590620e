-- The parts of a first rendering, `placeholder_tokens_by_range` of docs/src/src/replacing.rs, as a row's bindings and its frame tell them: for each
-- fragment how long what it rendered is, and whether it is a placeholder.
-- Assumes nothing.
use Rattle.std.specs.Prelude.{ℕ, ◌+◌, ◌-◌, Bool, true, false, List, [], map, length, Option, None, Some}
use Rattle.captures.specs.declared.Binding.{Binding}
use Rattle.parentheses.specs.Parentheses.{Part}
use Rattle.rendering.specs.Texts.{Fragment, fixed, captured, binding_at, prefix}
use Rattle.rows.specs.declared.frames.Span.{Span}
use Rattle.rows.specs.declared.frames.Frame.{Frame}
use Rattle.rows.specs.Frames.{text_in}

-- how many bytes a slot's text has
abbrev pub slot_length : Option Span → ℕ
slot_length None = 0
slot_length (Some s) = s.end - s.start

-- the prefix of a placeholder, none where it is not bound
abbrev pub prefix_in : Option Binding → Bool → List ℕ
prefix_in None is_receiver = []
prefix_in (Some b) is_receiver = prefix b is_receiver

-- `TextSize::of(&matched_text)`: the prefix, and what was captured
abbrev pub captured_length : List (Option Binding) → Frame → ℕ → Bool → ℕ
captured_length bindings f slot is_receiver = length (prefix_in (binding_at slot bindings) is_receiver) + slot_length (text_in f slot)

abbrev pub measured : List (Option Binding) → Frame → Fragment → Part
measured bindings f (fixed bs) = record { length = length bs; is_placeholder = false }
measured bindings f (captured slot is_receiver) = record { length = captured_length bindings f slot is_receiver; is_placeholder = true }

abbrev pub measured_parts : List (Option Binding) → Frame → List Fragment → List Part
measured_parts bindings f fragments = map (measured bindings f) fragments
