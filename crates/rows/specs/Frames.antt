-- How far the text of each row has come. What a frame says of the buffer is what the functions ask for and leave.
-- Assumes nothing.
use Rattle.std.specs.Prelude.{ℕ, ◌+◌, ◌-◌, ◌*◌, ◌≤◌, ◌<◌, ◌≡◌, Bool, true, List, ◌∷◌, ◌++◌, length, take, drop, get_or, set, replicate, Option, None, Some, Ok}
use Rattle.std.specs.List.{concat}
use Rattle.captures.specs.declared.Binding.{Binding}
use Rattle.rendering.specs.Events.{Event}
use Rattle.rendering.specs.Texts.{Fragment, captured, prefix}
use Rattle.rendering.specs.Traces.{Trace, stopped, reach, ◌then◌, traces_of}
use Rattle.rows.specs.declared.frames.Span.{Span}
use Rattle.rows.specs.declared.frames.Progress.{Progress}
use Rattle.rows.specs.declared.frames.Frame.{Frame}
use Rattle.rows.specs.Rows.{World, count_of, binding_of, end_in, is_nested, fill_trace, slot_filling, slot_hole, row_trace}

-- ---- how a frame changes

-- a text begins at a place
abbrev pub frame_at : ℕ → Frame
frame_at at = record { begin = at; passed = 0; filling = None; texts = replicate 8 None }

-- a slot's text of row k begins at a place, from a byte of the file on
abbrev pub slot_begun : ℕ → ℕ → ℕ → ℕ → Frame → Frame
slot_begun k slot from at f = record f { filling = Some (record { from = from; origin = at; next = k + 1; slot = slot }) }

-- the row nested next is found, and the file goes on behind it
abbrev pub row_passed : Progress → ℕ → ℕ → Frame → Frame
row_passed p row from f = record f { filling = Some (record p { next = row + 1; from = from }) }

-- a fragment's text is laid
abbrev pub piece_passed : Frame → Frame
piece_passed f = record f { passed = f.passed + 1 }

-- a slot's text ends at a place
abbrev pub slot_ended : Progress → ℕ → Frame → Frame
slot_ended p at f =
    record f { passed = f.passed + 1; filling = None; texts = set f.texts p.slot (Some (record { start = p.origin; end = at })) }

-- the frame of row k
abbrev pub frame_of : List Frame → ℕ → Frame
frame_of frames k = get_or frames k (frame_at 0)

-- where a slot's text stands
abbrev pub text_in : Frame → ℕ → Option Span
text_in f slot = get_or f.texts slot None

-- ---- what they say

-- the bytes of the buffer from one place to another
abbrev pub between : ℕ → ℕ → List ℕ → List ℕ
between from to out = take (to - from) (drop from out)

-- bytes are laid behind a place, up to another
pub record Grows (out out' : List ℕ) (at at' : ℕ) (bs : List ℕ) : Type 0 where
  pub size : length out' ≡ length out
  pub same : take at out' ≡ take at out
  pub rise : at ≤ at'
  pub ends : at' ≤ length out'
  pub new : between at at' out' ≡ bs

-- a slot's text was not rendered yet, or it stands in the buffer before a place
abbrev pub SlotStands : World → ℕ → ℕ → Option Span → List ℕ → ℕ → Type 0
SlotStands W k slot None out at = Unit {0}
SlotStands W k slot (Some s) out at = (s.start ≤ s.end) × (s.end ≤ at) × (slot_filling W k slot ≡ Ok (between s.start s.end out))

-- the fragments passed so far, with their texts
pub record Begun (W : World) (k : ℕ) (f : Frame) (out : List ℕ) (at : ℕ) : Type 0 where
  pub eight : length f.texts ≡ 8
  pub texts : List (List ℕ)
  pub many : length texts ≡ f.passed
  pub few : f.passed ≤ length (W.fragments k)
  pub are : traces_of (slot_hole W k) (take f.passed (W.fragments k)) ≡ Ok texts
  pub begins : f.begin ≤ at
  pub ends : at ≤ length out
  pub slots : (slot : ℕ) → slot < 8 → SlotStands W k slot (text_in f slot) out at
  -- a placeholder that was passed has its slot's text in the buffer
  pub stand : (i slot : ℕ) (is_receiver : Bool) (others : List Fragment) → slot < 8 → i < f.passed
      → drop i (W.fragments k) ≡ captured slot is_receiver ∷ others → text_in f slot ≡ None → ⊥

-- between two fragments: what stands in the buffer is their texts
pub record Passing (W : World) (k : ℕ) (f : Frame) (out : List ℕ) (at : ℕ) : Type 0 where
  pub begun : Begun W k f out at
  pub none : f.filling ≡ None
  pub laid : between f.begin at out ≡ concat begun.texts

-- in a placeholder's captured text: its prefix and a part of it stand in the buffer too, and `left` is still to come
pub record Within (W : World) (k : ℕ) (f : Frame) (out : List ℕ) (at : ℕ) (p : Progress) (left : Trace) : Type 0 where
  pub begun : Begun W k f out at
  pub filling : f.filling ≡ Some p
  pub is_receiver : Bool
  pub others : List Fragment
  pub low : p.slot < 8
  pub here : drop f.passed (W.fragments k) ≡ captured p.slot is_receiver ∷ others
  pub binding : Binding
  pub bound : binding_of W k p.slot ≡ Some binding
  pub sofar : List ℕ
  pub laid : between f.begin at out ≡ concat begun.texts ++ (prefix binding is_receiver ++ sofar)
  pub origin : p.origin + length sofar ≡ at
  pub rest : slot_filling W k p.slot ≡ (Ok sofar then left)

-- what is left of a captured text from the next row on
abbrev pub rest_from : World → ℕ → ℕ → ℕ → ℕ → Trace
rest_from W k from next slot = fill_trace W (count_of W - next) k slot from (end_in (binding_of W k slot)) next

pub record Filling (W : World) (k : ℕ) (f : Frame) (out : List ℕ) (at : ℕ) : Type 0 where
  pub progress : Progress
  pub within : Within W k f out at progress (rest_from W k progress.from progress.next progress.slot)
  pub behind : k < progress.next
  pub inside : progress.next ≤ count_of W

-- the text of row j comes next, and then the rest
pub record Waiting (W : World) (k j : ℕ) (f : Frame) (out : List ℕ) (at : ℕ) : Type 0 where
  pub progress : Progress
  pub within : Within W k f out at progress (row_trace W j then rest_from W k (W.end_of j) (j + 1) progress.slot)
  pub behind : k < j
  pub inside : j < count_of W
  pub nested : is_nested W.rows k progress.slot j ≡ true
  pub next : progress.next ≡ j + 1
  pub from : progress.from ≡ W.end_of j

-- either, as the frame says
abbrev pub StandingBy : World → ℕ → Frame → List ℕ → ℕ → Option Progress → Type 0
StandingBy W k f out at None = Passing W k f out at
StandingBy W k f out at (Some p) = Filling W k f out at

abbrev pub Standing : World → ℕ → Frame → List ℕ → ℕ → Type 0
Standing W k f out at = StandingBy W k f out at f.filling

-- an event in row k's text, before a place, or one that the buffer has no room for
abbrev pub Ends : World → ℕ → Frame → ℕ → Event → Type 0
Ends W k f at e = row_trace W k ≡ stopped (at - f.begin) e

abbrev pub Bursts : World → ℕ → Frame → List ℕ → Type 0
Bursts W k f out = length out < f.begin + reach (row_trace W k)

-- how far a row has come: it rises with every step
abbrev pub came_by : ℕ → Option Progress → ℕ
came_by passed None = 2048 * passed
came_by passed (Some p) = 2048 * passed + (p.next + 1)

abbrev pub came : Frame → ℕ
came f = came_by f.passed f.filling

-- frames of other rows before k are as they were, and so are bytes before a place
pub record Keeps (k : ℕ) (frames frames' : List Frame) (at : ℕ) (out out' : List ℕ) : Type 0 where
  pub frames_length : length frames' ≡ length frames
  pub frames_before : take k frames' ≡ take k frames
  pub begin : (frame_of frames' k).begin ≡ (frame_of frames k).begin
  pub out_length : length out' ≡ length out
  pub out_before : take at out' ≡ take at out
