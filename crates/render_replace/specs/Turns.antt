-- A turn of a row: its steps up to a row that is nested in it or to the end of its text, and where rendering goes on then. What each
-- function asks for, and what it leaves, over every world that the values show.
-- Assumes nothing.
use Rattle.std.specs.Prelude.{ℕ, ◌≤◌, ◌<◌, ◌≡◌, cond, List, [], eqb, length, take, Option, Some, None, Result, Ok, Err}
use Rattle.parses.specs.Parses.{Parse, lookup}
use Rattle.rendering.specs.Events as events
use Rattle.rendering.specs.Texts.{Fragment}
use Rattle.nester.specs.declared.Nesting.{Nesting}
use Rattle.nester.specs.declared.Nesting.TheVariants.{NoMatch, NotKept, Outermost, Inside}
use Rattle.nester.specs.declared.Row.{Row}
use Rattle.nester.specs.Rows.{row_at}
use Rattle.rows.specs.declared.frames.Frame.{Frame}
use Rattle.rows.specs.Rows.{World, count_of, row_trace}
use Rattle.rows.specs.Frames.{frame_of, between, Standing, Ends as EndsAt, Bursts}
use Rattle.replacing.specs.declared.Event.{Event}
use Rattle.replacing.specs.declared.Event.TheVariants.{Unbound, NoRoom, Asked}
use Rattle.replacing.specs.declared.Step.{Step}
use Rattle.replacing.specs.declared.Step.TheVariants.{At, Nested}
use Rattle.replacing.specs.declared.Matches.{Matches}
use Rattle.replacing.specs.Laying.{Lays}
use Rattle.replacing.specs.Steps.{Nests, EndsWithin, AtStep}
use Rattle.rerendering.specs.Endings.{Rendered}
use Rattle.render_replace.specs.declared.turns.Turned.{Turned}
use Rattle.render_replace.specs.Worlds.{Handed, Shown, comments_in}
use Rattle.render_replace.specs.Stacks.{Stack, work_left}
use Rattle.render_replace.specs.Answers.{Answers}

-- ---- the steps of a row

-- the values show the row's template, its kind and the parses
pub record AtTemplate (W : World) (m : Matches) (fragments : List Fragment) (kind : ℕ) (parses : List Parse) (k : ℕ) (f : Frame) (out : List ℕ) (at : ℕ) : Type 0 where
  pub at_step : AtStep W m fragments k f out at
  pub is_kind : W.kind k ≡ kind
  pub is_parse : W.parse ≡ lookup parses

-- a row stands at a place
pub record AtRow (W : World) (h : Handed) (k : ℕ) (frames : List Frame) (out : List ℕ) (at : ℕ) : Type 0 where
  pub shown : Shown W h
  pub inside : k < count_of W
  pub room : count_of W ≤ length frames
  pub standing : Standing W k (frame_of frames k) out at

-- a first rendering of row k, which has no parse, stands between two places
pub record AsksFor (W : World) (k : ℕ) (f : Frame) (out : List ℕ) (kind from to : ℕ) : Type 0 where
  pub is_kind : kind ≡ W.kind k
  pub begins : from ≡ f.begin
  pub rise : from ≤ to
  pub fits : to ≤ length out
  pub ends : EndsAt W k f to (events.Asked (W.kind k) (between from to out))

-- its text stands in the buffer but for its comments, or the text of a nested row begins, or an event ends it
abbrev pub RowLeftIn : World → ℕ → List Frame → List Frame → List ℕ → List ℕ → Result Step Event → Type 0
RowLeftIn W k frames frames' out out' (Ok (At behind)) = Rendered W k (frame_of frames k) out' behind
RowLeftIn W k frames frames' out out' (Ok (Nested j behind)) = Nests W k j frames frames' out' behind
RowLeftIn W k frames frames' out out' (Err Unbound) = EndsWithin W k (frame_of frames k) out events.Unbound
RowLeftIn W k frames frames' out out' (Err NoRoom) = Bursts W k (frame_of frames k) out
RowLeftIn W k frames frames' out out' (Err (Asked kind from to)) = AsksFor W k (frame_of frames k) out' kind from to

pub record StepsEnd (m : Matches) (fragments : List Fragment) (kind : ℕ) (parses : List Parse) (k : ℕ) (frames : List Frame) (out : List ℕ) (at : ℕ)
    (frames' : List Frame) (out' : List ℕ) (r : Result Step Event) : Type 0 where
  pub left : (W : World) → AtTemplate W m fragments kind parses k (frame_of frames k) out at → RowLeftIn W k frames frames' out out' r

pub record RowLeft (h : Handed) (k : ℕ) (frames : List Frame) (out : List ℕ) (at : ℕ) (frames' : List Frame) (out' : List ℕ) (r : Result Step Event) : Type 0 where
  pub left : (W : World) → AtRow W h k frames out at → RowLeftIn W k frames frames' out out' r

-- ---- the end of a row

-- the row that a row is nested in
abbrev pub owner_in : Nesting → Option ℕ
owner_in NoMatch = None
owner_in NotKept = None
owner_in Outermost = None
owner_in (Inside row slot) = Some row

-- where rendering goes on behind the text of row k: in the row that it is nested in, or nowhere
abbrev pub row_behind : List Row → ℕ → ℕ → Option ℕ
row_behind rows k0 k = cond (eqb k k0) None (owner_in (row_at rows k).state)

-- the comments of row k, where it says that it has some
abbrev pub told_comments : Handed → ℕ → List ℕ
told_comments h k = cond (row_at h.rows k).has_comments (comments_in h k) []

-- bytes are laid behind its text, and rendering goes on behind them; or there is no room for them
abbrev pub EndedBy : Handed → ℕ → ℕ → List ℕ → ℕ → List ℕ → Result Turned Event → Type 0
EndedBy h k0 k out at out' (Ok t) = Lays out at (told_comments h k) out' (Some t.at) × (t.next ≡ row_behind h.rows k0 k)
EndedBy h k0 k out at out' (Err Unbound) = ⊥
EndedBy h k0 k out at out' (Err NoRoom) = Lays out at (told_comments h k) out' None
EndedBy h k0 k out at out' (Err (Asked kind from to)) = ⊥

-- ---- a turn

-- row k stands at a place, and the rows around it wait, up to row k0
pub record AtTurn (W : World) (h : Handed) (k0 k : ℕ) (frames : List Frame) (out : List ℕ) (at : ℕ) : Type 0 where
  pub at_row : AtRow W h k frames out at
  pub stack : Stack W frames out k0 k

-- the next turn is another row's, or the text of row k0 ends
abbrev pub NextIn : World → Handed → ℕ → List Frame → List Frame → List ℕ → ℕ → Option ℕ → Type 0
NextIn W h k0 frames frames' out' at (Some j) = AtTurn W h k0 j frames' out' at
NextIn W h k0 frames frames' out' at None = Answers (row_trace W k0) (frame_of frames k0).begin out' (Ok at)

abbrev pub TurnLeftIn : World → Handed → ℕ → List Frame → List Frame → List ℕ → Result Turned Event → Type 0
TurnLeftIn W h k0 frames frames' out' (Ok t) = NextIn W h k0 frames frames' out' t.at t.next
TurnLeftIn W h k0 frames frames' out' (Err e) = Answers (row_trace W k0) (frame_of frames k0).begin out' (Err e)

pub record TurnLeft (h : Handed) (k0 k : ℕ) (frames : List Frame) (out : List ℕ) (at : ℕ) (frames' : List Frame) (out' : List ℕ) (r : Result Turned Event) : Type 0 where
  pub left : (W : World) → AtTurn W h k0 k frames out at → TurnLeftIn W h k0 frames frames' out' r

-- less is left to do where there is a next one
abbrev pub FallsTo : List Frame → List Frame → ℕ → Option ℕ → Type 0
FallsTo frames frames' k (Some j) = work_left frames' j < work_left frames k
FallsTo frames frames' k None = Unit {0}

abbrev pub Falls : List Frame → List Frame → ℕ → Result Turned Event → Type 0
Falls frames frames' k (Ok t) = FallsTo frames frames' k t.next
Falls frames frames' k (Err e) = Unit {0}

-- where row k0's text begins, and what stands before it, is as it was
pub record TurnKeeps (k0 k : ℕ) (frames frames' : List Frame) (out out' : List ℕ) (r : Result Turned Event) : Type 0 where
  pub frames_length : length frames' ≡ length frames
  pub begin : (frame_of frames' k0).begin ≡ (frame_of frames k0).begin
  pub out_length : length out' ≡ length out
  pub out_before : take (frame_of frames k0).begin out' ≡ take (frame_of frames k0).begin out
  pub falls : Falls frames frames' k r

-- ---- all turns

-- what the text of row k0 leaves, which began at a place
pub record TextLeft (h : Handed) (k0 : ℕ) (begin : ℕ) (out' : List ℕ) (r : Result ℕ Event) : Type 0 where
  pub left : (W : World) → Shown W h → k0 < count_of W → Answers (row_trace W k0) begin out' r

pub record RunLeft (h : Handed) (k0 : ℕ) (frames : List Frame) (out : List ℕ) (at : ℕ) (out' : List ℕ) (r : Result ℕ Event) : Type 0 where
  pub left : (W : World) → AtTurn W h k0 k0 frames out at → Answers (row_trace W k0) (frame_of frames k0).begin out' r
