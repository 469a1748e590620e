-- The steps of rendering, over every world that the words show: what each asks for and what it leaves.
-- Assumes nothing.
use Rattle.std.specs.Prelude.{ℕ, ◌+◌, ◌≤◌, ◌<◌, ◌≡◌, List, ◌∷◌, length, take, drop, Result, Ok, Err}
use Rattle.syntax.specs.Accessors.{range_of, element_at}
use Rattle.syntax.specs.Views.{tree_of}
use Rattle.rendering.specs.Events as events
use Rattle.rendering.specs.Texts.{Fragment}
use Rattle.nester.specs.declared.Row.{Row}
use Rattle.nester.specs.Rows.{row_at}
use Rattle.rows.specs.declared.frames.Frame.{Frame}
use Rattle.rows.specs.Rows.{World, count_of, NestedBefore}
use Rattle.rows.specs.Frames.{frame_of, came, Passing, Filling, Waiting, Standing, Ends, Bursts}
use Rattle.replacing.specs.declared.Event.{Event}
use Rattle.replacing.specs.declared.Event.TheVariants.{Unbound, NoRoom, Asked}
use Rattle.replacing.specs.declared.Step.{Step}
use Rattle.replacing.specs.declared.Step.TheVariants.{At, Nested}
use Rattle.replacing.specs.declared.Matches.{Matches}

-- ---- a fragment

-- row k is between two fragments, and x is the next
pub record AtPiece (W : World) (row : Row) (k : ℕ) (x : Fragment) (f : Frame) (out : List ℕ) (at : ℕ) : Type 0 where
  pub reads : row_at W.rows k ≡ row
  pub inside : k < count_of W
  pub passing : Passing W k f out at
  pub others : List Fragment
  pub here : drop f.passed (W.fragments k) ≡ x ∷ others

abbrev pub PieceLeftIn : World → ℕ → Frame → List ℕ → ℕ → Frame → List ℕ → Result ℕ Event → Type 0
PieceLeftIn W k f out at f' out' (Ok at') = Standing W k f' out' at' × (came f < came f') × (at ≤ at')
PieceLeftIn W k f out at f' out' (Err Unbound) = Ends W k f at events.Unbound
PieceLeftIn W k f out at f' out' (Err NoRoom) = Bursts W k f out
PieceLeftIn W k f out at f' out' (Err (Asked kind from to)) = ⊥

-- where the text begins is as it was, and so are bytes before a place
pub record KeepsFrame (f f' : Frame) (at : ℕ) (out out' : List ℕ) : Type 0 where
  pub begin : f'.begin ≡ f.begin
  pub out_length : length out' ≡ length out
  pub out_before : take at out' ≡ take at out

-- what its text leaves, in each world
pub record PieceLeft (row : Row) (k : ℕ) (x : Fragment) (f : Frame) (out : List ℕ) (at : ℕ) (f' : Frame) (out' : List ℕ) (r : Result ℕ Event) : Type 0 where
  pub left : (W : World) → AtPiece W row k x f out at → PieceLeftIn W k f out at f' out' r

-- ---- a captured text

-- the words show the rows, of which none from the end that row k tells is nested in it, their nodes' ranges and the file's text
pub record Shows (W : World) (m : Matches) (k : ℕ) : Type 0 where
  pub reads : W.rows ≡ m.rows.now
  pub inside : k < count_of W
  pub few : count_of W ≤ 1024
  pub file : W.file ≡ m.text.now
  pub starts : (j : ℕ) → j < count_of W → W.start_of j ≡ (range_of (element_at (row_at m.rows.now j).node (tree_of m.tree))).start
  pub ends : (j : ℕ) → j < count_of W → W.end_of j ≡ (range_of (element_at (row_at m.rows.now j).node (tree_of m.tree))).end
  pub nested : NestedBefore W k (row_at m.rows.now k).end
  pub last : (row_at m.rows.now k).end ≤ count_of W

-- there are frames for row k, and for the rows that may be nested in it
pub record FramesFor (m : Matches) (k : ℕ) (frames : List Frame) : Type 0 where
  pub here : k < length frames
  pub nested : (row_at m.rows.now k).end ≤ length frames

-- row k is in a captured text
pub record AtCaptured (W : World) (m : Matches) (k : ℕ) (f : Frame) (out : List ℕ) (at : ℕ) : Type 0 where
  pub shows : Shows W m k
  pub filling : Filling W k f out at

-- the text of a row that is nested in row k begins
pub record Nests (W : World) (k j : ℕ) (frames frames' : List Frame) (out : List ℕ) (at : ℕ) : Type 0 where
  pub waiting : Waiting W k j (frame_of frames' k) out at
  pub passing : Passing W j (frame_of frames' j) out at
  pub fresh : (frame_of frames' j).passed ≡ 0
  pub begin : (frame_of frames' j).begin ≡ at
  pub rise : came (frame_of frames k) < came (frame_of frames' k)

abbrev pub CapturedLeftIn : World → ℕ → List Frame → List ℕ → ℕ → List Frame → List ℕ → Result Step Event → Type 0
CapturedLeftIn W k frames out at frames' out' (Ok (At at')) =
    Passing W k (frame_of frames' k) out' at' × ((frame_of frames' k).passed ≡ (frame_of frames k).passed + 1) × (at ≤ at')
CapturedLeftIn W k frames out at frames' out' (Ok (Nested j at')) = Nests W k j frames frames' out' at'
CapturedLeftIn W k frames out at frames' out' (Err Unbound) = ⊥
CapturedLeftIn W k frames out at frames' out' (Err NoRoom) = Bursts W k (frame_of frames k) out
CapturedLeftIn W k frames out at frames' out' (Err (Asked kind from to)) = ⊥

pub record CapturedLeft (m : Matches) (k : ℕ) (frames : List Frame) (out : List ℕ) (at : ℕ) (frames' : List Frame) (out' : List ℕ) (r : Result Step Event) : Type 0 where
  pub left : (W : World) → AtCaptured W m k (frame_of frames k) out at → CapturedLeftIn W k frames out at frames' out' r

-- ---- the steps of a row

-- an event before a place that the buffer has
pub record EndsWithin (W : World) (k : ℕ) (f : Frame) (out : List ℕ) (e : events.Event) : Type 0 where
  pub place : ℕ
  pub begins : f.begin ≤ place
  pub fits : place ≤ length out
  pub ends : Ends W k f place e

-- the row's template has these fragments, and the row is between two of them or in a captured text
pub record AtStep (W : World) (m : Matches) (fragments : List Fragment) (k : ℕ) (f : Frame) (out : List ℕ) (at : ℕ) : Type 0 where
  pub shows : Shows W m k
  pub fragments_are : W.fragments k ≡ fragments
  pub standing : Standing W k f out at

-- one step
abbrev pub StepLeftIn : World → ℕ → List Frame → List ℕ → ℕ → List Frame → List ℕ → Result Step Event → Type 0
StepLeftIn W k frames out at frames' out' (Ok (At at')) =
    Standing W k (frame_of frames' k) out' at' × (came (frame_of frames k) < came (frame_of frames' k)) × (at ≤ at')
StepLeftIn W k frames out at frames' out' (Ok (Nested j at')) = Nests W k j frames frames' out' at'
StepLeftIn W k frames out at frames' out' (Err Unbound) = EndsWithin W k (frame_of frames k) out events.Unbound
StepLeftIn W k frames out at frames' out' (Err NoRoom) = Bursts W k (frame_of frames k) out
StepLeftIn W k frames out at frames' out' (Err (Asked kind from to)) = ⊥

pub record StepLeft (m : Matches) (fragments : List Fragment) (k : ℕ) (frames : List Frame) (out : List ℕ) (at : ℕ) (frames' : List Frame)
    (out' : List ℕ) (r : Result Step Event) : Type 0 where
  pub left : (W : World) → AtStep W m fragments k (frame_of frames k) out at → StepLeftIn W k frames out at frames' out' r

-- all steps: every fragment is passed, or a nested row begins, or an event ends it
abbrev pub StepsLeftIn : World → ℕ → List Frame → List ℕ → List Frame → List ℕ → Result Step Event → Type 0
StepsLeftIn W k frames out frames' out' (Ok (At at')) =
    Passing W k (frame_of frames' k) out' at' × ((frame_of frames' k).passed ≡ length (W.fragments k))
StepsLeftIn W k frames out frames' out' (Ok (Nested j at')) = Nests W k j frames frames' out' at'
StepsLeftIn W k frames out frames' out' (Err Unbound) = EndsWithin W k (frame_of frames k) out events.Unbound
StepsLeftIn W k frames out frames' out' (Err NoRoom) = Bursts W k (frame_of frames k) out
StepsLeftIn W k frames out frames' out' (Err (Asked kind from to)) = ⊥

pub record StepsLeft (m : Matches) (fragments : List Fragment) (k : ℕ) (frames : List Frame) (out : List ℕ) (at : ℕ) (frames' : List Frame)
    (out' : List ℕ) (r : Result Step Event) : Type 0 where
  pub left : (W : World) → AtStep W m fragments k (frame_of frames k) out at → StepsLeftIn W k frames out frames' out' r
