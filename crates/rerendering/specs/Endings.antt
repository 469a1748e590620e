-- How a first rendering ends, document 01, "A job": "or the answer Asked, where a first rendering of expression or item kind has no parse";
-- "A second rendering begins where the first did." What is shown of a row whose fragments are all passed, and what is left then.
-- Assumes nothing.
use Rattle.std.specs.Prelude.{ℕ, ◌≤◌, ◌≡◌, List, ◌++◌, length, Option, Result, Ok, Err}
use Rattle.words.specs.Buffer.{place_after, laid_if_room}
use Rattle.captures.specs.declared.Binding.{Binding}
use Rattle.parses.specs.Ranges.{NodeRange}
use Rattle.parses.specs.Parses.{Parse, lookup}
use Rattle.parentheses.specs.Parentheses.{Part, requires, wrapped}
use Rattle.nester.specs.Rows.{row_at}
use Rattle.rendering.specs.Events as events
use Rattle.rendering.specs.Texts.{Fragment}
use Rattle.rows.specs.declared.frames.Frame.{Frame}
use Rattle.rows.specs.Rows.{World, row_trace}
use Rattle.rows.specs.Frames.{between, Passing, Ends, Bursts}
use Rattle.replacing.specs.declared.Event.{Event}
use Rattle.replacing.specs.declared.Event.TheVariants.{Unbound, NoRoom, Asked}

-- a rendering in parts, rendered again: those that require it are in parentheses
abbrev pub rendered_again : List NodeRange → List Part → List ℕ → List ℕ
rendered_again ranges parts t = wrapped parts (requires ranges 0 parts) t

-- the text from b up to a place was rendered again, and begins at b again
pub record PutAgain (ranges : List NodeRange) (parts : List Part) (b at : ℕ) (out out' : List ℕ) (answer : Option ℕ) : Type 0 where
  pub answers : answer ≡ place_after (length out) b (length (rendered_again ranges parts (between b at out)))
  pub leaves : out' ≡ laid_if_room out b (rendered_again ranges parts (between b at out))

-- what a world is shown by, in which row k is rendered for the first time up to a place
pub record Shows (W : World) (k : ℕ) (bindings : List (Option Binding)) (f : Frame) (fragments : List Fragment) (kind : ℕ) (parses : List Parse) (out : List ℕ) (at : ℕ)
    : Type 0 where
  pub are_bindings : (row_at W.rows k).bindings ≡ bindings
  pub are_fragments : W.fragments k ≡ fragments
  pub is_kind : W.kind k ≡ kind
  pub is_parse : W.parse ≡ lookup parses
  pub passing : Passing W k f out at
  pub are_passed : f.passed ≡ length (W.fragments k)

-- the text of row k stands in the buffer up to a place, but for its comments
pub record Rendered (W : World) (k : ℕ) (f : Frame) (out : List ℕ) (at : ℕ) : Type 0 where
  pub begins : f.begin ≤ at
  pub ends : at ≤ length out
  pub is : row_trace W k ≡ Ok (between f.begin at out ++ W.comments k)

-- a first rendering of row k, which has no parse, stands between two places
pub record AsksFor (W : World) (k : ℕ) (f : Frame) (out : List ℕ) (at kind from to : ℕ) : Type 0 where
  pub is_kind : kind ≡ W.kind k
  pub begins : from ≡ f.begin
  pub stands : to ≡ at
  pub ends : Ends W k f at (events.Asked (W.kind k) (between f.begin at out))

-- what each answer says; the buffer was `out` before
abbrev pub Answers : World → ℕ → Frame → List ℕ → ℕ → List ℕ → Result ℕ Event → Type 0
Answers W k f out at out' (Ok behind) = Rendered W k f out' behind
Answers W k f out at out' (Err Unbound) = ⊥
Answers W k f out at out' (Err NoRoom) = Bursts W k f out
Answers W k f out at out' (Err (Asked kind from to)) = AsksFor W k f out at kind from to × (out' ≡ out)

pub record Ended (bindings : List (Option Binding)) (f : Frame) (fragments : List Fragment) (kind : ℕ) (parses : List Parse) (out : List ℕ) (at : ℕ) (out' : List ℕ)
    (r : Result ℕ Event) : Type 0 where
  pub answers : (W : World) (k : ℕ) → Shows W k bindings f fragments kind parses out at → Answers W k f out at out' r
