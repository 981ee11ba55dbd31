-- Laws of label tracks.
use Rattle.std.specs.Prelude.{◌≡◌, ◌<◌, ◌≤◌, ◌+◌, ◌*◌, ◌^◌, ℕ, true}
use Rattle.std.specs.Prelude.{List, [], ◌∷◌, ◌++◌, length, Some, Ok}
use Rattle.std.specs.List.{AllByRecursion}
use Rattle.mt_op.specs.Title.{is_title}
use Rattle.mt_sessionview.specs.SessionValue.{Marker}
use Rattle.text_cues.specs.Marker.{marker_lines, line_count}
use Rattle.text_labels.specs.Seconds.{seconds_text, frame_of}
use Rattle.text_labels.specs.Labels.{label_track}
use Rattle.text_labels.specs.Reading.{label_script}

-- At a rate under a million every frame is read back from its printed seconds with six decimals.
abbrev pub FramesSurvive : Type 0
FramesSurvive =
    (rate frame : ℕ) → 1 ≤ rate → rate < 1000000 → frame < 2 ^ 32
    → frame_of rate (seconds_text rate frame) ≡ Some frame

-- a marker that has a title and ends by frame 4,294,967,295
pub record IsMarked (m : Marker) : Type 0 where
  pub title : is_title m.title ≡ true
  pub end : m.at + m.len < 2 ^ 32

-- the lines of markers, with the number of the first in the script
abbrev pub markers_script : ℕ → List Marker → List ℕ
markers_script line [] = []
markers_script line (m ∷ ms) =
    marker_lines line m.at m.len m.title ++ markers_script (line + line_count m.len) ms

-- So the script of a label track of such markers adds the same ones, if the numbers of its lines
-- are in range.
abbrev pub MarkersSurvive : Type 0
MarkersSurvive =
    (rate line : ℕ) (markers : List Marker) → 1 ≤ rate → rate < 1000000
    → AllByRecursion IsMarked markers → line + 2 * length markers ≤ 2 ^ 32
    → label_script rate line (label_track rate markers) ≡ Ok (markers_script line markers)
