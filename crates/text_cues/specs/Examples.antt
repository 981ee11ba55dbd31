-- Worked examples of labels and lines.
use Rattle.std.specs.Prelude.{◌≡◌, ◌++◌, [], ◌∷◌, Some, None, Ok, refl, codes}
use Rattle.std.specs.Fmt.{digits}
use Rattle.std.specs.Str.{chars, is_utf8}
use Rattle.std.specs.Str.Lossy.{utf8_valid_len}
use Rattle.hex.specs.Hex.{encode_with}
use Rattle.text_cues.specs.declared.fault.CuesFault.TheVariants.{TooLong, TooManyLines}
use Rattle.text_cues.specs.Title.{escaped, kept_byte, shown, cut_short, title_of}
use Rattle.text_cues.specs.Marker.{marker_lines}
use Rattle.text_cues.specs.CueLines.{cue_fault, lines_from}

-- a line feed, and a byte that belongs to no character
pub escapes : shown (codes "a\\" ++ 10 ∷ 0xFF ∷ codes "b") ≡ codes "a\\\\x0a\\xffb"
unfolding shown escaped kept_byte utf8_valid_len is_utf8 chars encode_with lib.Utf8.encode
escapes = refl

-- a character of two bytes, and an incomplete one
pub characters : shown (0xC3 ∷ 0xA9 ∷ 0xC3 ∷ []) ≡ 0xC3 ∷ 0xA9 ∷ codes "\\xc3"
unfolding shown escaped kept_byte utf8_valid_len is_utf8 chars encode_with lib.Utf8.encode
characters = refl

pub no_label : title_of [] ≡ []
unfolding shown cut_short utf8_valid_len is_utf8 chars
no_label = refl

pub a_point : marker_lines 7 480 0 (codes "News") ≡ codes "add-marker 480 News\n"
unfolding digits
a_point = refl

pub a_range : marker_lines 7 480 96 [] ≡ codes "add-marker 480 \nmarker-length $7 96\n"
unfolding digits
a_range = refl

pub the_last_position : cue_fault 3 1 4294967295 ≡ None
unfolding cue_fault
the_last_position = refl

pub too_late : cue_fault 3 1 4294967296 ≡ Some (TooLong 3)
unfolding cue_fault
too_late = refl

pub too_many : cue_fault 3 4294967296 4294967296 ≡ Some TooManyLines
unfolding cue_fault
too_many = refl

-- two cue points, of which the first has a length: the second begins at line 3
pub two_cues : lines_from 0 1 100
    (record { name = 1; at = 5; length = Some 6; label = Some (codes "A") }
    ∷ record { name = 2; at = 7; length = None; label = None } ∷ [])
    ≡ Ok (record {
      text = codes "add-marker 105 A\nmarker-length $1 6\nadd-marker 107 \n";
      next = 4;
    })
unfolding cue_fault shown kept_byte cut_short utf8_valid_len is_utf8 chars digits lib.Utf8.encode
two_cues = refl
