-- When an item is present (OR-Set: INRIA RR-7506, section 3.3.5).
use Rattle.std.specs.Prelude.{Bool, not, ◌&&◌, IsTrue}
use Rattle.mt_stamp.specs.Moment.{Moment}

-- of a tag: it was not removed
abbrev pub is_left : (Moment → Bool) → Moment → Bool
is_left removed tag = not (removed tag)

-- of a stamp: it is a tag, and was not removed
abbrev pub is_live : (Moment → Bool) → (Moment → Bool) → Moment → Bool
is_live tagged removed tag = tagged tag && is_left removed tag

-- The item is present while one of its tags is live.
abbrev pub IsPresent : (Moment → Bool) → (Moment → Bool) → Type 0
IsPresent tagged removed = (tag : Moment) × IsTrue (is_live tagged removed tag)
