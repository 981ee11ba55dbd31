-- Which lines of a script ask for nothing (profile).
use Rattle.std.specs.Prelude.{ℕ, Bool, ◌==◌, ◌||◌, List, length, slice_index}

-- what begins a remark
abbrev pub sharp : ℕ
sharp = 35

-- whether the line asks for nothing: it is empty, or a remark, of whatever bytes
abbrev pub is_silent : List ℕ → Bool
is_silent line = (length line == 0) || (slice_index line 0 == sharp)
