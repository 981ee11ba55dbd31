-- The extension from its parts.
use Rattle.std.proofs.Common.{◌≡◌, ℕ, ◌+◌, ◌*◌, ◌≤◌, false, List, length, drop, Some, refl}
use Rattle.std.specs.Prelude.{nat_lt, slice_range}
use Rattle.std.proofs.lemmas.Bool.{le-ltb}
use Rattle.mt_bwfread.specs.Riff.{u16_at, u32_at}
use Rattle.mt_bwfread.specs.Extension.{text_of, extension_in}

pub from_parts : (bext description originator reference date time history : List ℕ) (low high version : ℕ) → 602 ≤ length bext
    → description ≡ text_of (slice_range bext 0 256) → originator ≡ text_of (slice_range bext 256 288) → reference ≡ text_of (slice_range bext 288 320)
    → date ≡ text_of (slice_range bext 320 330) → time ≡ text_of (slice_range bext 330 338) → history ≡ text_of (drop 602 bext)
    → low ≡ u32_at 338 bext → high ≡ u32_at 342 bext → version ≡ u16_at 346 bext
    → Some (record { description = description; originator = originator; reference = reference; date = date; time = time; time_reference = low + 4294967296 * high; version = version; history = history }) ≡ extension_in bext
unfolding extension_in
from_parts bext description originator reference date time history low high version long is_description is_originator is_reference is_date is_time is_history is_low is_high is_version =
    let test : nat_lt (length bext) 602 ≡ false = le-ltb (length bext) 602 long in
    rw (is_description, is_originator, is_reference, is_date, is_time, is_history, is_low, is_high, is_version, test) refl
