-- The cue points by their indices.
use Rattle.std.proofs.Common.{◌≡◌, ℕ, zero, suc, ◌+◌, ◌-◌, ◌*◌, ◌/◌, ◌<◌, ◌≤◌, min, Bool, true, false, cond, List, length, drop, Some, None, refl, sym, ap, ◌∙◌, arith, length-drop}
use Rattle.std.specs.Prelude.{Option, slice_get, nat_lt}
use Rattle.std.specs.Option.{option_map}
use Rattle.std.proofs.lemmas.List.{drop-drop, length-map}
use Rattle.std.proofs.lemmas.Option.{slice_get-map}
use Rattle.byteorder.specs.Endian.{little_number}
use Rattle.mt_bwfread.specs.declared.cue.Point.{Point}
use Rattle.mt_bwfread.specs.declared.wave.Wave.TheInside.{Inside}
use Rattle.mt_bwfread.specs.Riff.{u32_at}
use Rattle.mt_bwfread.specs.Cues.{points_in, point_count, cue_chunk, points_of, cues_of, cue_of, lengths_of, labels_of, first_for}
use Rattle.mt_bwfread.specs.Kept.{IsKept}

length-points_in : (n : ℕ) (bytes : List ℕ) → length (points_in n bytes) ≡ n
unfolding points_in
length-points_in zero bytes = refl
length-points_in (suc n) bytes = ap suc (length-points_in n (drop 24 bytes))

u32_later : (i k : ℕ) (bytes : List ℕ) → 24 + i ≡ k → u32_at i (drop 24 bytes) ≡ u32_at k bytes
u32_later i k bytes is = ap (little_number 4) (drop-drop i 24 bytes ∙ ap (λ (n : ℕ). drop n bytes) is)

point_within : (n i : ℕ) (bytes : List ℕ) → i < n → slice_get (points_in n bytes) i ≡ Some (record { name = u32_at (24 * i) bytes; at = u32_at (24 * i + 20) bytes })
unfolding points_in
point_within zero i bytes lt = absurd (omega arith)
point_within (suc n) zero bytes lt = refl
point_within (suc n) (suc i) bytes lt =
    let name = u32_later (24 * i) (24 * suc i) bytes (omega arith) in
    let at = u32_later (24 * i + 20) (24 * suc i + 20) bytes (omega arith) in
    point_within n i (drop 24 bytes) (omega arith) ∙ rw (name, at) refl

count_if : (b : Bool) (said len : ℕ) → 24 * cond b 0 (min said ((len - 4) / 24)) ≤ len - 4
count_if true said len = omega arith
count_if false said len = omega arith

points_fit : (cue : List ℕ) → 24 * point_count cue ≤ length cue - 4
unfolding point_count
points_fit cue = count_if (nat_lt (length cue) 4) (u32_at 0 cue) (length cue)

-- ---- the same of a wave file

pub points_kept : (w : Inside) → IsKept w → 24 * w.point_count ≤ length w.points.now
points_kept w kept = rw (kept.points, kept.point_count) (omega (arith, points_fit (cue_chunk w.text.now), length-drop 4 (cue_chunk w.text.now)))

points_are : (w : Inside) (text : List ℕ) → IsKept w → w.text.now ≡ text → points_of text ≡ points_in w.point_count w.points.now
unfolding points_of
points_are w text kept is = rw (kept.points, kept.point_count, is) refl

pub point_is : (w : Inside) (text : List ℕ) (i name at : ℕ) → IsKept w → w.text.now ≡ text → i < w.point_count → name ≡ u32_at (24 * i) w.points.now → at ≡ u32_at (24 * i + 20) w.points.now
    → Some (record { name = name; at = at }) ≡ slice_get (points_of text) i
point_is w text i name at kept is lt is_name is_at =
    rw (points_are w text kept is, point_within w.point_count i w.points.now lt, is_name, is_at) refl

pub points_counted : (w : Inside) (text : List ℕ) → IsKept w → w.text.now ≡ text → w.point_count ≡ length (points_of text)
points_counted w text kept is = rw (points_are w text kept is, length-points_in w.point_count w.points.now) refl

pub cues_counted : (w : Inside) (text : List ℕ) → IsKept w → w.text.now ≡ text → w.point_count ≡ length (cues_of text)
unfolding cues_of
cues_counted w text kept is = points_counted w text kept is ∙ sym (length-map (points_of text) (cue_of (lengths_of text) (labels_of text)))

-- ---- cues

cue_at : (text : List ℕ) (i : ℕ) → slice_get (cues_of text) i ≡ option_map (cue_of (lengths_of text) (labels_of text)) (slice_get (points_of text) i)
unfolding cues_of
cue_at text i = slice_get-map (cue_of (lengths_of text) (labels_of text)) (points_of text) i

pub cue_is : (text : List ℕ) (i : ℕ) (p : Point) (len : Option ℕ) (label : Option (List ℕ)) → Some p ≡ slice_get (points_of text) i → len ≡ first_for p.name (lengths_of text) → label ≡ first_for p.name (labels_of text)
    → Some (record { name = p.name; at = p.at; length = len; label = label }) ≡ slice_get (cues_of text) i
unfolding cue_of
cue_is text i p len label found is_len is_label = rw (cue_at text i, ← found, is_len, is_label) refl

pub no_cue : (text : List ℕ) (i : ℕ) → None ≡ slice_get (points_of text) i → None ≡ slice_get (cues_of text) i
no_cue text i none = rw (cue_at text i, ← none) refl
