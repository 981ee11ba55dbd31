-- Walking the chunks of the lists of type adtl, one step after the other.
use Rattle.std.proofs.Common.{◌≡◌, ℕ, ◌+◌, ◌%◌, ◌<◌, ◌≤◌, Bool, true, false, cond, List, [], ◌∷◌, length, take, drop, refl, sym, ap, ◌∙◌, arith, length-drop}
use Rattle.std.specs.Prelude.{◌&&◌, nat_le, map, codes}
use Rattle.std.specs.List.{filter}
use Rattle.std.specs.Str.{bytes_eq}
use Rattle.std.proofs.lemmas.Bool.{leb-true}
use Rattle.std.proofs.lemmas.List.{length-take}
use Rattle.mt_bwfread.specs.declared.riff.Part.{Part}
use Rattle.mt_bwfread.specs.declared.list.Entry.{Entry}
use Rattle.mt_bwfread.specs.declared.wave.Wave.TheInside.{Inside}
use Rattle.mt_bwfread.specs.Kept.{IsKept}
use Rattle.mt_bwfread.specs.Wave.{chunks_in}
use Rattle.mt_bwfread.specs.Riff.{u32_at, Chunk, has_chunk, first_chunk, after_chunk}
use Rattle.mt_bwfread.specs.Extension.{text_of}
use Rattle.mt_bwfread.specs.Cues.{adtl_in, listed_in, listed_left, is_entry, entries_of, entries_left, label_in, labels_of, labels_left, length_in, lengths_of, lengths_left}
use Rattle.mt_bwfread.specs.Parts.{chunk_at, IsFirstPart, IsEntry}
use Rattle.mt_bwfread.proofs.Chunks.{chunks_step, chunks_stop}

-- ---- the chunks that are left

none_in_nil : has_chunk [] ≡ false
unfolding has_chunk
none_in_nil = refl

in_list : (list file : List ℕ) → has_chunk list ≡ true → listed_left list file ≡ first_chunk list ∷ listed_left (after_chunk list) file
unfolding listed_left
in_list list file whole = rw (chunks_step list whole) refl

in_file : (list file : List ℕ) → has_chunk list ≡ false → has_chunk file ≡ true → listed_left list file ≡ listed_left (adtl_in (first_chunk file)) (after_chunk file)
unfolding listed_left listed_in
in_file list file over whole = rw (chunks_stop list over, chunks_step file whole) refl

in_none : (list file : List ℕ) → has_chunk list ≡ false → has_chunk file ≡ false → listed_left list file ≡ []
unfolding listed_left listed_in
in_none list file over done = rw (chunks_stop list over, chunks_stop file done) refl

-- the next chunk stands in the list
part_in_list : (list file : List ℕ) (p : Part) → IsFirstPart list p → listed_left list file ≡ chunk_at p ∷ listed_left p.after.now file
part_in_list list file p part =
    in_list list file part.whole ∙ ap (λ (c : Chunk). c ∷ listed_left (after_chunk list) file) (sym part.chunk)
    ∙ ap (λ (b : List ℕ). chunk_at p ∷ listed_left b file) (sym part.after)

-- the list is over, and the next chunk of the file may be a list
part_in_file : (list file next : List ℕ) (p : Part) → has_chunk list ≡ false → IsFirstPart file p → next ≡ adtl_in (chunk_at p) → listed_left list file ≡ listed_left next p.after.now
part_in_file list file next p over part is =
    in_file list file over part.whole ∙ ap (λ (b : List ℕ). listed_left b (after_chunk file)) (sym (is ∙ ap adtl_in part.chunk))
    ∙ ap (λ (b : List ℕ). listed_left next b) (sym part.after)

-- ---- those of them that have an id and are long enough

taken_one : (test : Chunk → Bool) (c : Chunk) (cs : List Chunk) → test c ≡ true → filter test (c ∷ cs) ≡ c ∷ filter test cs
taken_one test c cs is = rw is refl

left_one : (test : Chunk → Bool) (c : Chunk) (cs : List Chunk) → test c ≡ false → filter test (c ∷ cs) ≡ filter test cs
left_one test c cs is = rw is refl

both_true : (a b : Bool) → (a && b) ≡ true → b ≡ true
both_true true b is = is
both_true false b is = cc is

pub entry_long : (id : List ℕ) (fixed : ℕ) (c : Chunk) → is_entry id fixed c ≡ true → fixed ≤ length c.content
unfolding is_entry
entry_long id fixed c is = leb-true fixed (length c.content) (both_true (bytes_eq c.id id) (nat_le fixed (length c.content)) is)

module _ (id : List ℕ) (fixed : ℕ) where
  pub left_entry : (list file : List ℕ) (p : Part) → IsFirstPart list p → is_entry id fixed (chunk_at p) ≡ true → entries_left id fixed list file ≡ chunk_at p ∷ entries_left id fixed p.after.now file
  unfolding entries_left
  left_entry list file p part is =
      ap (filter (is_entry id fixed)) (part_in_list list file p part) ∙ taken_one (is_entry id fixed) (chunk_at p) (listed_left p.after.now file) is

  pub left_other : (list file : List ℕ) (p : Part) → IsFirstPart list p → is_entry id fixed (chunk_at p) ≡ false → entries_left id fixed list file ≡ entries_left id fixed p.after.now file
  unfolding entries_left
  left_other list file p part is =
      ap (filter (is_entry id fixed)) (part_in_list list file p part) ∙ left_one (is_entry id fixed) (chunk_at p) (listed_left p.after.now file) is

  pub left_list : (list file next : List ℕ) (p : Part) → has_chunk list ≡ false → IsFirstPart file p → next ≡ adtl_in (chunk_at p) → entries_left id fixed list file ≡ entries_left id fixed next p.after.now
  unfolding entries_left
  left_list list file next p over part is = ap (filter (is_entry id fixed)) (part_in_file list file next p over part is)

  pub left_none : (list file : List ℕ) → has_chunk list ≡ false → has_chunk file ≡ false → entries_left id fixed list file ≡ []
  unfolding entries_left
  left_none list file over done = ap (filter (is_entry id fixed)) (in_none list file over done)

  -- those that are left of the whole file are all of them
  pub all_entries : (w : Inside) (text : List ℕ) → IsKept w → w.text.now ≡ text → entries_left id fixed [] w.body.now ≡ entries_of id fixed text
  unfolding entries_left entries_of listed_left chunks_in
  all_entries w text kept is = rw (chunks_stop [] none_in_nil, kept.body, is) refl

-- a list's chunks are part of its content
shorter_if : (b : Bool) (content : List ℕ) → length (cond b (drop 4 content) []) ≤ length content
shorter_if true content = omega (arith, length-drop 4 content)
shorter_if false content = omega arith

adtl_shorter : (c : Chunk) → length (adtl_in c) ≤ length c.content
unfolding adtl_in
adtl_shorter c = shorter_if (bytes_eq c.id (codes "LIST") && bytes_eq (take 4 c.content) (codes "adtl")) c.content

content_and_after : (file : List ℕ) → has_chunk file ≡ true → length (first_chunk file).content + length (after_chunk file) + 8 ≤ length file
unfolding has_chunk first_chunk after_chunk
content_and_after file whole =
    let size = leb-true (8 + u32_at 4 file) (length file) whole in
    omega (arith, size, length-drop (u32_at 4 file % 2) (drop (u32_at 4 file) (drop 8 file)), length-drop (u32_at 4 file) (drop 8 file), length-drop 8 file, length-take (u32_at 4 file) (drop 8 file))

pub list_shorter : (file next : List ℕ) (p : Part) → IsFirstPart file p → next ≡ adtl_in (chunk_at p) → length next + length p.after.now < length file
list_shorter file next p part is =
    let same : next ≡ adtl_in (first_chunk file) = is ∙ ap adtl_in part.chunk in
    rw (same, part.after) (omega (arith, adtl_shorter (first_chunk file), content_and_after file part.whole))

-- ---- the labels and the lengths that are left

pub next_label : (list file : List ℕ) (e : Entry) (name : ℕ) (text : List ℕ) → IsEntry (codes "labl") 4 list file e → name ≡ u32_at 0 e.part.content.now → text ≡ text_of (drop 4 e.part.content.now)
    → labels_left list file ≡ record { name = name; value = text } ∷ labels_left e.part.after.now e.file.now
unfolding labels_left label_in
next_label list file e name text entry is_name is_text = ap (map label_in) entry.first ∙ rw (is_name, is_text) refl

pub no_label : (list file : List ℕ) → entries_left (codes "labl") 4 list file ≡ [] → labels_left list file ≡ []
unfolding labels_left
no_label list file none = ap (map label_in) none

pub next_length : (list file : List ℕ) (e : Entry) (name len : ℕ) → IsEntry (codes "ltxt") 20 list file e → name ≡ u32_at 0 e.part.content.now → len ≡ u32_at 4 e.part.content.now
    → lengths_left list file ≡ record { name = name; value = len } ∷ lengths_left e.part.after.now e.file.now
unfolding lengths_left length_in
next_length list file e name len entry is_name is_len = ap (map length_in) entry.first ∙ rw (is_name, is_len) refl

pub no_length : (list file : List ℕ) → entries_left (codes "ltxt") 20 list file ≡ [] → lengths_left list file ≡ []
unfolding lengths_left
no_length list file none = ap (map length_in) none

pub all_labels : (w : Inside) (text : List ℕ) → IsKept w → w.text.now ≡ text → labels_left [] w.body.now ≡ labels_of text
unfolding labels_left labels_of
all_labels w text kept is = ap (map label_in) (all_entries (codes "labl") 4 w text kept is)

pub all_lengths : (w : Inside) (text : List ℕ) → IsKept w → w.text.now ≡ text → lengths_left [] w.body.now ≡ lengths_of text
unfolding lengths_left lengths_of
all_lengths w text kept is = ap (map length_in) (all_entries (codes "ltxt") 20 w text kept is)
