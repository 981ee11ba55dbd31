-- The script that takes operations of a log back (profile): a line for each, the newest first, which writes again what stood before it, or a remark that tells
-- why no line does.
use Rattle.std.specs.Prelude.{ℕ, Bool, true, false, not, ◌&&◌, List, [], ◌∷◌, ◌++◌, Option, Some, None, codes, if◌then◌else◌}
use Rattle.std.specs.FinMap as fin
use Rattle.std.specs.List.{find}
use Rattle.std.specs.Option.{is_none}
use Rattle.mt_stamp.specs.Moment.{Moment, dot_of, stamp_eq}
use Rattle.mt_stamp.specs.Texts.{stamp_text}
use Rattle.mt_stamp.specs.Written.{Written}
use Rattle.mt_op.specs.Operation.{Act, MoveTrack, MoveClip, Operation}
use Rattle.mt_op.specs.Presence.{is_present}
use Rattle.mt_opcodec.specs.LogValue.{LogMap}
use Rattle.mt_op.specs.Writes.{subject}
use Rattle.mt_sessionview.specs.SessionText.{newline}
use Rattle.mt_logtext.specs.LogText.{stamp_word, act_text}
use Rattle.mt_revert.specs.Before.{now, standing, TakenBack, all_taken_back}

-- ---- which stamps name an operation

abbrev pub is_of : Moment → Option Operation → Bool
is_of stamp None = false
is_of stamp (Some o) = stamp_eq o.stamp stamp

-- the first of these stamps that no operation of a log has
abbrev pub first_missing : LogMap → List Moment → Option Moment
first_missing log stamps = find (λ stamp. not (is_of stamp (fin.get log (dot_of stamp)))) stamps

-- ---- what stands where a line is read: the lines of the operations behind, which are taken back with it, were read before it

-- whether an operation added, removed or restored this item
abbrev pub changed_presence : Moment → TakenBack → Bool
changed_presence item t = t.ready && (is_none t.back && stamp_eq (subject t.op.stamp t.op.act) item)

-- whether an item is present: as before the first of these that changed that, and else as now
abbrev pub is_there : List Operation → List TakenBack → Moment → Bool
is_there ops [] item = is_present ops item
is_there ops (t ∷ behind) item = if changed_presence item t then t.present else is_there ops behind item

-- who wrote a field before this operation did
abbrev pub writer_before : Moment → Option (Written Act) → Moment
writer_before writer None = writer
writer_before writer (Some back) = back.writer

-- whose value is left where one is taken back
abbrev pub left_before : Moment → TakenBack → Moment
left_before left t = if stamp_eq left t.op.stamp then writer_before left t.back else left

-- and where these are, the last one first: of a field that this writer wrote last
abbrev pub writer_left : Moment → List TakenBack → Moment
writer_left writer [] = writer
writer_left writer (t ∷ behind) = left_before (writer_left writer behind) t

-- ---- lines

-- `# STAMP waits: it changes nothing`
abbrev pub waits : Moment → List ℕ
waits own = codes "# " ++ (stamp_text own ++ codes " waits: it changes nothing")

-- of an item that was present, or absent, and is now: `remove ITEM`, `restore ITEM`, or a remark where it is as it was
abbrev pub presence_line : (was is : Bool) → Moment → List ℕ
presence_line false false item = codes "# remove" ++ (stamp_word item ++ codes ": it is absent already")
presence_line false true item = codes "remove" ++ stamp_word item
presence_line true false item = codes "restore" ++ stamp_word item
presence_line true true item = codes "# restore" ++ (stamp_word item ++ codes ": it is present already")

-- the track that a line names beside its item
abbrev pub other_item : Act → Option Moment
other_item (MoveTrack track after) = after
other_item (MoveClip clip track at) = Some track
other_item _ = None

-- the first item that a line names and that is absent
abbrev pub absent_other : (Moment → Bool) → Option Moment → Option Moment
absent_other there None = None
absent_other there (Some other) = if there other then None else Some other

abbrev pub first_absent : (Moment → Bool) → Moment → Act → Option Moment
first_absent there item act = if there item then absent_other there (other_item act) else Some item

-- `ACT`; or `# ACT: ITEM is absent`, where an editor would refuse it; or `# ACT: STAMP has changed it since`, where it would take another's write back too
abbrev pub field_line : Act → Option Moment → (own writer : Moment) → List ℕ
field_line act (Some absent) own writer = codes "# " ++ (act_text act ++ (codes ": " ++ (stamp_text absent ++ codes " is absent")))
field_line act None own writer =
    if stamp_eq writer own then act_text act else codes "# " ++ (act_text act ++ (codes ": " ++ (stamp_text writer ++ codes " has changed it since")))

-- the line of one that is ready: `last` is who wrote last to its field
abbrev pub ready_line : List Operation → List TakenBack → TakenBack → Moment → Option (Written Act) → List ℕ
ready_line ops behind t last None = presence_line t.present (is_there ops behind (subject t.op.stamp t.op.act)) (subject t.op.stamp t.op.act)
ready_line ops behind t last (Some back) =
    field_line back.value (first_absent (is_there ops behind) (subject t.op.stamp t.op.act) back.value) t.op.stamp (writer_left last behind)

-- who wrote last to the field that an operation writes
abbrev pub last_writer : LogMap → List Operation → Operation → Moment
last_writer log ops o = writer_before o.stamp (standing log ops o.act)

abbrev pub revert_words : LogMap → List Operation → List TakenBack → TakenBack → List ℕ
revert_words log ops behind t = if t.ready then ready_line ops behind t (last_writer log ops t.op) t.back else waits t.op.stamp

abbrev pub revert_line : LogMap → List Operation → List TakenBack → TakenBack → List ℕ
revert_line log ops behind t = revert_words log ops behind t ++ newline ∷ []

-- the lines of those behind come before that of an operation
abbrev pub revert_lines : LogMap → List Operation → List TakenBack → List ℕ
revert_lines log ops [] = []
revert_lines log ops (t ∷ behind) = revert_lines log ops behind ++ revert_line log ops behind t

abbrev pub revert_text : LogMap → List Moment → List ℕ
revert_text log stamps = revert_lines log (now log) (all_taken_back log stamps)
