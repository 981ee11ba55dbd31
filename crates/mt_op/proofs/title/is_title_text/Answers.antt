use Rattle.std.proofs.Common.{length}
use Rattle.std.proofs.lemmas.Str.{is_utf8-from_IsUtf8}
use Rattle.std.proofs.lemmas.Bool.{le-leb}
use Rattle.mt_op.proofs.title.is_title_text.Goals as goal

pub returns-then-text-le255 : goal.returns-then-text-le255
returns-then-text-le255 c =
    rw (is_utf8-from_IsUtf8 c.args.text.now c.utf8.text, le-leb (length c.args.text.now) 255 c.if-text-le255.true) c.all_plain.ensures
