use Rattle.std.specs.Prelude.{codes}
use Rattle.std.proofs.lemmas.Result.{on_ok_weaker}
use Rattle.text_csv.proofs.Rows.{row_added}
use Rattle.text_csv.proofs.row.put_header.Goals as goal

pub returns : goal.returns
returns g c =
    on_ok_weaker c.end_row.result
    (row_added _ c.args.writer.now c.put_text.new.writer c.put_text-2.new.writer c.put_text-3.new.writer c.put_text-4.new.writer c.put_text-5.new.writer c.put_text-6.new.writer c.put_text-7.new.writer c.put_text-8.new.writer c.put_text-9.new.writer c.put_text-10.new.writer c.put_text-11.new.writer c.put_text-12.new.writer c.end_row.new.writer
    (codes "kind") (codes "stamp") (codes "track") (codes "at") (codes "offset") (codes "length") (codes "gain") (codes "mute") (codes "fade_in") (codes "fade_out") (codes "title") (codes "source")
    c.in_ok-put_text.ensures c.in_ok-put_text-2.ensures c.in_ok-put_text-3.ensures c.in_ok-put_text-4.ensures
    c.in_ok-put_text-5.ensures c.in_ok-put_text-6.ensures c.in_ok-put_text-7.ensures c.in_ok-put_text-8.ensures
    c.in_ok-put_text-9.ensures c.in_ok-put_text-10.ensures c.in_ok-put_text-11.ensures c.in_ok-put_text-12.ensures)
    c.end_row.ensures
