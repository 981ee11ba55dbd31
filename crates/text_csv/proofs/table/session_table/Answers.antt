use Rattle.std.proofs.Common.{◌∙◌}
use Rattle.text_csv.specs.Table.{table}
use Rattle.text_csv.proofs.Rows.{begun, ended}
use Rattle.text_csv.proofs.table.session_table.Goals as goal

pub returns-in-Ok : goal.returns-in-Ok
returns-in-Ok g c =
    ended _ c.from_writer-writer.result c.put_rows.new.writer c.in-Ok.text (table c.args.rate c.args.session.now)
    (begun _ c.from_writer-writer.result c.new-2.result c.from_writer-writer.ensures.wtr c.new-2.ensures.items c.from_writer-writer.ensures.empty
    (c.from_writer-writer.ensures.cfg ∙ c.new.ensures) c.from_writer-writer.ensures.fields)
    c.in_ok-put_rows.ensures c.in-Ok.ensures.ok
