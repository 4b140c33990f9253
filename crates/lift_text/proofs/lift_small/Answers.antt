-- `lift_text::lift_small` meets its contract.
-- Assumes nothing.
use Rattle.lift_text.proofs.Calls.{text_unless, text_kept}
use Rattle.lift_text.proofs.lift_small.Goals as goal

pub returns : goal.returns
returns c =
    let e = c.lift_table_in.ensures in record {
      done = text_unless c.args.words.now c.args.list.now c.requires c.args.format _ c.args.out.now _ e;
      short = text_kept c.args.words.now c.args.list.now c.requires c.args.format _ c.args.out.now _ e;
    }
