-- `lift_text::lift_large` meets its contract.
-- Assumes nothing.
use Prim.Native.Nat.{ℕ}
use lib.ListN.{length-replicate}
use Rattle.lift_text.proofs.Calls.{text_alone}
use Rattle.lift_text.proofs.lift_large.Goals as goal

pub returns : goal.returns
returns c = text_alone c.args.words.now c.args.list.now c.requires c.args.format _ c.args.out.now _ c.lift_table_in.ensures (length-replicate {A = ℕ} 163840 0)
