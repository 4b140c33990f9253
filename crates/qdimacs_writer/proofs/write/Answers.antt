-- `qdimacs_writer::write` meets its contract.
-- Assumes nothing.
use mathlib.Core.Path.{sym, ◌∙◌}
use Prim.Native.Nat.{ℕ}
use native.Mathlib.Omega.{arith}
use lib.ListN.{length-replicate}
use Rattle.lists.proofs.Stores.{get_or-filled}
use Rattle.form_check.proofs.Accepted.{form_holds}
use Rattle.qdimacs_writer.proofs.Outcomes.{same_answer, no_bytes, is_refused, promised}
use Rattle.qdimacs_writer.proofs.write.Goals as goal

pub check-requires : goal.check-requires
check-requires c =
    record {
      bound_len = length-replicate {A = ℕ} 77824 0;
      by_index = λ x. get_or-filled 77824 x 0;
    }

pub write_accepted-requires : goal.write_accepted-requires
write_accepted-requires c =
    let k = c.in-Ok.ensures in record {
      accepted_form = form_holds _ _ _ _ (sym k.verdict);
      names_len = (c.check.auto.bound ∙ length-replicate {A = ℕ} 77824 0, k.bound);
      highest_value = k.highest;
    }

pub returns-in-Ok : goal.returns-in-Ok
returns-in-Ok c = let w = promised c.args.nodes.now c.args.prefix.now c.args.variables.now c.args.text.now _ c.write_accepted.ensures in record { outcome = w.0; written = w.1.0; room = w.1.1 }

pub returns-in-Err : goal.returns-in-Err
returns-in-Err c =
    let r = c.refused.result in
    let none = no_bytes r _ c.refused.ensures in
    let said = same_answer _ r (omega arith) (omega arith) (omega arith) ∙ c.refused.ensures in
    let w = promised c.args.nodes.now c.args.prefix.now c.args.variables.now c.args.text.now _
    (is_refused c.args.nodes.now c.args.prefix.now c.args.variables.now c.args.text.now _ c.in-Err.ensures.verdict _ said) in record { outcome = w.0; written = w.1.0; room = w.1.1 }
