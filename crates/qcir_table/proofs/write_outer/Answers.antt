-- `qcir_table::write_outer` meets its contract: a block where a line starts.
-- Assumes nothing.
use mathlib.Core.Path.{sym, ◌∙◌, ap}
use lib.ListN.{length}
use native.Mathlib.Omega.{arith}
use Rattle.lists.specs.Choice.{pick_yes, pick_no}
use Rattle.qcir_nodes.specs.Nodes.{add_none}
use Rattle.qcir_nodes.proofs.Nodes.{room_yes, wrote_yes, wrote_no, wrote_none}
use Rattle.qcir_nodes.proofs.Roles.{list_none}
use Rattle.qcir_table.specs.Passes.{add_line, add_if_line}
use Rattle.qcir_table.proofs.write_outer.Goals as goal

pub write_line-requires : goal.write_line-requires
unfolding add_if_line
write_line-requires c =
    let a = c.args in
    let t = sym c.starts_line.ensures ∙ c.if-starts_line.true in
    let e = ap (λ z. z.progress.listed) (pick_yes _ (add_line a.p a.role (length a.variables.now)) (add_none a.p) t) in record {
      listed = (omega (arith, c.requires.listed.0), omega (arith, c.requires.listed.1));
      room = room_yes _ _ _ _ t c.requires.room;
    }

pub returns-then-starts_line : goal.returns-then-starts_line
unfolding add_if_line
returns-then-starts_line c =
    let t = sym c.starts_line.ensures ∙ c.if-starts_line.true in
    let w = c.write_line.ensures in record {
      wrote = wrote_yes _ _ _ _ _ _ _ t w.wrote;
      list_after = rw (pick_yes _ _ _ t) w.list_after;
    }

pub returns : goal.returns
unfolding add_if_line
returns c =
    let t = sym c.starts_line.ensures ∙ c.if-starts_line.false in record {
      wrote = wrote_no _ _ _ _ _ _ _ t (wrote_none _ _ _);
      list_after = list_none _ _ _ (pick_no _ _ _ t);
    }
