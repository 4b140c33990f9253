-- `qcir_nodes::write_token` meets its contract, by the token's role.
-- Assumes nothing.
use mathlib.Core.Path.{sym, ◌∙◌, ap}
use native.Mathlib.Omega.{arith}
use lib.ListN.{length}
use Rattle.lists.specs.Choice.{pick_no}
use Rattle.qcir_nodes.specs.Nodes.{add_token}
use Rattle.qcir_nodes.proofs.Roles.{definition_not_last, bound_not_last, entries_definition, entries_bound, entries_use, list_none, list_one}
use Rattle.qcir_nodes.proofs.Nodes.{room_no, wrote_yes, wrote_no, wrote_none}
use Rattle.qcir_nodes.proofs.write_token.Goals as goal

pub returns-then-is_definition : goal.returns-then-is_definition
unfolding add_token
returns-then-is_definition c =
    let t = sym c.is_definition.ensures ∙ c.if-is_definition.true in record {
      wrote = wrote_yes _ _ _ _ _ _ _ t (wrote_none _ _ _);
      list_after = list_none _ _ _ (entries_definition _ _ t);
      nodes_after = sym (pick_no _ _ _ (definition_not_last _ t));
    }

pub bounds-list-p : goal.bounds-list-p
bounds-list-p c =
    let e = ap length (entries_bound c.args.role c.args.x (sym c.is_definition.ensures ∙ c.if-is_definition.false) (sym c.is_bound.ensures ∙ c.if-is_bound.true)) in
    omega (arith, c.requires.first_le_listed)

pub returns-then-is_bound : goal.returns-then-is_bound
unfolding add_token
returns-then-is_bound c =
    let t = sym c.is_definition.ensures ∙ c.if-is_definition.false in
    let u = sym c.is_bound.ensures ∙ c.if-is_bound.true in record {
      wrote = wrote_no _ _ _ _ _ _ _ t (wrote_yes _ _ _ _ _ _ _ u (wrote_none _ _ _));
      list_after = list_one _ _ _ _ (entries_bound _ _ t u) c.requires.first_le_listed.1;
      nodes_after = sym (pick_no _ _ _ (bound_not_last _ u));
    }

pub write_use-requires : goal.write_use-requires
unfolding add_token
write_use-requires c =
    record {
      first_le_listed = c.requires.first_le_listed.0;
      nodes_len = c.requires.nodes_len;
      room = room_no _ _ _ _ (sym c.is_bound.ensures ∙ c.if-is_bound.false) (room_no _ _ _ _ (sym c.is_definition.ensures ∙ c.if-is_definition.false) c.requires.room);
    }

pub returns : goal.returns
unfolding add_token
returns c =
    let t = sym c.is_definition.ensures ∙ c.if-is_definition.false in
    let u = sym c.is_bound.ensures ∙ c.if-is_bound.false in
    let e = c.write_use.ensures in record {
      wrote = wrote_no _ _ _ _ _ _ _ t (wrote_no _ _ _ _ _ _ _ u e.wrote);
      list_after = list_none _ _ _ (entries_use _ _ t u);
      nodes_after = e.nodes_after;
    }
