-- `free_variables::list_flagged` meets its contract: too little room, or all free variables written.
-- Assumes nothing.
use mathlib.Core.Path.{◌∙◌, ap}
use native.Mathlib.Omega.{arith}
use lib.ListN.{length}
use Rattle.lists.specs.Parts.{overwrite}
use Rattle.formula.specs.Words.{table_of}
use Rattle.arrays.proofs.Nodes.{accepted_tree}
use Rattle.free_variables.proofs.Flags.{flags_few, flagged_free}
use Rattle.free_variables.proofs.Listing.{listing_short, listing_done}
use Rattle.free_variables.proofs.list_flagged.Goals as goal

pub returns-then-names-found : goal.returns-then-names-found
unfolding table_of
returns-then-names-found c =
    let m = c.flag_unbound-found.ensures in
    let e = flagged_free (table_of c.args.words.now c.args.list.now) (accepted_tree c.args.words.now c.args.list.now c.requires.list_value) _ _ m in
    listing_short _ _ _ c.refusal-verdict.ensures (omega (arith, ap length e, m.are_set.count_is, c.if-names-found.true))

pub write_flagged-requires : goal.write_flagged-requires
write_flagged-requires c =
    let m = c.flag_unbound-found.ensures in record {
      flags_len_bound = (m.low, m.are_set);
      count_in_bounds = omega (arith, c.if-names-found.false);
    }

pub overflow_cast-count : goal.overflow_cast-count
overflow_cast-count c =
    let m = c.flag_unbound-found.ensures in
    omega (arith, flags_few _ _ _ _ m)

pub returns : goal.returns
unfolding table_of
returns c =
    let m = c.flag_unbound-found.ensures in
    let e = flagged_free (table_of c.args.words.now c.args.list.now) (accepted_tree c.args.words.now c.args.list.now c.requires.list_value) _ _ m in
    listing_done _ _ _ c.accepted-verdict.ensures (omega (arith, ap length e, m.are_set.count_is, c.if-names-found.false)) _ (m.are_set.count_is ∙ ap length e) _ (c.write_flagged.ensures ∙ ap (overwrite c.args.names.now 0) e)
