-- `name_flags::flag_name` meets its contract: the name has a flag already, or gets one.
-- Assumes nothing.
use native.Mathlib.Omega.{arith}
use Prim.Native.Nat.{max}
use mathlib.Core.Path.{◌≡◌, sym, ◌∙◌}
use borrow.Author.Tests.{eq-eqb, ne_eqb}
use Rattle.lists.specs.Choice.{pick_yes, pick_no}
use Rattle.name_flags.proofs.Flags.{flag_kept, flag_new}
use lib.ListN.{get_or}
use Rattle.name_flags.proofs.flag_name.Goals as goal

pub returns-then-names-at-gt0 : goal.returns-then-names-at-gt0
returns-then-names-at-gt0 c =
    let a = c.args in
    let n : get_or a.names.now a.x 0 ≡ 0 → ⊥ = λ z. omega (arith, c.if-names-at-gt0.true) in record {
      by_index = flag_kept a.names.now a.x n;
      value = sym (pick_no _ (max a.highest a.x) _ (ne_eqb _ 0 n));
    }

pub returns : goal.returns
returns c =
    let a = c.args in
    let z : get_or a.names.now a.x 0 ≡ 0 = omega (arith, c.if-names-at-gt0.false) in record {
      by_index = flag_new a.names.now a.x c.requires z;
      value = c.higher.ensures ∙ sym (pick_yes _ (max a.highest a.x) _ (eq-eqb _ 0 z));
    }
