-- `growth::add_line` meets its contract.
-- Assumes nothing.
use mathlib.Core.Path.{◌≡◌, ap, ◌∙◌}
use mathlib.Core.Bool.{Bool, true, false, not}
use mir.Val.{bool_byte}
use Rattle.lists.specs.Choice.{pick}
use Prim.Native.Nat.{ℕ, ◌+◌, ◌≤◌}
use native.Mathlib.Omega.{arith}
use Rattle.growth.specs.Steps.{more_grown, with_line}
use Rattle.growth.proofs.add_line.Goals as goal

-- a test that fails counts one
one_unless : (b : Bool) (x : ℕ) → x ≡ bool_byte (not b) → x ≡ pick b 0 1
unfolding pick
one_unless true x e = e
one_unless false x e = e

added : {r sum bound : ℕ} → r ≤ sum + 4294967295 → sum ≤ bound → r ≤ bound + 4294967295
added h k = omega arith

pub plus-requires : goal.plus-requires
plus-requires c = c.requires.read

pub plus-requires-2 : goal.plus-requires-2
plus-requires-2 c = c.requires.refused

pub plus-requires-3 : goal.plus-requires-3
plus-requires-3 c = c.requires.n

pub plus-requires-4 : goal.plus-requires-4
plus-requires-4 c = c.requires.b

pub plus-requires-5 : goal.plus-requires-5
plus-requires-5 c = c.requires.q

pub plus-requires-6 : goal.plus-requires-6
plus-requires-6 c = c.requires.depth

pub plus-requires-7 : goal.plus-requires-7
plus-requires-7 c = c.requires.nodes

pub plus-requires-8 : goal.plus-requires-8
plus-requires-8 c = c.requires.variables

pub returns : goal.returns
unfolding with_line
returns c =
    let at = c.args in
    let most = c.more_grown-most.ensures in
    let read = c.plus.ensures in
    let refused = c.plus-2.ensures in
    let n = c.plus-3.ensures in
    let b = c.plus-4.ensures in
    let q = c.plus-5.ensures in
    let depth = c.plus-6.ensures in
    let nodes = c.plus-7.ensures in
    let variables = c.plus-8.ensures in record {
      sums = λ k. record {
        read = (read.0 ∙ ap (λ x. at.t.read + x) (one_unless _ _ c.from.ensures)) k;
        refused = (refused.0 ∙ ap (λ x. at.t.refused + x) (one_unless _ _ c.from-2.ensures)) k;
        n = n.0 k;
        b = b.0 k;
        q = q.0 k;
        depth = depth.0 k;
        nodes = nodes.0 k;
        variables = variables.0 k;
        most = (most.0 ∙ ap (more_grown at.t.most) c.growth_of.ensures.0) k;
      };
      within = λ bound w. record {
        read = added read.1 w.read;
        refused = added refused.1 w.refused;
        n = added n.1 w.n;
        b = added b.1 w.b;
        q = added q.1 w.q;
        depth = added depth.1 w.depth;
        nodes = added nodes.1 w.nodes;
        variables = added variables.1 w.variables;
        most = most.1;
      };
    }
