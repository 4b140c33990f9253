-- `qcir_table_sizes::gates_pass` meets its contract. The invariant: what is left leads to the whole.
-- Assumes nothing.
use mathlib.Core.Path.{◌≡◌, ◌∙◌, ap}
use Prim.Native.Nat.{ℕ}
use native.Mathlib.Omega.{arith}
use lib.ListN.{get_or}
use Rattle.qcir_table_sizes.specs.Pass.{gate_step}
use Rattle.qcir_table_sizes.proofs.Passes.{left_start, left_more, left_none, small_room}
use Rattle.qcir_table_sizes.proofs.gates_pass.Goals as goal

pub loop-i-init : goal.loop-i-init
loop-i-init c =
    let a = c.args in
    rw c.start-s.ensures (left_start a.tokens.now.roles.now a.tokens.now.numbers.now a.tokens.now.count a.gates.now a.from)

pub add_token-s-requires : goal.add_token-s-requires
add_token-s-requires c =
    let l = c.loop-i in
    small_room _ _ (omega arith) l.invariant.small

pub loop-i-preserved : goal.loop-i-preserved
loop-i-preserved c =
    let l = c.loop-i in
    let a = c.args in
    rw (c.add_token-s.ensures ∙ ap (λ (gate : ℕ). gate_step (get_or a.tokens.now.roles.now l.i 0) gate l.i l.s) c.gate_of-gate.ensures) (left_more a.tokens.now.roles.now a.tokens.now.numbers.now a.tokens.now.count a.gates.now a.from l.i l.s (omega arith) l.invariant)

pub returns : goal.returns
returns c =
    let l = c.loop-i in
    let a = c.args in
    let e : l.i ≡ a.tokens.now.count = omega arith in record {
      small = rw e at l.invariant.small;
      by_index = left_none a.tokens.now.roles.now a.tokens.now.numbers.now a.tokens.now.count a.gates.now a.from l.i l.s (omega arith) l.invariant;
    }
