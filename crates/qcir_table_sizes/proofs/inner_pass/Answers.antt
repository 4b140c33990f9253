-- `qcir_table_sizes::inner_pass` meets its contract: there is no output, or it comes after the gates.
-- Assumes nothing.
use mathlib.Core.Path.{◌∙◌, ap}
use Prim.Native.Nat.{ℕ}
use native.Mathlib.Omega.{arith}
use lib.ListN.{get_or}
use Rattle.qcir_table_sizes.specs.Pass.{output_added}
use Rattle.qcir_table_sizes.proofs.Passes.{small_start, small_room, small_output, small_most, file_none, file_output}
use Rattle.qcir_table_sizes.proofs.inner_pass.Goals as goal

pub returns-then-tokens-end : goal.returns-then-tokens-end
returns-then-tokens-end c =
    let a = c.args in
    let e = c.start.ensures in record {
      small = rw e (small_start 32769);
      by_index = λ ps. e ∙ file_none a.tokens.now.roles.now a.tokens.now.numbers.now a.tokens.now.count a.gates.now ps a.end (omega arith);
    }

pub add_output-requires : goal.add_output-requires
add_output-requires c = small_room _ _ (omega arith) c.gates_pass-s.ensures.small

pub returns : goal.returns
returns c =
    let a = c.args in
    let e = c.add_output.ensures ∙ ap (λ (gate : ℕ). output_added (get_or a.tokens.now.roles.now a.end 0) gate c.gates_pass-s.result) c.gate_of-gate.ensures in record {
      small = rw e (small_most _ 32769 (small_output a.tokens.now.count c.gates_pass-s.result c.gates_pass-s.ensures.small _ _) (omega arith));
      by_index = λ ps. e ∙ file_output a.tokens.now.roles.now a.tokens.now.numbers.now a.tokens.now.count a.gates.now ps a.end c.gates_pass-s.result (omega arith) (c.requires.end_value (omega arith)) (c.gates_pass-s.ensures.by_index ps);
    }
