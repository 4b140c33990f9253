-- `qcir_table_sizes::table_sizes` meets its contract: the passes count what the file's table has.
-- Assumes nothing.
use mathlib.Core.List.{List, []}
use mathlib.Core.Path.{◌∙◌, ap, subst}
use native.Mathlib.Omega.{arith}
use Rattle.qcir_tokens.specs.Held.{Definitions}
use Rattle.qcir_tokens.specs.Tokens.{Token}
use Rattle.qcir_table_sizes.specs.Pass.{outer_pass, file_pass}
use Rattle.qcir_table_sizes.proofs.Files.{sizes-of_file}
use Rattle.qcir_table_sizes.proofs.Passes.{outer_whole}
use Rattle.qcir_table_sizes.proofs.table_sizes.Goals as goal

pub inner_pass-inner-requires : goal.inner_pass-inner-requires
inner_pass-inner-requires c =
    let end = c.outer_end-end.ensures in record {
      gates_len = ((c.requires.definitions_in []).wide, end.0);
      end_value = end.2;
    }

pub outer_pass-whole-requires : goal.outer_pass-whole-requires
outer_pass-whole-requires c =
    let end = c.outer_end-end.ensures in
    (omega arith, omega arith, c.inner_pass-inner.ensures.small)

pub returns : goal.returns
returns c f (ps, h) =
    let a = c.args in
    let end = c.outer_end-end in
    sizes-of_file f a.gates.now (subst (λ (ts : List Token). Definitions a.gates.now ts) h.tokens (c.requires.definitions_in ps)) _ (c.outer_pass-whole.ensures ∙ ap (outer_pass a.tokens.now.roles.now end.result) (c.inner_pass-inner.ensures.by_index ps) ∙ outer_whole a.tokens.now.roles.now a.tokens.now.numbers.now a.tokens.now.count a.gates.now ps end.result end.result end.ensures.0 end.ensures.1 (omega arith) ∙ ap (file_pass a.gates.now 0) h.tokens)
