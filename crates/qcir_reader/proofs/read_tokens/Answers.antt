-- `qcir_reader::read_tokens` meets its contract: what refuses the names is handed on, and nothing is written then.
-- Assumes nothing.
use Prim.Native.Nat.{ℕ}
use mathlib.Core.Path.{◌∙◌}
use Rattle.lists.proofs.Stores.{get_or-filled}
use Rattle.qcir_reader.proofs.Stages.{names_refuse, names_pass_lem}
use native.Mathlib.Omega.{arith}
use borrow.Author.Rules.{rules}
use Rattle.qcir_reader.proofs.read_tokens.Goals as goal

pub mark_gates-requires : goal.mark_gates-requires
mark_gates-requires c =
    record {
      gates_len = search rules;
      by_index = λ x. get_or-filled {A = ℕ} 65536 x 0;
    }

pub judge_names-verdict-requires : goal.judge_names-verdict-requires
judge_names-verdict-requires c =
    record {
      holds_file = c.requires;
      definitions_in = c.mark_gates.ensures;
    }

pub returns-then-verdict-gt-ACCEPTED : goal.returns-then-verdict-gt-ACCEPTED
returns-then-verdict-gt-ACCEPTED c = λ f h. names_refuse f c.args.words.now c.args.list.now _ c.judge_names-verdict.result (c.judge_names-verdict.ensures f h) (omega (arith, c.if-verdict-gt-ACCEPTED.true)) c.refused.ensures

pub store_table-requires : goal.store_table-requires
store_table-requires c =
    let p = c.requires in record {
      holds_names = (p.0, (c.args.tokens.now.positions.now, p.1));
      definitions_in = c.mark_gates.ensures;
    }

pub returns : goal.returns
returns c = λ f h. c.store_table.ensures f (c.args.tokens.now.positions.now, h) ∙ names_pass_lem f c.args.words.now c.args.list.now c.judge_names-verdict.result (c.judge_names-verdict.ensures f h) (omega (arith, c.if-verdict-gt-ACCEPTED.false))
