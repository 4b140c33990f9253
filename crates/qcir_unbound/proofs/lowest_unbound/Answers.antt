-- `qcir_unbound::lowest_unbound` meets its contract: where every variable used is marked, none is unbound; else the walk finds those that are.
-- Assumes nothing.
use mathlib.Core.Bool.{Bool, false}
use mathlib.Core.List.{[]}
use borrow.Author.Rules.{rules}
use Rattle.lists.proofs.Stores.{get_or-filled}
use Rattle.qcir_tokens.specs.Held.{number_count}
use Rattle.qcir_unbound.proofs.Files.{within, output_low, unbound_found, none_found}
use Rattle.qcir_unbound.proofs.lowest_unbound.Goals as goal

pub mark_outer-output-requires : goal.mark_outer-output-requires
mark_outer-output-requires c =
    record {
      marks_len = search rules;
      by_index = λ x. get_or-filled {A = Bool} number_count x false;
    }

pub all_marked-requires : goal.all_marked-requires
all_marked-requires c =
    record { gates_len = ((c.requires.definitions_in []).wide, c.mark_outer-output.ensures.wide) }

pub walk_tokens-walk-requires : goal.walk_tokens-walk-requires
walk_tokens-walk-requires c =
    let a = c.args in
    let f = c.requires.holds_names.0 in
    let h = c.requires.holds_names.1 in
    let o = c.mark_outer-output.ensures in record {
      within = within a.tokens.now.roles.now a.tokens.now.numbers.now a.tokens.now.count a.gates.now f h c.requires.definitions_in;
      output_lt_count = (output_low a.tokens.now.roles.now a.tokens.now.numbers.now a.tokens.now.count a.gates.now f h.0 h.1.tokens o, o.wide);
    }

pub returns-then-all_marked : goal.returns-then-all_marked
returns-then-all_marked c = λ f h placed once.
    let a = c.args in
    none_found a.tokens.now.roles.now a.tokens.now.numbers.now a.tokens.now.count a.gates.now f h.0 h.1.tokens c.mark_outer-output.ensures c.requires.definitions_in (c.all_marked.ensures c.if-all_marked.true) placed

pub returns : goal.returns
returns c = λ f h.
    let a = c.args in
    unbound_found a.tokens.now.roles.now a.tokens.now.numbers.now a.tokens.now.count a.gates.now f h.0 h.1.tokens c.mark_outer-output.ensures c.requires.definitions_in c.walk_tokens-walk.result c.walk_tokens-walk.ensures
