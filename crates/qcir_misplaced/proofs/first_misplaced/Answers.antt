-- `qcir_misplaced::first_misplaced` meets its contract: what the pass finds is the lowest of the places.
-- Assumes nothing.
use mathlib.Core.List.{[]}
use mathlib.Core.Path.{◌∙◌}
use lib.ListN.{replicate}
use borrow.Author.Rules.{rules}
use Rattle.lists.proofs.Stores.{get_or-filled}
use Rattle.qcir_tokens.specs.Held.{tokens_from}
use Rattle.qcir_misplaced.proofs.Misplaced.{first_misplaced}
use Rattle.qcir_misplaced.proofs.first_misplaced.Goals as goal

pub first_fault-requires : goal.first_fault-requires
first_fault-requires c = record { gates_len = ((c.requires.definitions_in []).wide, search rules) }

pub returns : goal.returns
returns c =
    λ f h. let a = c.args in
    c.first_fault.ensures
    ∙ first_misplaced a.gates.now (replicate 65536 0) (tokens_from a.tokens.now.roles.now a.tokens.now.numbers.now a.tokens.now.positions.now 0 a.tokens.now.count) (c.requires.definitions_in a.tokens.now.positions.now)
    (λ x. get_or-filled 65536 x 0) f h.tokens h.ordered
