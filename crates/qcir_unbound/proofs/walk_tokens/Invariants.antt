-- `qcir_unbound::walk_tokens` meets its contract. The invariant: the steps left lead to where the whole walk ends.
-- Back above the gates, no step changes anything.
-- Assumes nothing.
use mathlib.Core.Path.{◌≡◌}
use Prim.Native.Nat.{◌*◌, ◌-◌}
use lib.ListN.{length}
use Rattle.qcir_tokens.specs.Held.{number_count, token_limit}
use Rattle.qcir_unbound.specs.Steps.{tokens_of, state_of, start, run}
use Rattle.qcir_unbound.proofs.Within.{Low}
use Rattle.qcir_unbound.proofs.walk_tokens.Given as goal

abbrev pub invariant-loop : goal.invariant-loop
invariant-loop l = Low l.tokens.count (state_of l.walk l.marks l.kept)
    × (length l.marks ≡ number_count)
    × (length l.kept ≡ token_limit)
    × (run (tokens_of l.tokens.roles.now l.tokens.numbers.now l.gates) (2 * l.tokens.count - l.counter) (state_of l.walk l.marks l.kept) ≡ run (tokens_of l.tokens.roles.now l.tokens.numbers.now l.gates) (2 * l.tokens.count) (start l.output l.initial.marks))
