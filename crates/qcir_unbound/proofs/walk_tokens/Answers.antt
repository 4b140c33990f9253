-- `qcir_unbound::walk_tokens` meets its contract. The invariant: the steps left lead to where the whole walk ends.
-- Back above the gates, no step changes anything.
-- Assumes nothing.
use mathlib.Core.Path.{◌≡◌, sym, ◌∙◌, ap, subst}
use Prim.Native.Nat.{ℕ, ◌*◌, ◌-◌}
use native.Mathlib.Omega.{arith}
use lib.ListN.{length-replicate}
use Rattle.qcir_tokens.specs.Held.{token_limit}
use Rattle.qcir_unbound.specs.Steps.{tokens_of, state_of, run}
use Rattle.qcir_unbound.proofs.Within.{Low, stands_low, start_low, start_is, step_low, step_fits, back_fits, ended_is, step_taken, run_less, run_none, run_ended}
use Rattle.qcir_unbound.proofs.walk_tokens.Goals as goal

pub overflow_mul-end : goal.overflow_mul-end
overflow_mul-end c = omega (arith, c.requires.within.few)

pub loop-init : goal.loop-init
loop-init c =
    let e = start_is c.args.output c.args.marks.now in
    let all : 2 * c.args.tokens.now.count - 0 ≡ 2 * c.args.tokens.now.count = omega arith in (
      subst (Low c.args.tokens.now.count) (sym e) (start_low _ _ _ c.requires.output_lt_count.0),
      c.requires.output_lt_count.1,
      length-replicate {A = ℕ} token_limit 0,
      rw all (ap (run _ (2 * c.args.tokens.now.count)) e),
    )

pub token_at-token-requires : goal.token_at-token-requires
token_at-token-requires c =
    let h = c.requires.within in record {
      i_in_bounds = stands_low _ _ _ _ c.loop.invariant.0;
      gates_len = h.gates_wide;
    }

pub returns-then-walk-is_above : goal.returns-then-walk-is_above
unfolding state_of
returns-then-walk-is_above c =
    let a = c.args in
    ap (λ u. u.walk)
    (run_ended (tokens_of a.tokens.now.roles.now a.tokens.now.numbers.now a.gates.now) _ (state_of c.loop.walk c.loop.marks c.loop.kept) _ c.token_at-token.ensures (ended_is _ c.loop.walk _ _ c.is_above.ensures c.if-walk-is_above.true) c.loop.invariant.3)

pub take_step-walk-requires : goal.take_step-walk-requires
take_step-walk-requires c =
    let h = c.requires.within in
    let e = c.token_at-token.ensures in record {
      step_fits = step_fits h _ c.loop.walk c.loop.marks c.loop.kept c.loop.invariant.0 e c.loop.invariant.1 c.loop.invariant.2;
      back_fits = back_fits h _ c.loop.walk c.loop.marks c.loop.kept c.loop.invariant.0 e (ended_is _ c.loop.walk _ _ c.is_above.ensures c.if-walk-is_above.false);
    }

pub loop-preserved : goal.loop-preserved
unfolding tokens_of state_of
loop-preserved c =
    let a = c.args in
    let k = c.token_at-token.ensures in
    let e = step_taken (tokens_of a.tokens.now.roles.now a.tokens.now.numbers.now a.gates.now) _ (state_of c.loop.walk c.loop.marks c.loop.kept) _ k (ended_is _ c.loop.walk _ _ c.is_above.ensures c.if-walk-is_above.false) c.take_step-walk.ensures in (
      subst (Low a.tokens.now.count) (sym e) (step_low c.requires.within _ c.loop.invariant.0),
      c.take_step-walk.auto.marks ∙ c.loop.invariant.1,
      c.take_step-walk.auto.kept ∙ c.loop.invariant.2,
      run_less (tokens_of a.tokens.now.roles.now a.tokens.now.numbers.now a.gates.now) _ _ _ _ _ (omega arith) e c.loop.invariant.3,
    )

pub returns : goal.returns
unfolding state_of
returns c = ap (λ u. u.walk) (run_none _ _ _ _ (omega arith) c.loop.invariant.3)
