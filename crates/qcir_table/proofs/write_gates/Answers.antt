-- `qcir_table::write_gates` meets its contract. The loop's invariant: what the tokens before token i add is stored.
-- Assumes nothing.
use mathlib.Core.Path.{◌≡◌}
use Prim.Native.Nat.{suc, ◌+◌, ◌-◌}
use native.Mathlib.Omega.{arith}
use Rattle.qcir_table.proofs.Gates.{fits_less, reached_start, token_room, token_listed, reached_token, from_first}
use Rattle.qcir_table.proofs.write_gates.Goals as goal

pub loop-i-init : goal.loop-i-init
loop-i-init c =
    let e : c.args.first - c.args.first ≡ 0 = omega arith in
    rw e (reached_start _ _ _ _ _ _ c.requires.nodes_of)

pub write_token-p-requires : goal.write_token-p-requires
write_token-p-requires c =
    let a = c.args in
    let v = c.loop-i in
    let t = c.loop-i-test.true in
    let f = fits_less a.tokens.now.roles.now a.tokens.now.numbers.now a.first (suc (v.i - a.first)) (a.tokens.now.count - a.first) a.words.now a.list.now (omega arith) (record { words_fit = c.requires.first_in_bounds.0; few_words = c.requires.first_in_bounds.1; list_fits = c.requires.first_in_bounds_2.0; few_entries = c.requires.first_in_bounds_2.1 }) in
    let role = from_first a.tokens.now.roles.now a.first v.i (omega arith) in
    let x = from_first a.tokens.now.numbers.now a.first v.i (omega arith) in record {
      first_le_listed = token_listed _ _ _ _ _ _ _ _ _ _ _ _ v.invariant role x f;
      nodes_len = v.invariant.nodes_are.wide;
      room = token_room _ _ _ _ _ _ _ _ _ _ _ _ v.invariant role x f;
    }

pub loop-i-preserved : goal.loop-i-preserved
loop-i-preserved c =
    let a = c.args in
    let v = c.loop-i in
    let t = c.loop-i-test.true in
    let f = fits_less a.tokens.now.roles.now a.tokens.now.numbers.now a.first (suc (v.i - a.first)) (a.tokens.now.count - a.first) a.words.now a.list.now (omega arith) (record { words_fit = c.requires.first_in_bounds.0; few_words = c.requires.first_in_bounds.1; list_fits = c.requires.first_in_bounds_2.0; few_entries = c.requires.first_in_bounds_2.1 }) in
    let role = from_first a.tokens.now.roles.now a.first v.i (omega arith) in
    let x = from_first a.tokens.now.numbers.now a.first v.i (omega arith) in
    let e : v.i + 1 - a.first ≡ suc (v.i - a.first) = omega arith in
    rw e (reached_token _ _ _ _ _ _ _ _ _ _ _ _ v.invariant role x f _ _ _ _ (omega arith) c.write_token-p.ensures.wrote c.write_token-p.ensures.list_after c.write_token-p.ensures.nodes_after c.write_token-p.auto.words c.write_token-p.auto.list)

pub returns : goal.returns
returns c =
    let v = c.loop-i in
    let e : v.i ≡ c.args.tokens.now.count = omega arith in
    let r = rw e at v.invariant in record {
      words_after = r.words_are;
      list_after = r.list_is;
      nodes_of_2 = r.nodes_are;
      value = r.progress_is;
    }
