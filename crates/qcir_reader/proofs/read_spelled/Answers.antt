-- `qcir_reader::read_spelled` meets its contract.
-- Assumes nothing.
use Rattle.refusals.specs.Verdict.{refusal}
use Rattle.qcir_spelling.proofs.Spelling.{sound}
use Rattle.qcir_reader.proofs.Stages.{refuses}
use Rattle.qcir_reader.proofs.Texts.{misspelled_reads, spelled_reads, holds_file}
use native.Mathlib.Omega.{arith}
use Rattle.qcir_reader.proofs.read_spelled.Goals as goal

pub read_tokens-requires : goal.read_tokens-requires
read_tokens-requires c =
    let s = c.in-Ok.ensures in
    let f = sound 65535 c.args.text.now s.accepted in
    (f.file, holds_file c.args.text.now _ _ _ _ f.file f.spells s.tokens_are (record { roles_hold = omega (arith, s.few, c.scan.auto.roles); numbers_hold = omega (arith, s.few, c.scan.auto.numbers); positions_hold = omega (arith, s.few, c.scan.auto.positions) }) s.few)

pub returns-in-Ok : goal.returns-in-Ok
returns-in-Ok c =
    let s = c.in-Ok.ensures in
    let f = sound 65535 c.args.text.now s.accepted in
    let held = holds_file c.args.text.now _ _ _ _ f.file f.spells s.tokens_are (record { roles_hold = omega (arith, s.few, c.scan.auto.roles); numbers_hold = omega (arith, s.few, c.scan.auto.numbers); positions_hold = omega (arith, s.few, c.scan.auto.positions) }) s.few in
    spelled_reads c.args.text.now c.args.words.now c.args.list.now _ _ _ f.file c.requires.text_len_bound f.spells (c.read_tokens.ensures f.file held)

pub returns-in-Err : goal.returns-in-Err
returns-in-Err c =
    let s = c.in-Err.ensures in
    misspelled_reads c.args.text.now c.args.words.now c.args.list.now _ _ c.requires.text_len_bound s.refused s.position_is (refuses _ c.refusal.result (refusal 10 c.in-Err.position) c.refusal.ensures c.refused.ensures)
