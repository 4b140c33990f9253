-- `qcir_reader::judge_names` meets its contract: the three searches find what the file's verdict names.
-- Assumes nothing.
use Rattle.qcir_reader.proofs.judge_names.Goals as goal

pub first_misplaced-place-requires : goal.first_misplaced-place-requires
first_misplaced-place-requires c =
    record { definitions_in = c.requires.definitions_in }

pub lowest_unbound-variable-requires : goal.lowest_unbound-variable-requires
lowest_unbound-variable-requires c =
    let p = c.requires in record {
      holds_names = (p.holds_file.0, (c.args.tokens.now.positions.now, p.holds_file.1));
      definitions_in = p.definitions_in;
    }

pub returns : goal.returns
returns c =
    λ f h. let ps = c.args.tokens.now.positions.now in
    c.name_verdict.ensures f (c.first_misplaced-place.ensures f h) (c.lowest_misused-gate.ensures f (ps, h)) (c.lowest_unbound-variable.ensures f (ps, h))
