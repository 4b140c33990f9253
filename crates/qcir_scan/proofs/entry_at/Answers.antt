-- `qcir_scan::entry_at` meets its contract: the index is within the table. The code's tables are those of specs/Tables.antt: both are
-- computed here.
-- Assumes nothing.
use mathlib.Core.List.{flat_map}
use mathlib.Core.Path.{refl}
use Rattle.lists.specs.Choice.{pick}
use Rattle.lists.specs.Members.{mem, place}
use Rattle.lists.specs.Parts.{numbers}
use Rattle.qcir.specs.Spelling.{is_space, is_digit}
use Rattle.qcir_tokens.specs.Tokens.{token}
use Rattle.qcir_spelling.specs.Machine.{row, arrow, points, row_at, arrow_of, some_begins, same, begins, move, move_name, emit, read_word, end_line, read_digit, between, step_at}
use Rattle.qcir_scan.specs.Places.{places, code, index_in, number_of}
use Rattle.qcir_scan.specs.Tables.{samples, sample_of, columns, trial, first_role, done, entry_for, moves, Tables}
use Prim.Native.Nat.{◌<◌}
use borrow.Author.Rules.{rules}
use Rattle.qcir_scan.specs.declared.table.TheConstants.{COLUMNS, MOVES}
use Rattle.qcir_scan.proofs.Columns.{index_low, entry_is}
use Rattle.qcir_scan.proofs.entry_at.Goals as goal

pub bounds-byte-2 : goal.bounds-byte-2
unfolding moves columns entry_for sample_of samples mem place numbers is_space is_digit places number_of index_in code trial first_role done step_at between end_line read_digit read_word move move_name emit arrow_of some_begins same begins pick row arrow points row_at token flat_map
bounds-byte-2 c =
    let w : c.args.byte < 256 = search rules in
    let t : Tables MOVES COLUMNS = record { moves_are = refl; columns_are = refl } in
    index_low c.args.place c.requires c.args.byte w t

pub returns : goal.returns
unfolding moves columns entry_for sample_of samples mem place numbers is_space is_digit places number_of index_in code trial first_role done step_at between end_line read_digit read_word move move_name emit arrow_of some_begins same begins pick row arrow points row_at token flat_map
returns c =
    let w : c.args.byte < 256 = search rules in
    let t : Tables MOVES COLUMNS = record { moves_are = refl; columns_are = refl } in
    entry_is c.args.place c.requires c.args.byte w t
