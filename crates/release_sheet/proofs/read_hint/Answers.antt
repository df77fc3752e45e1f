use Rattle.release_lines.proofs.Reading.{told}
use Rattle.release_sheet.proofs.Answers.{hex_is, hint_is}
use Rattle.release_sheet.proofs.read_hint.Goals as goal

pub put_hex-requires : goal.put_hex-requires
put_hex-requires c =
    let value = c.rest_of_line-value in
    let other = told value.result.now c.as_slice.result.now c.eq.ensures c.as_slice.ensures c.if-eq.false in
    hex_is 64 value.result.now (hint_is value.result.now (rw value.ensures c.requires.1) other)

pub returns : goal.returns
returns c =
    let value = c.rest_of_line-value in
    let other = told value.result.now c.as_slice.result.now c.eq.ensures c.as_slice.ensures c.if-eq.false in
    rw (← value.ensures) (other, c.put_hex.ensures)
