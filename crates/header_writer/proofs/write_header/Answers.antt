use native.Mathlib.Omega.{arith}
use Rattle.header_writer.proofs.Putting.{length_required, length_hint, puts_header, written}
use Rattle.header_writer.proofs.write_header.Goals as goal

pub put_hint-end_at-requires : goal.put_hint-end_at-requires
put_hint-end_at-requires c =
    omega (arith, length_required c.args.v (omega arith) (omega arith), c.put_front-tags_at.ensures.behind, c.put_required-hint_at.ensures.behind)

pub put_end-requires : goal.put_end-requires
put_end-requires c =
    let required = length_required c.args.v (omega arith) (omega arith) in
    let hint = length_hint c.args.v.has_hint c.args.v.hint (omega arith) in
    omega (arith, required, hint, c.put_front-tags_at.ensures.behind, c.put_required-hint_at.ensures.behind, c.put_hint-end_at.ensures.behind)

pub returns : goal.returns
returns c =
    let room = c.if-out-lt-HEADER_LENGTH.false in
    let required = length_required c.args.v (omega arith) (omega arith) in
    let hint = length_hint c.args.v.has_hint c.args.v.hint (omega arith) in
    written c.args.v c.args.out.now room c.if-v-eq0.false
    (puts_header c.args.v room required hint c.put_front-tags_at.ensures c.put_required-hint_at.ensures c.put_hint-end_at.ensures c.put_end.ensures)
