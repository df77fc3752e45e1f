use mathlib.Core.Path.{◌≡◌, sym, ap, ◌∙◌}
use native.Mathlib.Omega.{arith}
use lib.ListN.{length, replicate}
use lib.Seq.{length-take-le}
use Rattle.header_reader.specs.declared.Header.{Header}
use Rattle.header_writer.specs.Writing.{write_header}
use Rattle.release_header.specs.Making.{header_with}
use Rattle.release_header.proofs.Answers.{too_short, empty, too_large, made, never, twice}
use Rattle.release_header.proofs.make_header.Goals as goal
use Rattle.release_header.proofs.make_header.Goals.{then-size-eq0-via-then-size-eq0, then-size-eq0-via-else-size-eq0+then-size-gt-LARGEST}

pub returns-then-out-lt-HEADER_LENGTH : goal.returns-then-out-lt-HEADER_LENGTH
returns-then-out-lt-HEADER_LENGTH c = too_short c.args.v c.args.firmware.now c.args.out.now c.if-out-lt-HEADER_LENGTH.true

pub returns-then-size-eq0 : goal.returns-then-size-eq0
returns-then-size-eq0 c =
    let room = c.if-out-lt-HEADER_LENGTH.false in
    elim c.then-size-eq0.branch [
      | then-size-eq0-via-then-size-eq0 w ↦ empty c.args.v c.args.firmware.now c.args.out.now room w.if-size-eq0.true
      | then-size-eq0-via-else-size-eq0+then-size-gt-LARGEST w ↦ too_large c.args.v c.args.firmware.now c.args.out.now room (omega arith)
    ]

pub returns-in_err-write_header : goal.returns-in_err-write_header
returns-in_err-write_header c =
    let first : c.header_with.result ≡ header_with c.args.v c.args.firmware.now (replicate 32 0) = c.header_with.ensures in
    absurd (never _ c.args.out.now c.if-out-lt-HEADER_LENGTH.false (λ e. omega (arith, ap (λ (h : Header). h.size) first)) (rw c.in_err-write_header.was at c.write_header.ensures))

pub slice_bounds-digest_of_two-end-2 : goal.slice_bounds-digest_of_two-end-2
slice_bounds-digest_of_two-end-2 c = sym (length-take-le _ c.write_header.new.out (omega arith))

pub returns : goal.returns
returns c =
    let v = c.args.v in
    let f = c.args.firmware.now in
    let out = c.args.out.now in
    let signature : length v.signature ≡ 64 = omega arith in
    let hint : length v.hint ≡ 32 = omega arith in
    let first : c.header_with.result ≡ header_with v f (replicate 32 0) = c.header_with.ensures in
    let second : c.header_with-2.result ≡ header_with v f c.digest_of_two-digest.result = c.header_with-2.ensures in
    made v f out c.if-out-lt-HEADER_LENGTH.false (λ e. omega arith) (omega arith)
    (twice v f out c.if-out-lt-HEADER_LENGTH.false (λ e. omega arith) signature hint
    (c.write_header.ensures ∙ ap (λ (h : Header). write_header h out) first)
    c.digest_of_two-digest.ensures
    (c.write_header-2.ensures ∙ ap (λ (h : Header). write_header h c.write_header.new.out) second))
