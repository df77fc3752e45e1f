use Rattle.std.proofs.Common.{rules, ◌≡◌, ◌∙◌, arith}
use Rattle.std.proofs.lemmas.Slice.{overwrites}
use Rattle.digest_bytes.proofs.Words.{words_more, words_all}
use Rattle.digest_bytes.proofs.words_to_bytes.Goals as goal

pub loop-i-preserved : goal.loop-i-preserved
loop-i-preserved c =
    let l = c.loop-i in (
      search (rules, overwrites),
      words_more c.args.h l.r l.i _ l.invariant.1 (omega arith) (c.copy_from_slice.ensures.after ∙ c.to_be_bytes.ensures),
    )

pub returns : goal.returns
returns c =
    words_all c.args.h c.loop-i.r c.loop-i.invariant.0 (let e : c.loop-i.i ≡ 8 = omega arith in rw e at c.loop-i.invariant.1)
