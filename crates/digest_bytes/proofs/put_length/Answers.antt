use Rattle.std.proofs.Common.{◌++◌, take, drop, ap₂, ap, ◌∙◌, arith, append-nil, length-drop}
use Rattle.std.proofs.lemmas.List.{drop_all}
use Rattle.digest_fips180.proofs.Bytes.{bytes_are}
use Rattle.digest_bytes.proofs.put_length.Goals as goal

pub returns : goal.returns
returns c =
    let b = c.args.b.now in
    ap₂ (λ x y. take 56 b ++ (x ++ y)) (c.copy_from_slice.ensures.after ∙ c.to_be_bytes.ensures ∙ bytes_are 8 c.args.bits)
    (drop_all _ (drop 56 b) (omega (arith, length-drop 56 b)))
    ∙ ap (λ x. take 56 b ++ x) (append-nil _)
