use Rattle.std.proofs.Common.{◌∙◌}
use Rattle.release_sheet.proofs.Answers.{hint_told, all_read}
use Rattle.release_sheet.proofs.read_values.Goals as goal

pub returns : goal.returns
returns c =
    let hint = hint_told _ _ c.read_hint-hint.ensures in
    all_read c.requires c.read_number.ensures.0 c.read_number-2.ensures.0 c.read_signature.ensures c.read_number-3.ensures.0 (c.is_some.ensures ∙ hint.0) (c.unwrap_or.ensures ∙ hint.1)
