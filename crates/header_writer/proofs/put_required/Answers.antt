use mathlib.Core.Path.{refl}
use Rattle.header_writer.proofs.Putting.{puts_required}
use Rattle.header_writer.proofs.put_required.Goals as goal

pub returns : goal.returns
returns c =
    puts_required c.args.v c.to_le_bytes.ensures c.to_le_bytes-2.ensures c.to_le_bytes-3.ensures c.put_tag-at.ensures c.put_tag-at-2.ensures c.put_tag-at-3.ensures c.put_tag-at-4.ensures c.put_tag.ensures refl refl refl refl refl
