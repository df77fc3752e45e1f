use Rattle.listing.proofs.Said.{lists_fields, lists_refusal}
use borrow.Author.Rules.{rules}
use Rattle.listing.proofs.list.Goals as goal

pub returns-in-Ok : goal.returns-in-Ok
returns-in-Ok c =
    let t = c.put_fields.ensures in
    lists_fields c.args.s.now c.in-Ok.ensures t.upper_bound (search rules) t.puts

pub returns-in-Err : goal.returns-in-Err
returns-in-Err c =
    let t = c.put_refusal.ensures in
    lists_refusal c.args.s.now c.in-Err.refusal c.in-Err.ensures c.refused-refused.ensures t.upper_bound (search rules) t.puts
