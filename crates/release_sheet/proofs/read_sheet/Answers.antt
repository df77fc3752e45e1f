use Rattle.std.proofs.lemmas.Result.{err_from_is_err_and}
use Rattle.release_sheet.proofs.Answers.{fit, taken_in, turned_on}
use Rattle.release_sheet.proofs.read_sheet.Goals as goal

pub returns-in_err-places : goal.returns-in_err-places
returns-in_err-places c =
    let p = err_from_is_err_and c.from_residual.result c.from_residual.ensures.1 in
    rw (p.1, p.2) (turned_on c.args.text.now c.find_values.ensures c.in_err-places.was)

pub read_values-requires : goal.read_values-requires
read_values-requires c = fit c.args.text.now c.in_ok-places.places c.find_values.ensures c.in_ok-places.was

pub returns : goal.returns
returns c = taken_in c.args.text.now c.in_ok-places.places c.find_values.ensures c.in_ok-places.was c.read_values.ensures
