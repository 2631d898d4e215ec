-- `exports::chains_search_finish` meets its contract: the reply of `finish_search`, as a number, and demand 3 of it (`finish-number`). Assumes nothing.
use Rattle.exports.proofs.Searches.{finish-fits, finish-number}
use Rattle.exports.proofs.chains_search_finish.Goals as goal

pub find_number-requires : goal.find_number-requires
find_number-requires c = finish-fits c.finish_search.ensures

pub returns : goal.returns
returns c = finish-number _ _ _ _ _ c.finish_search.ensures _ c.find_number.ensures
