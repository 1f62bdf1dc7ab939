use Rattle.mrjob_c.proofs.charges.mrjob_check_places.Goals as goal

pub returns-in-Err-clause-told : goal.returns-in-Err-clause-told
returns-in-Err-clause-told c = λ _. record {
  fault = c.in-Err.fault;
  number = c.status_of.ensures.number;
  is_so = rw c.rows.ensures at c.in-Err.ensures.told;
}
