use Rattle.osb_update_driver.proofs.Rows.{answers_end, answers_first, keeps_end, keeps_finish, keeps_first}
use Rattle.osb_update_driver.proofs.Rows.{keeps_request, takes_up_all}
use Rattle.osb_update_driver.proofs.laws.keeps_rows.Goals as goal

pub returns-clause-first : goal.returns-clause-first
returns-clause-first c = keeps_first

pub returns-clause-end : goal.returns-clause-end
returns-clause-end c = keeps_end

pub returns-clause-finish : goal.returns-clause-finish
returns-clause-finish c = keeps_finish

pub returns-clause-one : goal.returns-clause-one
returns-clause-one c = takes_up_all

pub returns-clause-request : goal.returns-clause-request
returns-clause-request c = keeps_request

pub returns-clause-answers_first : goal.returns-clause-answers_first
returns-clause-answers_first c = answers_first

pub returns-clause-answers_end : goal.returns-clause-answers_end
returns-clause-answers_end c = answers_end
