use Rattle.vsd_answers.proofs.Loads.{last_is_latest, latest_is_last, loads_none, none_loaded}
use Rattle.vsd_answers.proofs.laws.latest_load_law.Goals as goal

pub returns-clause-found : goal.returns-clause-found
returns-clause-found c = λ v root ops. (latest_is_last v ops root, last_is_latest v ops root)

pub returns-clause-none : goal.returns-clause-none
returns-clause-none c = λ v ops. (loads_none v ops, none_loaded v ops)
