use Rattle.outcome_laws.proofs.EndsExist.{check_ends, drill_ends, site_ends, list_ends, scope_ends, scopes_end}
use Rattle.outcome_laws.proofs.RecheckExists.{recheck_ends}
use Rattle.outcome_laws.proofs.SamenessExists.{same_ends}
use Rattle.outcome_laws.proofs.WalksCounted.{ask_ends}
use Rattle.outcome_laws.proofs.laws.outcomes_exist.Goals as goal

pub returns : goal.returns
returns c = record { check = check_ends; drill = drill_ends; site = site_ends; classes = list_ends; ask = ask_ends; same = λ limit two. same_ends two limit; recheck = recheck_ends; scope = λ limit name sites config is servers. scope_ends limit name sites config is servers; scopes = λ limit names config are servers. scopes_end limit names config are servers }
