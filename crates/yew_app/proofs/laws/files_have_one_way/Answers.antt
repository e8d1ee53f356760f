use Rattle.yew_app.proofs.OneWays.{job-one_way}
use Rattle.yew_app.proofs.laws.files_have_one_way.Goals as goal

pub returns : goal.returns
returns c = λ plan. job-one_way c.file_laws.ensures c.file_laws-2.ensures c.file_laws-3.ensures c.file_laws-4.ensures plan.job plan.files plan
