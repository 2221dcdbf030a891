use Rattle.hy_lasso.proofs.OneForm.{one-form}
use Rattle.hy_lasso.proofs.laws.one_normal_form.Goals as goal

pub returns : goal.returns
returns c = one-form
