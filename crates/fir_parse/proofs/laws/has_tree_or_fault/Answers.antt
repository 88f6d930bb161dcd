use Rattle.fir_parse.proofs.TextLaws.{tree_or_fault, not_both}
use Rattle.fir_parse.proofs.laws.has_tree_or_fault.Goals as goal

pub returns : goal.returns
returns c bytes = (
  tree_or_fault c.lexed_form_by_form.ensures c.faults_form_by_form.ensures bytes,
  not_both c.lexed_form_by_form.ensures c.faults_form_by_form.ensures bytes,
)
