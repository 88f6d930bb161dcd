use Rattle.fir_design.proofs.FineScenes.{fine_scene}
use Rattle.fir_design_faults.proofs.ClockChains.{has_by_number, has_by_path}
use Rattle.fir_design_faults.proofs.clock_laws.clocks_have_names_by_path.Goals as goal

pub returns : goal.returns
returns c circuit s x names types i leaf =
    let fine = fine_scene circuit s names types i in
    let reading = c.terms_read_as_expressions.ensures circuit s names types i in
    let roles = (c.views_have_roles.ensures circuit s names types i).0 in
    record {
      by_path = λ root h. has_by_path s fine reading roles x root leaf h;
      by_number = λ q h. has_by_number s fine reading roles x q leaf.within h;
    }
