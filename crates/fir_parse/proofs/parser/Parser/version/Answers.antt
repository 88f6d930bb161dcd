use Rattle.std.proofs.Common.{◌∙◌}
use Rattle.fir_parse.specs.working.CircuitRules.{version_plan}
use Rattle.fir_parse.specs.working.PartPlans.{behind_major}
use Rattle.fir_parse.proofs.Plans.{reads_behind}
use Rattle.fir_parse.proofs.Versions.{version_kept}
use Rattle.fir_parse.proofs.parser.Parser.version.Goals as goal

pub returns : goal.returns
returns c =
    reads_behind (λ k. version_plan k) (λ k. behind_major k) (λ u. u) _ _ _ c.behind_major.result
    (λ end k. c.in_ok-word.ensures.reads end _ ∙ c.in_ok-major.ensures.reads end _ ∙ version_kept c.in_ok-major.major.place c.in_ok-major.major.number (behind_major k) end _ c.in_ok-known_version.ensures.known)
    c.behind_major.ensures
