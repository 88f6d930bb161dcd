use Rattle.std.proofs.Common.{ap, ◌∙◌}
use Rattle.std.specs.Prelude.{Some}
use Rattle.ver_ast.proofs.TokensFound.{tokens_found}
use Rattle.ver_ast.proofs.TokensTaken.{spelled_tokens}
use Rattle.ver_ast.proofs.laws.tokens_are_read_step_by_step.Goals as goal

pub returns : goal.returns
returns c bytes ts = (tokens_found bytes ts, λ h. spelled_tokens bytes h.0 h.1 ∙ ap Some h.2)
