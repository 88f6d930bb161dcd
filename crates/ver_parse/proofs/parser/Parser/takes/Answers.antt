use Rattle.std.proofs.Common.{sym, ◌∙◌, subst}
use Rattle.ver_parse.specs.working.Fixed.{fixed_token, TriesOk}
use Rattle.ver_parse.proofs.Heads.{tried}
use Rattle.ver_parse.proofs.parser.Parser.takes.Goals as goal

pub returns-then-found-clause-tries : goal.returns-then-found-clause-tries
returns-then-found-clause-tries c =
    let g = fixed_token c.args.fixed in
    subst (λ b. TriesOk g c.args.self.now c.pass.new.self b) (sym c.if-found.true)
    (tried g c.in_ok-next.ensures c.pass.ensures.rest c.pass.ensures.depth c.requires (sym (c.is_fixed-found.ensures _ c.in_ok-next.ensures.seen) ∙ c.if-found.true))
