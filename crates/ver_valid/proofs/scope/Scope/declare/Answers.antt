use Rattle.std.proofs.Common.{◌∙◌, sym}
use Rattle.ver_valid.proofs.GrownScopes.{fresh_name, used_name, told_more}
use Rattle.ver_valid.proofs.scope.Scope.declare.Goals as goal

pub returns-then-has-clause-fresh : goal.returns-then-has-clause-fresh
returns-then-has-clause-fresh c = λ es t. used_name c.args.self.now c.args.name.now es t (sym c.has.ensures ∙ c.if-has.true)

pub returns-clause-fresh : goal.returns-clause-fresh
returns-clause-fresh c = λ es t. fresh_name c.args.self.now c.args.name.now es t (sym c.has.ensures ∙ c.if-has.false)

pub returns-clause-told : goal.returns-clause-told
returns-clause-told c =
    λ es t narrow. told_more c.args.self.now (record { names = c.insert.new.self }) es c.args.name.now c.args.declared _ c.in_ok-insert.ensures.entries
    (c.in_ok-name.ensures.items ∙ c.as_bytes.ensures) (sym c.has.ensures ∙ c.if-has.false) t narrow
