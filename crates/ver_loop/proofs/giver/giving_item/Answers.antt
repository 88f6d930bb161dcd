use Rattle.std.proofs.Common.{subst, arith}
use Rattle.std.specs.List.{AllByRecursion}
use Rattle.std.proofs.lemmas.List.{take_all}
use Rattle.fir_base.specs.Lists.{In}
use Rattle.fir_base.proofs.Each.{all_at}
use Rattle.ver_ast.specs.declared.tree.Item.{Item}
use Rattle.ver_loop.specs.Loops.{item_gives}
use Rattle.ver_loop.proofs.giver.giving_item.Goals as goal

pub returns : goal.returns
returns c =
    let none = λ (i : Item). In (item_gives i) c.args.name.now → ⊥ in
    λ i m. all_at none c.args.items.now (subst (AllByRecursion none) (take_all c.loop-number.number c.args.items.now (omega (arith, c.loop-number-test.false))) c.loop-number.invariant) i m
