use Rattle.std.proofs.Common.{◌≡◌, ◌∙◌, sym, ap, refl, option_copied, arith, rules}
use Rattle.std.proofs.lemmas.Option.{none-some, same_Some}
use Rattle.fir_names.specs.declared.declaration.Component.TheVariants.{Instance}
use Rattle.fir_names.specs.declared.declaration.Declaration.{Declaration as Entry}
use Rattle.fir_resolve.proofs.FirstInstances.{none_more, none_left, first_here}
use Rattle.fir_resolve.proofs.recursion.first_instance.Goals as goal

pub returns-then-eq : goal.returns-then-eq
returns-then-eq c =
    let same : c.in-Some.declaration.now.component ≡ Instance c.args.other = search rules in
    first_here c.args.table.now c.args.other c.loop-position.position c.in-Some.declaration.now c.in-Some.declaration.now.place c.loop-position.invariant
    (sym c.at.ensures ∙ ap option_copied c.in-Some.is) same refl

pub loop-position-preserved-in_default : goal.loop-position-preserved-in_default
loop-position-preserved-in_default c =
    none_more c.args.table.now c.args.other c.loop-position.position c.loop-position.invariant (record {
      than = λ e is same. none-some e (ap option_copied (sym c.in_default.is) ∙ c.at.ensures ∙ is);
    })

pub loop-position-preserved : goal.loop-position-preserved
loop-position-preserved c =
    let differs : c.in-Some.declaration.now.component ≡ Instance c.args.other → ⊥ = search rules in
    none_more c.args.table.now c.args.other c.loop-position.position c.loop-position.invariant (record {
      than = λ e is same.
          let found = same_Some e c.in-Some.declaration.now (sym is ∙ sym c.at.ensures ∙ ap option_copied c.in-Some.is) in
          differs (ap (λ (x : Entry). x.component) (sym found) ∙ same);
    })

pub unreachable-requires : goal.unreachable-requires
unreachable-requires c =
    none_left c.args.table.now c.args.other c.loop-position.position c.requires c.loop-position.invariant (omega (arith, c.len-position-end.ensures, c.loop-position-test.false))
