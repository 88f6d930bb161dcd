use Rattle.std.proofs.Common.{◌≡◌, ◌∷◌, [], refl, ap, ap₂, sym, ◌∙◌}
use Rattle.std.specs.Prelude.{option_map}
use Rattle.std.proofs.lemmas.Result.{on_ok_weaker}
use Rattle.fir_ast.specs.working.Views.{named_of}
use Rattle.fir_meaning.specs.Components as component
use Rattle.fir_meaning.specs.TypeGroup.{scope_at}
use Rattle.fir_meaning.specs.Visibility.{with_declaration}
use Rattle.fir_ground.specs.working.DeclarationDrivers.{driver_seen, register_terms, reset_seen, reset_terms}
use Rattle.fir_meaning.specs.working.Leafed.{first_term, terms}
use Rattle.fir_meaning.specs.working.LeafedModules.{register_role}
use Rattle.fir_meaning.specs.ModuleScenes.{scope_before}
use Rattle.fir_meaning.specs.working.LeafModules.{register}
use Rattle.fir_leaf.specs.working.Nodes.{node_term}
use Rattle.fir_leaf_table.specs.declared.giver.Giver.TheVariants as giver
use Rattle.fir_leaf_table.specs.declared.places.Places.TheVariants as places
use Rattle.fir_leaf_table.proofs.DeclarationWalks.{leaves_come, ready_by}
use Rattle.fir_leaf_table.proofs.NextDrivers.{register_driver, takes_none, takes_rest, takes_some}
use Rattle.fir_leaf_table.proofs.registers.in_register.Goals as goal

pub returns-in_default : goal.returns-in_default
returns-in_default c = λ place begins t e r circuit s before nodes rest enters declared.
    absurd (takes_none nodes _ rest _ c.next_driver.new.self (ap (option_map (λ d. d.now)) c.in_default.is)
    (c.next_driver.ensures.takes nodes _ rest enters.drivers))

pub returns-in_default-driver : goal.returns-in_default-driver
returns-in_default-driver c = λ place begins t e r circuit s before nodes rest enters declared.
    absurd (register_driver nodes c.in-Some.driver.now _ _
    (takes_some nodes _ rest _ c.in-Some.driver.now c.next_driver.new.self (ap (option_map (λ d. d.now)) c.in-Some.is)
    (c.next_driver.ensures.takes nodes _ rest enters.drivers))
    c.in_default-driver.not-Register)

pub returns : goal.returns
returns c = λ place begins t e r circuit s before nodes rest enters declared.
    let f = c.args.frame.now in
    let n = named_of c.args.ident.now in
    let part = component.register t in
    let after = with_declaration before n part in
    let old = c.args.walk.now in
    let mid = c.next_driver.new.self in
    let taken = c.next_driver.ensures.takes nodes _ rest enters.drivers in
    let meant = register_terms (first_term (terms (scope_at circuit.modules before) e)) (option_map (reset_terms (scope_at circuit.modules after)) r) in
    let own = c.in-Register.register in
    let clock = own.clock in
    let reset = c.reset_giver-reset.result in
    let driver : driver_seen nodes c.in-Some.driver.now ≡ meant =
    takes_some nodes meant rest _ c.in-Some.driver.now mid (ap (option_map (λ d. d.now)) c.in-Some.is) taken in
    let same : register_terms (node_term nodes clock) (option_map (reset_seen nodes) own.reset)
    ≡ register_terms (first_term (terms (scope_before s before) e)) (option_map (reset_terms (scope_before s after)) r) =
    ap (driver_seen nodes) (sym c.in-Register.is) ∙ driver
    ∙ ap (λ ms. register_terms (first_term (terms (scope_at ms before) e)) (option_map (reset_terms (scope_at ms after)) r)) (sym enters.frames.modules) in
    let same_clock : node_term nodes clock ≡ first_term (terms (scope_before s before) e) = cc in
    let same_reset : option_map (reset_seen nodes) own.reset ≡ option_map (reset_terms (scope_before s after)) r = cc in
    on_ok_weaker c.push_leaves.result
    (λ pushes.
    leaves_come f circuit s before n part nodes (meant ∷ rest) rest c.args.depth (places.Own n.place) (giver.Register clock reset) (λ l. n.place)
    (register_role s before n t e r) [] [] old mid c.push_leaves.new.walk enters declared
    (ready_by part nodes rest old mid refl c.next_driver.ensures.stays (takes_rest nodes meant rest _ mid taken))
    pushes
    (λ k l there. record {
      place = refl;
      role = ap₂ register same_clock (c.reset_giver-reset.ensures circuit s after nodes r enters.frames declared same_reset k);
    }))
    c.push_leaves.ensures
