use Rattle.std.proofs.Common.{ℕ, ◌<◌, ◌∙◌, List, length, get_or, map, sym, ap, subst}
use Rattle.std.specs.List.{AllByRecursion}
use Rattle.std.proofs.lemmas.List.{length-map}
use Rattle.fir_ast.specs.declared.circuit.Module.{Module}
use Rattle.fir_ast.specs.working.Views.{circuit_of, module_of}
use Rattle.fir_meaning.specs.NameGroups.{IsRecursive, recursive}
use Rattle.fir_names.specs.working.Ordered.{HasInstance, IsFirstInstance, name_at}
use Rattle.fir_resolve.proofs.ModuleCircles.{first_within, first_has, circle_within, circle_shows}
use Rattle.fir_resolve.proofs.recursion.recursion.Goals as goal

pub table_at-requires : goal.table_at-requires
table_at-requires c =
    first_within (circuit_of c.args.circuit.now) c.requires.names c.args.tables.now c.requires.tabulated c.args.circle.now c.requires.circle

pub first_instance-place-requires : goal.first_instance-place-requires
first_instance-place-requires c =
    subst (HasInstance c.table_at.result.now) (sym c.second.ensures)
    (first_has (circuit_of c.args.circuit.now) c.requires.names c.args.tables.now c.requires.tabulated c.args.circle.now c.requires.circle
    c.table_at.result.now c.table_at.ensures)

pub names_at-requires : goal.names_at-requires
names_at-requires c =
    let long = length-map c.args.circuit.now.modules.items module_of ∙ ap (λ (ms : List Module). length ms) (sym c.deref.ensures.value) in
    subst (λ (n : ℕ). AllByRecursion (λ k. k < n) c.args.circle.now) long
    (circle_within (circuit_of c.args.circuit.now) c.requires.names c.args.tables.now c.requires.tabulated c.args.circle.now c.requires.circle)

pub returns : goal.returns
returns c =
    let tree = circuit_of c.args.circuit.now in
    let table = c.table_at.result.now in
    let place = c.first_instance-place.result in
    let names = c.in_ok-walk.ensures ∙ ap (λ (ms : List Module). map (name_at (map module_of ms)) c.args.circle.now) c.deref.ensures.value in
    let first = c.in_ok-first.ensures in
    subst (λ (walk : List (List ℕ)). IsRecursive tree (recursive place walk)) (sym (c.from_vec.ensures ∙ c.in_ok-push.ensures.items))
    (circle_shows tree c.requires.names c.args.tables.now c.requires.tabulated c.args.circle.now c.requires.circle table c.table_at.ensures place
    (subst (λ (k : ℕ). IsFirstInstance table k place) c.second.ensures c.first_instance-place.ensures) c.in_ok-walk.walk.items names c.in_ok-first.first
    (first ∙ c.index.ensures ∙ ap (λ (d : List ℕ). get_or c.in_ok-walk.walk.items 0 d) (sym first)))
