use Rattle.std.proofs.Common.{map, subst, sym}
use Rattle.std.proofs.lemmas.Result.{on_ok_weaker}
use Rattle.fir_ast.specs.working.Views.{memory_part_of, named_of}
use Rattle.fir_meaning.specs.Components.{memory}
use Rattle.fir_meaning.specs.MemoryTypes.{memory_bundle}
use Rattle.fir_meaning.specs.TypeGroup.{scope_at}
use Rattle.fir_meaning.specs.SizedMemories.{as_written}
use Rattle.fir_width.specs.working.Sides.{IsSide}
use Rattle.fir_infer_widths.specs.working.SpotFaults.{IsSpot}
use Rattle.fir_infer_widths.specs.working.Spots.{of_component}
use Rattle.fir_infer_widths.specs.working.Walks.{Declares, types_in}
use Rattle.fir_infer_widths.proofs.DeclarationWalks.{memory_has, own_side, spot_comes}
use Rattle.fir_infer_widths.proofs.statements.in_memory.Goals as goal

pub returns : goal.returns
returns c = λ place k m before meant rules rest enters begins legal.
    let g = c.args.ground.now in
    let x = c.args.memory.now in
    let n = named_of x.ident in
    let parts = map memory_part_of x.fields.items in
    let t = memory_bundle n.place parts legal.word_type legal.words in
    let has = memory_has m.modules (scope_at m.modules before) n parts legal in
    let declares : Declares k g m before n (memory parts) t meant rules rest c.args.walk.now = record { enters = enters; begins = begins; is = has } in
    let own = own_side k g m before n (memory parts) t meant rules rest c.args.walk.now declares in
    let at = c.declare-own.ensures _ own.found own.first enters.declared own.at own.from in
    let side = subst (λ o. IsSide (types_in g) meant (record { found = own.found; first = own.first }) (as_written o)) has own.is in
    let spot = subst (λ o. IsSpot k (types_in g) meant c.memory_spot.result (of_component m.inside n (memory parts) (as_written o))) (sym has)
    (c.memory_spot.ensures k m.inside t meant has (rw at.0 own.type) (rw at.0 side)) in
    on_ok_weaker c.put_spot.result
    (λ items. spot_comes k g m before n (memory parts) t meant rules rest c.args.walk.now declares c.memory_spot.result c.declare-own.new.self c.put_spot.new.spots at.1 items spot)
    c.put_spot.ensures
