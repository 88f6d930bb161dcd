use Rattle.std.proofs.Common.{◌++◌, refl, ap, ◌∙◌}
use Rattle.fir_ast.specs.Expressions.{reference}
use Rattle.fir_ast.specs.working.Views.{expr_of, sink_of}
use Rattle.fir_meaning.specs.working.WellTyped.{HasType, Reaches as ReachesThere}
use Rattle.fir_types.specs.working.Notes.{reference_notes}
use Rattle.fir_meaning.specs.working.Leafed.{target_of}
use Rattle.fir_ground.specs.working.Grounds.{Enters, types_in}
use Rattle.fir_ground.proofs.Coming.{names_stay, reference_expands}
use Rattle.fir_ground.proofs.NamedTargets.{within_cost}
use Rattle.fir_ground.proofs.PartsCome.{reference_view}
use Rattle.fir_ground.proofs.Sources.{no_target}
use Rattle.fir_ground.proofs.source.in_source.Goals as goal

pub returns-in_ok-ids-in-Ref : goal.returns-in_ok-ids-in-Ref
returns-in_ok-ids-in-Ref c =
    let s = sink_of c.in-Ref.reference in
    let g = c.args.ground.now in
    let seen = ap expr_of c.in-Ref.is ∙ reference_view c.in-Ref.reference in
    λ typed ty rest enters typed_as.
    let begins : Enters g typed (reference_notes typed s ++ rest) c.args.walk.now = rw seen at enters in
    let of : HasType typed (reference s.place s.name s.parts) ty = rw seen at typed_as in
    let reaches : ReachesThere typed s of.1 = (of.0, of.2, of.3) in
    let named = c.in_ok-target-in-Ref.ensures typed of.1 rest begins reaches in
    let within = within_cost typed s of.1 enters.stands.small reaches in
    let read = c.in_ok-ids-in-Ref.ensures (target_of typed s) named.names within in
    rw seen record {
      expands =
          reference_expands g rest c.args.walk.now c.in_reference.new.walk (record c.in_reference.new.walk { nodes = c.read_all.new.nodes })
          c.in_ok-target-in-Ref.target
          (target_of typed s) c.in_ok-ids-in-Ref.ids.items named within refl refl c.in_ok-ids-in-Ref.ensures;
      target = names_stay (types_in g) c.in_reference.new.walk.nodes.items c.read_all.new.nodes.items c.in_ok-target-in-Ref.target (target_of typed s) read.grows named.names;
    }

pub returns-in_ok-ids-in_default : goal.returns-in_ok-ids-in_default
returns-in_ok-ids-in_default c =
    λ typed ty rest enters typed_as. record {
      expands = c.in_ok-ids-in_default.ensures typed ty rest enters typed_as;
      target = rw (no_target typed c.args.expr.now c.in_default.not-Ref) tt;
    }
