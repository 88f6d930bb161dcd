use Rattle.std.proofs.Common.{◌≡◌, length, refl, sym, ap, ◌∙◌, arith}
use Rattle.fir_meaning.specs.Components.{instance}
use Rattle.fir_names.specs.working.Tabulated.{entry_at}
use Rattle.fir_type_table.specs.working.Tables.{types_of}
use Rattle.fir_types.specs.working.Seen.{seen}
use Rattle.fir_types.specs.working.Statements.{found_bundle}
use Rattle.fir_types.proofs.GrownScopes.{goes_still, walks_found}
use Rattle.fir_types.proofs.InstanceWalks.{instance_seen}
use Rattle.fir_check.proofs.statements.in_instance.Goals as goal

pub returns : goal.returns
returns c =
    let names = c.args.names.now in
    let bundles = c.args.bundles.now in
    let scope = c.args.scope.now in
    let ts = types_of scope.table in
    let d = c.in_ok-declare_found.ensures in
    let counted : c.len.result ≡ length scope.declared.items = omega (arith, scope.declared.ok.0, c.len.ensures) in
    let at = ap (λ k. found_bundle bundles (entry_at names k)) counted in
    λ modules before whole n name of begins walks. (
      refl,
      walks_found modules bundles scope c.declare_found.new.self before n (instance name) _ walks d
          (sym (ap (seen ts) (c.bundle_of-found.ensures ∙ at) ∙ instance_seen modules names whole bundles scope before n name of begins walks)),
      goes_still scope c.declare_found.new.self d.table,
    )
