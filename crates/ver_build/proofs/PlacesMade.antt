-- All places of a net, from those of its nodes and readings, of its leaves, of its resets and of its writes.
use Rattle.std.proofs.Common.{◌≡◌, ℕ, List, sym, subst, Option}
use Rattle.fir_inits.specs.declared.values.InitValues.{InitValues}
use Rattle.fir_inits.specs.working.InitValues.{AreInitValues}
use Rattle.fir_net.specs.declared.reads.Read.{Read}
use Rattle.fir_net.specs.declared.net.FlatNet.{FlatNet}
use Rattle.fir_net_names.specs.declared.name_table.NameTable.{NameTable}
use Rattle.ver_build.specs.declared.places.Guard.{Guard}
use Rattle.ver_build.specs.declared.places.NodePlace.{NodePlace}
use Rattle.ver_build.specs.declared.places.Place.{Place}
use Rattle.ver_build.specs.working.Places.{AreGuards, AreNodePlaces, ArePlaced, AreResetNets, IsPlaces}

pub places_made : (net : FlatNet) (t : NameTable) (order : List Read) (nodes readings : List NodePlace) (leaves : List Place) (names : List (Option (List ℕ)))
    (guards : List (List (Option Guard))) (inits : InitValues) (last to : ℕ) (first_nodes then_nodes first_readings : List NodePlace) (first_leaves then_leaves : List Place)
    → first_nodes ≡ nodes → then_nodes ≡ nodes → first_readings ≡ readings → first_leaves ≡ leaves → then_leaves ≡ leaves
    → AreNodePlaces net t order nodes readings last → ArePlaced net t first_nodes first_readings leaves
    → ((a : AreResetNets net t first_leaves then_nodes last names) × (a.last ≡ to)) → AreGuards net t then_leaves to guards → AreInitValues net inits
    → IsPlaces net t order (record { leaves = leaves; nodes = nodes; readings = readings; resets = names; guards = guards; inits = inits })
places_made net t order nodes readings leaves names guards inits last to first_nodes then_nodes first_readings first_leaves then_leaves a b c d e noded placed reset guarded inited =
    let resets =
    subst (λ (ls : List Place). (r : AreResetNets net t ls nodes last names) × (r.last ≡ to)) d
    (subst (λ (ns : List NodePlace). (r : AreResetNets net t first_leaves ns last names) × (r.last ≡ to)) b reset) in
    record {
      leaves =
          subst (λ (ns : List NodePlace). ArePlaced net t ns readings leaves) a (subst (λ (rs : List NodePlace). ArePlaced net t first_nodes rs leaves) c placed);
      last = last;
      nodes = noded;
      resets = resets.0;
      guards =
          subst (λ (n : ℕ). AreGuards net t leaves n guards) (sym resets.1) (subst (λ (ls : List Place). AreGuards net t ls to guards) e guarded);
      inits = inited;
    }
