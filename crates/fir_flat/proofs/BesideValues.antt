-- Values of a circuit's leaves beside those of its flat net: what is read there is worth what it stands for.
use Rattle.std.proofs.Common.{◌≡◌, ℕ, ◌^◌, ◌<◌, [], ◌∷◌, false, Some, slice_get, sym, ap, ◌∙◌}
use Rattle.fir_bits.specs.working.Operators.{type_of}
use Rattle.fir_bits.specs.declared.types.NumTy.{NumTy}
use Rattle.fir_bits.specs.declared.values.Num.{Num}
use Rattle.fir_meaning.specs.Values as over
use Rattle.fir_meaning.specs.working.LeafCircuits.{LeafCircuit, type_of_leaf}
use Rattle.fir_meaning.specs.working.TermValues.{Env}
use Rattle.fir_net.specs.declared.leaf.Leaf.{Leaf}
use Rattle.fir_net.specs.declared.net.FlatNet.{FlatNet}
use Rattle.fir_net.specs.declared.reads.Read.{Read}
use Rattle.fir_net.specs.working.IsNet.{CanRead}
use Rattle.fir_net.specs.working.Laws.{LeavesFit}
use Rattle.fir_net.specs.working.Settled.{is_clock, is_high, value_at}
use Rattle.fir_net.specs.working.Values.{at_width}
use Rattle.fir_connect.specs.working.NetTerms.{NetTerm}
use Rattle.fir_connect.specs.working.NetValues.{term_value}
use Rattle.fir_connect.proofs.FittedTwice.{fitted_own}
use Rattle.fir_flat.specs.working.FlatCircuits.{stands_for}
use Rattle.fir_flat.specs.working.FlatLaws.{IsFaithful}
use Rattle.fir_flat.proofs.FlatLeaves.{type_at}
use Rattle.fir_flat.proofs.NodeValues.{AgreesWith, read_is_worth}

-- values of a circuit's leaves within their widths, and values of a net's leaves that are the same where there is no clock
pub record IsBeside (c : LeafCircuit) (net : FlatNet) (env : Env) (e : ℕ → ℕ) : Type 0 where
  pub within : (x : ℕ) → env.numbers x < 2 ^ (type_of_leaf c x).width
  pub values : (x : ℕ) (l : Leaf) → slice_get net.leaves x ≡ Some l → is_clock l.role ≡ false → e x ≡ env.numbers x

-- at its own width a value is its number
pub own_number : (v : Num) (t : NumTy) (w : ℕ) → type_of v ≡ t → w ≡ t.width → at_width v w ≡ v.value.number
own_number v t w of wide =
    let same : w ≡ v.value.width = wide ∙ ap (λ (u : NumTy). u.width) (sym of) in
    ap (at_width v) same ∙ fitted_own v.signed v.value.width v.value.number

module _ (c : LeafCircuit) (net : FlatNet) (faithful : IsFaithful c net) (env : Env) (e : ℕ → ℕ) (beside : IsBeside c net env e) where
  pub agrees : AgreesWith net.leaves e (type_of_leaf c) env.numbers
  agrees = record { types = type_at c net faithful.flat; values = beside.values }

  pub leaves_fit : LeavesFit net.leaves e
  leaves_fit = record {
    each = λ x l at plain.
        let width = ap (λ (t : NumTy). t.width) (type_at c net faithful.flat x l at plain) in
        rw (beside.values x l at plain, width) (beside.within x);
  }

  abbrev pub worth : NetTerm → Num
  worth t = term_value (type_of_leaf c) env.numbers t

  pub read_worth : (r : Read) (d : NetTerm) → CanRead net.leaves net.nodes r → stands_for net.nodes r ≡ d → value_at net e r ≡ worth d
  read_worth r d can is = read_is_worth net e (type_of_leaf c) env.numbers faithful.whole agrees r can ∙ ap worth is

  pub high_worth : (r : Read) (d : NetTerm) → CanRead net.leaves net.nodes r → stands_for net.nodes r ≡ d → is_high net e r ≡ over.is_high (worth d ∷ [])
  high_worth r d can is = ap (λ (v : Num). over.is_high (v ∷ [])) (read_worth r d can is)
