-- The inits by the numbers of constants are the values of the inits.
use Rattle.std.proofs.Common.{◌≡◌, ℕ, ◌^◌, ◌<◌, List, [], map, true, false, None, Some, get_or, length, refl, sym, ap, ◌∙◌, subst}
use Rattle.std.specs.Prelude.{slice_get, Option, option_map}
use Rattle.std.specs.List.{list_any}
use Rattle.std.specs.Option.{is_some}
use Rattle.std.proofs.lemmas.List.Folds.{list_any_at}
use Rattle.std.proofs.lemmas.Nat.{pow_pos}
use Rattle.std.proofs.lemmas.Option.{get_or_from_slice_get, slice_get-map, slice_get_within}
use Rattle.fir_bits.specs.declared.values.Num.{Num}
use Rattle.fir_bits.proofs.Typing.{typed-outcome}
use Rattle.fir_net.specs.declared.leaf.Leaf.{Leaf}
use Rattle.fir_net.specs.declared.leaf.Role.TheVariants as role
use Rattle.fir_net.specs.declared.net.FlatNet.{FlatNet}
use Rattle.fir_net.specs.declared.reads.Read.{Read}
use Rattle.fir_net.specs.working.IsNet.{CanBeReset, CanRead, IsNet}
use Rattle.fir_net.specs.working.IsOrder.{IsOrder}
use Rattle.fir_net.specs.working.Values.{at_width}
use Rattle.fir_net.proofs.LeafEquations.{driven_at}
use Rattle.fir_net.proofs.WholeValues.{nodes_have_types}
use Rattle.fir_work.proofs.HeldTypes.{read_below}
use Rattle.fir_work.proofs.WholeReads.{read_of}
use Rattle.fir_inits.specs.working.AsyncInits.{async_init}
use Rattle.fir_inits.specs.working.Constants.{fitted_init, init_number, AreNumbers}
use Rattle.fir_inits.specs.working.InitValues.{init_at, AreInitValues}
use Rattle.fir_inits.proofs.Inits.{init_with, reset_of}

pub init_can : (net : FlatNet) → IsNet net → (k : ℕ) (l : Leaf) (r : Read) → slice_get net.leaves k ≡ Some l → async_init l.role ≡ Some r → CanRead net.leaves net.nodes r
init_can net whole k l r at is =
    let p = reset_of l.role r is in
    let role_is = driven_at net whole k l (role.Register p.own) at p.is_register in
    let reset = subst (CanBeReset net.leaves net.nodes l.signed) p.has_reset role_is.1 in
    subst (CanRead net.leaves net.nodes) p.inits reset.init.can

-- where no register has such a reset, there are none
pub no_values : (net : FlatNet) → list_any (λ (l : Leaf). is_some (async_init l.role)) net.leaves ≡ false → AreInitValues net []
no_values net none = record {
  fits = λ k l at. pow_pos l.width;
  each = λ k l own reset at is has kind constant state tick env clock s.
      let test : (λ (m : Leaf). is_some (async_init m.role)) (get_or net.leaves k l) ≡ true =
      ap (λ (m : Leaf). is_some (async_init m.role)) (get_or_from_slice_get net.leaves k l l at) ∙ ap is_some (init_with l.role own reset is has kind) in
      let any = list_any_at (λ (m : Leaf). is_some (async_init m.role)) net.leaves k l (slice_get_within net.leaves k l at) test in
      absurd (cc);
}

module _ (net : FlatNet) (whole : IsNet net) (order : List Read) (is_order : IsOrder net order) (ns : List ℕ) (are : AreNumbers net order (length order) ns) where
  init_is : (k : ℕ) (l : Leaf) → slice_get net.leaves k ≡ Some l → init_at (map (init_number net ns) net.leaves) k ≡ init_number net ns l
  init_is k l at = get_or_from_slice_get (map (init_number net ns) net.leaves) k (init_number net ns l) 0 (slice_get-map (init_number net ns) net.leaves k ∙ ap (option_map (init_number net ns)) at)

  init_below : (w : ℕ) (o : Option Read) → ((r : Read) → o ≡ Some r → CanRead net.leaves net.nodes r) → fitted_init net ns w o < 2 ^ w
  init_below w None can = pow_pos w
  init_below w (Some r) can = read_below typed-outcome (nodes_have_types typed-outcome) net whole ns are.held w r (can r refl)

  pub are_values : AreInitValues net (map (init_number net ns) net.leaves)
  are_values = record {
    fits = λ k l at. subst (λ (n : ℕ). n < 2 ^ l.width) (sym (init_is k l at)) (init_below l.width (async_init l.role) (λ r is. init_can net whole k l r at is));
    each = λ k l own reset at is has kind constant state tick env clock s.
        let given = init_with l.role own reset is has kind in
        let can = init_can net whole k l reset.init at given in
        let stand = is_order.all reset.init (read_of net reset.init can) in
        let same = (are.known is_order).each stand.0 reset.init (slice_get_within order stand.0 reset.init stand.1) stand.1 can constant state tick env clock s in
        sym (init_is k l at ∙ ap (fitted_init net ns l.width) given ∙ ap (λ (v : Num). at_width v l.width) same);
  }
