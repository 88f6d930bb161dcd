-- What the leaves go on with before the statements, one after another.
use Rattle.std.proofs.Common.{◌≡◌, ℕ, ◌+◌, ◌<◌, List, [], ◌∷◌, ◌++◌, Bool, true, false, length, Some, ap, ◌∙◌, subst, nat_eq, arith, ⊎_elim}
use Rattle.std.specs.Prelude.{slice_get}
use Rattle.std.proofs.lemmas.Bool.{cases_Bool, eqb-true}
use Rattle.std.proofs.lemmas.List.{get_or_append_left, get_or_at, length_push}
use Rattle.std.proofs.lemmas.Option.{get_or_from_slice_get, slice_get-get_or}
use Rattle.fir_bits.specs.declared.types.NumTy.{NumTy}
use Rattle.fir_meaning.specs.working.TermValues.{Holds}
use Rattle.fir_net.specs.declared.node.Node.{Node}
use Rattle.fir_net.specs.declared.reads.Read.TheVariants as read
use Rattle.fir_connect.specs.working.Drivers.{start}
use Rattle.fir_connect.specs.working.NetTerms.{NetTerm, leaf}
use Rattle.fir_driven.specs.working.Covering.{flag_at}
use Rattle.fir_merge.specs.declared.bound.Bound.{Bound}
use Rattle.fir_merge.specs.working.Bounds.{StandsFor, types_in}
use Rattle.fir_merge.specs.working.Entries.{BoundsBelow}
use Rattle.fir_merge.specs.working.NodeTerms.{Grows, IsBelow}
use Rattle.fir_merge.proofs.StandingValues.{stands_later}
use Rattle.fir_drivers.specs.working.Drivers.{StartStands}
use Rattle.fir_drivers.specs.working.Slots.{SlotStands}
use Rattle.fir_drivers.specs.working.Walks.{ZeroStandsAt}

-- a register shows itself
pub register_starts : (types : List NumTy) (registers : List Bool) (net : List Node) (x shown : ℕ) (t : NumTy) → true ≡ flag_at registers x → shown ≡ x
    → t ≡ types_in types x → StartStands types registers net x (record { read = read.Leaf shown; ty = t })
register_starts types registers net x shown t is same type = λ narrow.
    subst (StandsFor (types_in types) net (record { read = read.Leaf shown; ty = t }))
    (ap (λ b. start (types_in types) b x) is) (record { below = tt; term = ap leaf same; has_type = type })

pub other_starts : (types : List NumTy) (registers : List Bool) (net : List Node) (x : ℕ) (r : Bound) → false ≡ flag_at registers x
    → ZeroStandsAt net (types_in types x) r → StartStands types registers net x r
other_starts types registers net x r is zero = λ narrow.
    subst (StandsFor (types_in types) net r) (ap (λ b. start (types_in types) b x) is) (zero (types_in types) (narrow x))

pub below_push : (n : ℕ) (bs : List Bound) (b : Bound) → BoundsBelow n bs → IsBelow n b.read → BoundsBelow n (bs ++ b ∷ [])
below_push n [] b h k = (k, tt)
below_push n (a ∷ bs) b h k = (h.0, below_push n bs b h.1 k)

-- one more
module _ (holds : Holds) (f : ℕ → NetTerm) (old new : List Node) (slots : List Bound) (i : ℕ) (r : Bound) (count : length slots ≡ i) (grows : Grows old new)
    (each : (x : ℕ) → x < i → SlotStands holds old slots x (f x)) (last : StandsFor holds new r (f i)) where
  last_at : slice_get (slots ++ r ∷ []) i ≡ Some r
  last_at =
      let lt : i < length (slots ++ r ∷ []) = omega (arith, length_push slots r, count) in
      slice_get-get_or (slots ++ r ∷ []) i r lt ∙ ap Some (get_or_at slots r [] r i count)

  earlier : (x : ℕ) → x < i → SlotStands holds new (slots ++ r ∷ []) x (f x)
  earlier x lt =
      let h = each x lt in
      let within : x < length slots = omega (arith, count) in
      let long : x < length (slots ++ r ∷ []) = omega (arith, length_push slots r, count) in
      record {
        bound = h.bound;
        is = slice_get-get_or (slots ++ r ∷ []) x h.bound long
            ∙ ap Some (get_or_append_left slots (r ∷ []) h.bound x within ∙ get_or_from_slice_get slots x h.bound h.bound h.is);
        stands = stands_later holds old new h.bound (f x) grows h.stands;
      }

  pub starts_more : (x : ℕ) → x < i + 1 → SlotStands holds new (slots ++ r ∷ []) x (f x)
  starts_more x lt =
      ⊎_elim
      (λ (e : nat_eq i x ≡ true).
      let same : i ≡ x = eqb-true i x e in
      subst (λ (y : ℕ). SlotStands holds new (slots ++ r ∷ []) y (f y)) same (record { bound = r; is = last_at; stands = last }))
      (λ (e : nat_eq i x ≡ false). let before : x < i = grind arith in earlier x before)
      (cases_Bool (nat_eq i x))
