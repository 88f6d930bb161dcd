-- A walk of the graph is one of the circuit, and one of the circuit tells its fault.
use Rattle.std.proofs.Common.{◌≡◌, ℕ, zero, suc, ◌+◌, ◌-◌, ◌<◌, ◌≤◌, List, [], ◌∷◌, ◌++◌, Some, length, refl, sym, ap, ◌∙◌, subst, inl, inr, ◌⊎◌, ⊎_elim, arith, length-append, Vec, Global}
use Rattle.std.specs.Prelude.{slice_get}
use Rattle.std.proofs.lemmas.Bool.{cases_lt}
use Rattle.std.proofs.lemmas.Option.{same_Some, slice_get_within}
use Rattle.fir_base.specs.Lists.{In}
use Rattle.fir_base.proofs.Elements.{get_left, get_behind, there, number_of}
use Rattle.fir_base.proofs.Each.{all_from}
use Rattle.fir_graph.proofs.Positions.{distinct_from}
use Rattle.fir_ast.specs.Circuits.{CircuitTree}
use Rattle.fir_ast.specs.Faults.{Fault}
use Rattle.fir_infer_resets.specs.declared.graph.Kind.{Kind}
use Rattle.fir_infer_resets.specs.declared.graph.Kind.TheVariants.{Unsigned, Asynchronous, Reset}
use Rattle.fir_meaning.specs.ResetItems.{End}
use Rattle.fir_meaning.specs.ResetJoins.{Join}
use Rattle.fir_meaning.specs.ResetWalks.{IsReset, IsAsyncReset, IsUInt, Joined, IsChain, IsResetWalk, ShowsResets, reset_fault}
use Rattle.fir_infer_resets.specs.working.ResetGraphs.{IsResetWalk as IsNumberWalk}
use Rattle.fir_infer_resets.specs.working.BuiltGraphs.{IsBuilt}
use Rattle.fir_infer_resets.specs.working.DirectWalks.{IsWalkOfEnds}
use Rattle.fir_infer_resets.specs.working.FoundKinds.{HasEnds, TellsWalk}
use Rattle.fir_infer_resets.proofs.EndKinds.{no_uint_async}
use Rattle.fir_infer_resets.proofs.JoinedEnds.{joined_back}
use Rattle.fir_infer_resets.proofs.ListParts.{Parts, parts}
use Rattle.fir_infer_resets.proofs.NumberedEnds.{ends_long, NumberAt, number_at, all_ends}

-- a chain where each is joined to the one at the next place
chain_from : (c : CircuitTree) (e : End) (fs : List End) → ((i : ℕ) (a b : End) → slice_get (e ∷ fs) i ≡ Some a → slice_get (e ∷ fs) (suc i) ≡ Some b → Joined c a b) → IsChain c e fs
chain_from c e [] h = tt
chain_from c e (f ∷ fs) h = (h 0 e f refl refl, chain_from c f fs (λ i a b p q. h (suc i) a b p q))

-- an end by its place in a walk: a UInt is the first, an AsyncReset the last, and each other is a Reset
abbrev Spot : List ℕ → ℕ → End → Type 0
Spot walk i e = ((i ≡ 0) × IsUInt e) ⊎ IsReset e ⊎ ((i ≡ length walk - 1) × IsAsyncReset e)

spots_once : (walk : List ℕ) (i j : ℕ) (e : End) → (IsReset e → i ≡ j) → Spot walk i e → Spot walk j e → i ≡ j
spots_once walk i j e h (inl s) (inl t) = s.0 ∙ sym t.0
spots_once walk i j e h (inl s) (inr (inl t)) = h t
spots_once walk i j e h (inl s) (inr (inr t)) = absurd (no_uint_async e t.1 s.1)
spots_once walk i j e h (inr (inl s)) t = h s
spots_once walk i j e h (inr (inr s)) (inl t) = absurd (no_uint_async e s.1 t.1)
spots_once walk i j e h (inr (inr s)) (inr (inl t)) = h t
spots_once walk i j e h (inr (inr s)) (inr (inr t)) = s.0 ∙ sym t.0

module _ (c : CircuitTree) (js : List Join) (ends : List End) (graph : List (Vec ℕ Global)) (kinds : List Kind) (walk : List ℕ) (built : IsBuilt c js ends graph kinds) (w : IsNumberWalk graph kinds walk) where
  -- each number of the walk has a kind
  pub kind_within : (i x : ℕ) → slice_get walk i ≡ Some x → x < length kinds
  kind_within zero x h = slice_get_within kinds x Unsigned (w.first x h)
  kind_within (suc i) x h = by (cases_lt (suc i + 1) (length walk))
    where
      by : (suc i + 1 < length walk) ⊎ (length walk ≤ suc i + 1) → x < length kinds
      by (inl lt) = slice_get_within kinds x Reset (w.inner (suc i) x (omega arith) lt h)
      by (inr ge) =
          let last : length walk - 1 ≡ suc i = omega (arith, ge, slice_get_within walk (suc i) x h) in
          slice_get_within kinds x Asynchronous (w.last x (ap (slice_get walk) last ∙ h))

  -- a UInt and an AsyncReset are not joined in the graph
  pub three_or_more : 3 ≤ length walk
  three_or_more = by (cases_lt 2 (length walk))
    where
      by : (2 < length walk) ⊎ (length walk ≤ 2) → 3 ≤ length walk
      by (inl lt) = lt
      by (inr le) =
          let u = there walk 0 (omega (arith, w.long)) in
          let v = there walk 1 (omega (arith, w.long)) in
          let last : length walk - 1 ≡ 1 = omega (arith, le, w.long) in
          let unsigned = w.first u.0 u.1 in
          let root = w.last v.0 (ap (slice_get walk) last ∙ v.1) in
          ⊎_elim
          (λ (k : slice_get kinds v.0 ≡ Some Reset). let same : Reset ≡ Asynchronous = same_Some Reset Asynchronous (sym k ∙ root) in cc)
          (λ (k : slice_get kinds u.0 ≡ Some Reset). let same : Reset ≡ Unsigned = same_Some Reset Unsigned (sym k ∙ unsigned) in cc)
          (built.meets v.0 u.0 (w.joined 0 u.0 v.0 u.1 v.1))

  module _ (begins first : End) (others : List End) (last : End) (has : HasEnds ends walk (begins ∷ first ∷ others ++ last ∷ [])) where
    long : length walk ≡ length others + 3
    long = omega (arith, ends_long ends walk (begins ∷ first ∷ others ++ last ∷ []) has, length-append others (last ∷ []))

    at : (i : ℕ) (e : End) → slice_get (begins ∷ first ∷ others ++ last ∷ []) i ≡ Some e → NumberAt ends walk i e
    at = number_at ends walk (begins ∷ first ∷ others ++ last ∷ []) has

    uint_end : IsUInt begins
    uint_end = let p = at 0 begins refl in built.kind p.number begins Unsigned p.is (w.first p.number p.at)

    async_end : IsAsyncReset last
    async_end =
        let p = at (suc (suc (length others))) last (get_behind others [] last) in
        let place : length walk - 1 ≡ suc (suc (length others)) = omega (arith, long) in
        built.kind p.number last Asynchronous p.is (w.last p.number (ap (slice_get walk) place ∙ p.at))

    one_reset : (e : End) → In (first ∷ others) e → IsReset e
    one_reset e m =
        let k = number_of (first ∷ others) e m in
        let within = slice_get_within (first ∷ others) k.0 e k.1 in
        let p = at (suc k.0) e (get_left (first ∷ others) (last ∷ []) k.0 within ∙ k.1) in
        built.kind p.number e Reset p.is (w.inner (suc k.0) p.number (omega arith) (omega (arith, long, within)) p.at)

    pair : (i : ℕ) (a b : End) → slice_get (begins ∷ first ∷ others ++ last ∷ []) i ≡ Some a → slice_get (begins ∷ first ∷ others ++ last ∷ []) (suc i) ≡ Some b → Joined c a b
    pair i a b h k =
        let p = at i a h in
        let q = at (suc i) b k in
        let next : i + 1 ≡ suc i = omega arith in
        joined_back c b a (built.joined q.number p.number b a (w.joined i p.number q.number p.at (ap (slice_get walk) next ∙ q.at)) q.is p.is)

    spot : (i x : ℕ) (e : End) → slice_get walk i ≡ Some x → slice_get ends x ≡ Some e → Spot walk i e
    spot zero x e h is = inl (refl, built.kind x e Unsigned is (w.first x h))
    spot (suc i) x e h is = by (cases_lt (suc i + 1) (length walk))
      where
        by : (suc i + 1 < length walk) ⊎ (length walk ≤ suc i + 1) → Spot walk (suc i) e
        by (inl lt) = inr (inl (built.kind x e Reset is (w.inner (suc i) x (omega arith) lt h)))
        by (inr ge) =
            let place : length walk - 1 ≡ suc i = omega (arith, ge, slice_get_within walk (suc i) x h) in
            inr (inr (sym place, built.kind x e Asynchronous is (w.last x (ap (slice_get walk) place ∙ h))))

    -- a Reset has one number, and the others stand at the ends of the walk
    once : (i j : ℕ) (e : End) → slice_get (begins ∷ first ∷ others ++ last ∷ []) i ≡ Some e → slice_get (begins ∷ first ∷ others ++ last ∷ []) j ≡ Some e → i ≡ j
    once i j e h k =
        let p = at i e h in
        let q = at j e k in
        spots_once walk i j e (λ r. w.once i j q.number (p.at ∙ ap Some (built.once p.number q.number e r p.is q.is)) q.at)
        (spot i p.number e p.at p.is) (spot j q.number e q.at q.is)

    walks : IsResetWalk c begins first others last
    walks =
        record {
          uint_end = uint_end;
          resets = all_from IsReset (first ∷ others) one_reset;
          async_end = async_end;
          chain = chain_from c begins (first ∷ others ++ last ∷ []) pair;
          once = distinct_from (begins ∷ first ∷ others ++ last ∷ []) once;
        }

-- each of its numbers has an end, and they are a walk
pub walks_ends : (c : CircuitTree) (js : List Join) (ends : List End) (graph : List (Vec ℕ Global)) (kinds : List Kind) (walk : List ℕ) → IsBuilt c js ends graph kinds → IsNumberWalk graph kinds walk → IsWalkOfEnds c ends walk
walks_ends c js ends graph kinds walk built w =
    let es = all_ends ends walk (λ i x h. omega (arith, kind_within c js ends graph kinds walk built w i x h, built.long)) in
    by es.0 es.1 (parts es.0 (omega (arith, three_or_more c js ends graph kinds walk built w, ends_long ends walk es.0 es.1)))
  where
    by : (es : List End) → HasEnds ends walk es → Parts es → IsWalkOfEnds c ends walk
    by es has p =
        let all = subst (HasEnds ends walk) p.is has in
        record { begins = p.first; first = p.second; others = p.others; last = p.last; has = all; is = walks c js ends graph kinds walk built w p.first p.second p.others p.last all }

-- the fault that such a walk tells, and shows
pub told_walk : (c : CircuitTree) (ends : List End) (walk : List ℕ) → IsWalkOfEnds c ends walk → (f : Fault) × TellsWalk ends walk f × ShowsResets c f
told_walk c ends walk w =
    let f = reset_fault w.begins w.first w.others w.last in (
      f,
      record { begins = w.begins; first = w.first; others = w.others; last = w.last; has = w.has; is = refl },
      record { begins = w.begins; first = w.first; others = w.others; ends = w.last; walk = w.is; is = refl },
    )

pub long_walk : (c : CircuitTree) (ends : List End) (walk : List ℕ) → IsWalkOfEnds c ends walk → 2 ≤ length walk
long_walk c ends walk w = omega (arith, ends_long ends walk (w.begins ∷ w.first ∷ w.others ++ w.last ∷ []) w.has)
